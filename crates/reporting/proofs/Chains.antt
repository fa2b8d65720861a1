-- The lines of a report as runs of pieces.
use Rattle.std.proofs.Common.{◌≡◌, refl, sym, ap, ◌∙◌, subst, List, [], ◌∷◌, ◌++◌, append_assoc, append-nil, ℕ, zero, suc, ◌/◌, ◌≤◌, arith, length}
use Rattle.std.specs.Prelude.{map}
use Rattle.std.proofs.Math.Option.{Option}
use Rattle.ast.specs.Numbers.{type_number}
use Rattle.text.specs.Text.{part}
use Rattle.rows.specs.Rows.{line_in}
use Rattle.names.specs.declared.Item.{Item}
use Rattle.names.specs.Items.{Inside, NamedRow, line_of, item_of, item_in}
use Rattle.paths.specs.declared.NamePlace.{NamePlace}
use Rattle.paths.specs.declared.Path.{Path}
use Rattle.paths.specs.Path.{table_from, table_of, WellFormed}
use Rattle.output.specs.Decimal.{decimal}
use Rattle.reporting.specs.Fields.{number_fields, number_line}
use Rattle.reporting.specs.Text.{fields, report_line, taker, item_line, item_lines, path_line, path_lines, wait_lines, acceptance}
use Rattle.reporting.specs.declared.analyzed.Analyzed.{Analyzed}
use Rattle.reporting.specs.Analyzed.{analysis_of}
use Rattle.reporting.proofs.Loops.{all-tables}

-- numbers as fields, and the fields after them
pub fields-after : (xs : List ℕ) (fs : List (List ℕ)) → fields (map decimal xs ++ fs) ≡ number_fields xs ++ fields fs
unfolding fields
fields-after [] fs = refl
fields-after (x ∷ xs) fs = ap (λ l. 44 ∷ (decimal x ++ l)) (fields-after xs fs) ∙ sym (append_assoc (44 ∷ decimal x) (number_fields xs) (fields fs))

pub line-run : (opening : List ℕ) (x : ℕ) (xs : List ℕ) → number_line opening x xs ≡ (opening ++ (decimal x ++ number_fields xs)) ++ (10 ∷ [])
unfolding number_line fields
line-run opening x xs =
    let rest = ap fields (sym (append-nil (map decimal xs))) ∙ fields-after xs [] in
    ap (λ l. opening ++ (decimal x ++ l)) rest ∙ ap (opening ++◌) (sym (append_assoc (decimal x) (number_fields xs) (10 ∷ []))) ∙ sym (append_assoc opening (decimal x ++ number_fields xs) (10 ∷ []))

-- the item that a row holds
module _ {s t : List ℕ} {i : ℕ} (row : NamedRow s t i) {it : Item} (is : line_in t i ≡ line_of it) where
  pub named-inside : Inside s it.name
  named-inside = let e = row.holds.is in let n : row.holds.held.name ≡ it.name = cc in subst (λ x. Inside s x) n row.inside

  -- its line: four numbers and its name
  pub item-run : (k sort took line : ℕ) (by : Option ℕ) {name : List ℕ} → sort ≡ type_number it.ty → taker by ≡ decimal took ∷ decimal line ∷ [] → name ≡ part s it.name → item_line k (record { param = item_in s t i; taken = by }) ≡ ((80 ∷ 44 ∷ []) ++ (decimal k ++ number_fields (sort ∷ took ∷ line ∷ []))) ++ ((44 ∷ name) ++ (10 ∷ []))
  unfolding item_line report_line item_in item_of fields
  item-run k sort took line by e f g = rw (is, f, ← e, g, item_in, item_line) (ap (λ l. 80 ∷ l) (fields-after (k ∷ sort ∷ took ∷ line ∷ []) (part s it.name ∷ [])))

-- a table has as many entries as its path has items
table-full : (s t : List ℕ) (qs : List NamePlace) (x n : ℕ) → n ≤ length qs → length (table_from s t qs x n) ≡ n
unfolding table_from
table-full s t [] x n h = omega arith
table-full s t (q ∷ qs) x zero h = refl
table-full s t (q ∷ qs) x (suc n) h = ap suc (table-full s t qs (x / 2) n (omega arith))

pub table-length : {s t : List ℕ} {p : Path} → WellFormed s t p → length (table_of s t p) ≡ p.count
unfolding table_of
table-length {s} {t} {p} w = let few = w.few in let full = w.full in table-full s t p.places p.taken p.count (omega arith)

-- a path's head and its items
pub path-run : (p : ℕ) {s t : List ℕ} {path : Path} → WellFormed s t path → path_line p (table_of s t path) ≡ number_line (68 ∷ 44 ∷ []) p (path.count ∷ []) ++ item_lines 0 (table_of s t path)
unfolding path_line report_line fields number_line
path-run p {s} {t} {path} w = ap (λ n. number_line (68 ∷ 44 ∷ []) p (n ∷ []) ++ item_lines 0 (table_of s t path)) (table-length w)

-- an acceptance's first line, its paths and its waits
pub acceptance-run : (a : Analyzed) → acceptance (analysis_of a) ≡ number_line (65 ∷ 44 ∷ []) a.declared.count [] ++ (path_lines 0 (analysis_of a).tables ++ wait_lines (analysis_of a).waits)
unfolding acceptance report_line fields number_line
acceptance-run a = ap (λ n. number_line (65 ∷ 44 ∷ []) n [] ++ (path_lines 0 (analysis_of a).tables ++ wait_lines (analysis_of a).waits)) (all-tables a)

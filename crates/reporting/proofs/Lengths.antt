-- How long the lines of a report can be.
use Rattle.std.proofs.Common.{◌≡◌, refl, Bool, true, false, ap, List, [], ◌∷◌, ◌++◌, ℕ, suc, ◌+◌, ◌^◌, ◌≤◌, ◌<◌, arith, length, length-append, drop}
use Rattle.std.proofs.Math.Option.{Option, some, none}
use Rattle.std.proofs.lemmas.List.{length-take, length-drop}
use Rattle.ast.specs.declared.Type.{«Type» as ItemType}
use Rattle.ast.specs.declared.Location.{Location}
use Rattle.ast.specs.declared.CompileError.{CompileError}
use Rattle.ast.specs.Tree.{StackParam, number, unplaced}
use Rattle.ast.specs.Numbers.{type_number}
use Rattle.text.specs.declared.Place.{Place}
use Rattle.text.specs.Text.{part}
use Rattle.listing.specs.Kinds.{item_line as line_item}
use Rattle.rows.specs.Rows.{line_in}
use Rattle.reader.specs.Ceilings.{max_bytes}
use Rattle.reader.specs.Reading.{item}
use Rattle.names.specs.Items.{item_of, item_in}
use Rattle.rules.specs.Table.{Table}
use Rattle.paths.specs.declared.NamePlace.{NamePlace}
use Rattle.output.specs.Decimal.{decimal}
use Rattle.output.proofs.Laws.{decimal-short}
use Rattle.reporting.specs.Bounds.{refusal_bound, item_bound, items_bound, path_bound, paths_bound, acceptance_bound}
use Rattle.reporting.specs.Fields.{taken_if, entry_in}
use Rattle.reporting.specs.Text.{fields, report_line, taker, item_line, item_lines, path_line, path_lines, wait_lines, acceptance, refusal}
use Rattle.reporting.specs.declared.analyzed.Analyzed.{Analyzed}
use Rattle.reporting.specs.Analyzed.{analysis_of}
use Rattle.reporting.proofs.Loops.{all-tables}
use Rattle.reporting.proofs.WaitLines.{rows_short}

-- with a comma before each
abbrev pub commas : List (List ℕ) → ℕ
commas [] = 0
commas (f ∷ fs) = suc (length f) + commas fs

fields-length : (fs : List (List ℕ)) → length (fields fs) ≡ suc (commas fs)
unfolding fields
fields-length [] = refl
fields-length (f ∷ fs) = omega (arith, length-append f (fields fs), fields-length fs)

line-length : (letter : ℕ) (fs : List (List ℕ)) → length (report_line letter fs) ≡ suc (suc (commas fs))
unfolding report_line
line-length letter fs = ap suc (fields-length fs)

-- R, a number and four fields
pub refusal-short : (x : CompileError) → number x.kind < 2 ^ 32 → x.loc.start < 2 ^ 32 → x.loc.end < 2 ^ 32 → x.loc.line < 2 ^ 32 → x.loc.column < 2 ^ 32 → length (refusal x) ≤ refusal_bound
unfolding refusal
refusal-short x a b c d e =
    omega (arith, line-length 82 (decimal (number x.kind) ∷ decimal x.loc.start ∷ decimal x.loc.end ∷ decimal x.loc.line ∷ decimal x.loc.column ∷ []), decimal-short (number x.kind) a, decimal-short x.loc.start b, decimal-short x.loc.end c, decimal-short x.loc.line d, decimal-short x.loc.column e)

-- ---- an item

part-short : (s : List ℕ) (x : Place) → length (part s x) ≤ length s
unfolding part
part-short s x = omega (arith, length-take x.len (drop x.at s), length-drop x.at s)

-- a name is no longer than its listing
name-short : (s t : List ℕ) (i : ℕ) → length (item_in s t i).identifier ≤ length s
unfolding item_in item_of
name-short s t i = go (line_item (line_in t i))
  where
    go : (o : Option (Location × ItemType × Place)) → length (elim o as (λ _. StackParam) [ none ↦ item s unplaced ItemType.Boolean (record { at = 0; len = 0 }) | some (w, k, x) ↦ item s w k x ]).identifier ≤ length s
    go none = part-short s (record { at = 0; len = 0 })
    go (some (w, k, x)) = part-short s x

type-short : (k : ItemType) → type_number k < 2 ^ 32
type-short ItemType.Signature = omega arith
type-short ItemType.Number = omega arith
type-short ItemType.String = omega arith
type-short ItemType.Boolean = omega arith

-- whether it is taken, and the line that takes it, in 32 bits
taker-short : (taken : Bool) (n : ℕ) (fs : List (List ℕ)) → n < 2 ^ 32 → commas (taker (taken_if taken n) ++ fs) ≤ 22 + commas fs
unfolding taker
taker-short false n fs h = omega (arith, decimal-short 0 (omega arith))
taker-short true n fs h = omega (arith, decimal-short 1 (omega arith), decimal-short n h)

-- P, four fields, a name of a listing's bytes
pub entry-short : (s t : List ℕ) (k : ℕ) (q : NamePlace) (taken : Bool) → k < 2 ^ 32 → q.line < 2 ^ 32 → length s ≤ max_bytes → length (item_line k (entry_in s t q taken)) ≤ item_bound
unfolding item_line
entry-short s t k q taken h few short =
    let p = item_in s t q.row in
    let sort = type_number p.ty in
    let name = p.identifier ∷ [] in
    omega (arith, line-length 80 (decimal k ∷ decimal sort ∷ (taker (taken_if taken q.line) ++ name)), decimal-short k h, decimal-short sort (type-short p.ty), taker-short taken q.line name few, name-short s t q.row)

-- ---- a text that is put piece by piece

-- at most so many bytes of a text are put, the rest is left
pub record Spent (whole : List ℕ) (done : ℕ) (rest : List ℕ) : Type 0 where
  pub short : length whole ≤ done + length rest

pub spent-all : {whole rest : List ℕ} → rest ≡ whole → Spent whole 0 rest
spent-all e = record { short = omega (arith, ap length e) }

module _ {whole rest : List ℕ} {done : ℕ} (spent : Spent whole done rest) where
  pub spent-next : (a b : List ℕ) → rest ≡ a ++ b → {bound next : ℕ} → length a ≤ bound → next ≡ done + bound → Spent whole next b
  spent-next a b e k n = record { short = omega (arith, spent.short, ap length e, length-append a b) }

  pub spent-done : rest ≡ [] → length whole ≤ done
  spent-done e = omega (arith, spent.short, ap length e)

-- D, two fields and the items
pub path-short : (p : ℕ) (t : Table) → p < 2 ^ 32 → length t < 2 ^ 32 → length (item_lines 0 t) ≤ items_bound → length (path_line p t) ≤ path_bound
unfolding path_line
path-short p t h few items =
    let count = length t in
    omega (arith, length-append (report_line 68 (decimal p ∷ decimal count ∷ [])) (item_lines 0 t), line-length 68 (decimal p ∷ decimal count ∷ []), decimal-short p h, decimal-short count few)

-- A and a number, the paths and the waits
pub acceptance-short : (a : Analyzed) → length (path_lines 0 (analysis_of a).tables) ≤ paths_bound → length (acceptance (analysis_of a)) ≤ acceptance_bound
unfolding acceptance
acceptance-short a paths =
    let count = length (analysis_of a).tables in
    let before = path_lines 0 (analysis_of a).tables in
    let after = wait_lines (analysis_of a).waits in
    omega (arith, length-append (report_line 65 (decimal count ∷ [])) (before ++ after), length-append before after, line-length 65 (decimal count ∷ []), decimal-short count (omega (arith, all-tables a)), rows_short a.rows.table.now a.block)

-- What is left of a text that is put piece by piece.
use Rattle.std.proofs.Common.{◌≡◌, refl, ap, ◌∙◌, List, [], ◌∷◌, ◌++◌, ℕ, zero, suc, ◌+◌, ◌-◌, ◌/◌, ◌%◌, ◌^◌, ◌≤◌, ◌<◌, arith, length, get_or, map, take, drop}
use Rattle.std.specs.Prelude.{Bool, eqb}
use Rattle.std.proofs.Math.Seq.{drop-cons}
use Rattle.std.proofs.lemmas.List.{drop_all}
use lib.Pow.{shr-shr}
use Rattle.taken.specs.Taken.{bit_at, is_taken}
use Rattle.taken.proofs.Bits.{shifted}
use Rattle.paths.specs.declared.NamePlace.{NamePlace}
use Rattle.paths.specs.declared.Path.{Path}
use Rattle.paths.specs.Path.{taken_by, table_from, table_of, no_place, WellFormed}
use Rattle.tables.specs.State.{path_at}
use Rattle.tables.proofs.State.{tables-length}
use Rattle.output.specs.Decimal.{decimal}
use Rattle.reporting.specs.Fields.{number_fields, taken_if, entry_in}
use Rattle.reporting.specs.Text.{item_line, item_lines, path_line, path_lines}
use Rattle.reporting.specs.declared.analyzed.Analyzed.{Analyzed}
use Rattle.reporting.specs.Analyzed.{analysis_of}

-- the field of the number at k, and those after it
pub fields-next : (xs : List ℕ) (k : ℕ) → k < length xs → number_fields (drop k xs) ≡ (44 ∷ decimal (get_or xs k 0)) ++ number_fields (drop (k + 1) xs)
fields-next xs k h = let e : k + 1 ≡ suc k = omega arith in rw (e, drop-cons xs k 0 h) refl

pub fields-none : (xs : List ℕ) (k : ℕ) → length xs ≤ k → number_fields (drop k xs) ≡ []
fields-none xs k h = ap number_fields (drop_all k xs h)

-- an item is taken if its bit is 1
taken-by : (x k n : ℕ) → taken_by (x / 2 ^ k % 2) n ≡ taken_if (is_taken x k) n
unfolding taken_by is_taken
taken-by x k n = rw (shifted x k) (go (bit_at x k) (omega (arith, shifted x k)))
  where
    go : (b : ℕ) → b < 2 → taken_by b n ≡ taken_if (eqb b 1) n
    go zero h = refl
    go (suc zero) h = refl
    go (suc (suc b)) h = absurd (omega arith)

-- the items of a path from position k on
abbrev pub items_left : List ℕ → List ℕ → Path → ℕ → List ℕ
items_left s t p k = item_lines k (table_from s t (drop k p.places) (p.taken / 2 ^ k) (p.count - k))

module _ {s t : List ℕ} {p : Path} (w : WellFormed s t p) where
  pub items-all : items_left s t p 0 ≡ item_lines 0 (table_of s t p)
  unfolding table_of
  items-all = let e : p.count - 0 ≡ p.count = omega arith in let x : p.taken / 2 ^ 0 ≡ p.taken = omega arith in rw (e, x)

  module _ (k : ℕ) where
    pub items-next : k < p.count → {taken : Bool} → taken ≡ is_taken p.taken k → items_left s t p k ≡ item_line k (entry_in s t (get_or p.places k no_place) taken) ++ items_left s t p (k + 1)
    unfolding item_lines table_from
    items-next h is =
        let e : p.count - k ≡ suc (p.count - suc k) = omega arith in
        let f : k + 1 ≡ suc k = omega arith in
        rw (is, ← shr-shr p.taken k 1, f, e, drop-cons p.places k no_place (omega (arith, w.few, w.full)), item_lines, table_from, ← taken-by p.taken k (get_or p.places k no_place).line) refl

    pub items-none : p.count ≤ k → items_left s t p k ≡ []
    unfolding item_lines table_from
    items-none h = let e : p.count - k ≡ 0 = omega arith in ap (λ n. item_lines k (table_from s t (drop k p.places) (p.taken / 2 ^ k) n)) e ∙ go (drop k p.places)
      where
        go : (l : List NamePlace) → item_lines k (table_from s t l (p.taken / 2 ^ k) 0) ≡ []
        go [] = refl
        go (q ∷ l) = refl

-- the paths from path p on
abbrev pub paths_left : Analyzed → ℕ → List ℕ
paths_left a p = path_lines p (map (table_of a.rows.listing.now a.rows.table.now) (take (a.declared.count - p) (drop p a.paths.now)))

module _ (a : Analyzed) where
  pub paths-all : paths_left a 0 ≡ path_lines 0 (analysis_of a).tables
  paths-all = let e : a.declared.count - 0 ≡ a.declared.count = omega arith in rw e

  module _ (p : ℕ) where
    pub paths-next : p < a.declared.count → paths_left a p ≡ path_line p (table_of a.rows.listing.now a.rows.table.now (path_at a.paths.now p)) ++ paths_left a (p + 1)
    unfolding path_lines
    paths-next h =
        let e : a.declared.count - p ≡ suc (a.declared.count - suc p) = omega arith in
        let f : p + 1 ≡ suc p = omega arith in
        rw (f, e, drop-cons a.paths.now p (record { places = []; count = 0; taken = 0 }) (omega arith), path_lines) refl

    pub paths-none : a.declared.count ≤ p → paths_left a p ≡ []
    unfolding path_lines
    paths-none h = let e : a.declared.count - p ≡ 0 = omega arith in rw (e, path_lines)

  -- as many tables as declarations
  pub all-tables : length (analysis_of a).tables ≡ a.declared.count
  all-tables = tables-length a.rows.listing.now a.rows.table.now a.declared a.paths.now (omega arith)

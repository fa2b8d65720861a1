-- The lines of the waits, row by row.
use Prim.Native.Nat.{ℕ, zero, suc, ◌+◌, ◌-◌, ◌*◌, ◌≤◌, ◌<◌, ◌^◌}
use native.Mathlib.Omega.{arith}
use mathlib.Core.List.{List, [], ◌∷◌, ◌++◌, append_assoc, append-nil}
use mathlib.Core.Path.{◌≡◌, refl, sym, ap, ◌∙◌}
use lib.ListN.{length, length-append}
use Rattle.std.specs.Prelude.{Option, None, Some}
use Rattle.rows.specs.Rows.{line_in}
use Rattle.reader.specs.Ceilings.{max_lines}
use Rattle.rules.specs.Walk.{Wait}
use Rattle.limits.specs.Waits.{found_in}
use Rattle.limits.proofs.Found.{found-small}
use Rattle.output.proofs.Laws.{decimal-short}
use Rattle.reporting.specs.Text.{fields, report_line, wait_line, wait_lines}
use Rattle.reporting.specs.Fields.{number_line}
use Rattle.reporting.specs.Waits.{wait_at, waits_from, waits_between, RowsBetween}
use Rattle.reporting.proofs.Chains.{line-run}

-- the lines of a row, by what was found in it
abbrev pub row_lines : ℕ → Option ℕ → List ℕ
row_lines i f = wait_lines (wait_at i f)

pub no_line : (i : ℕ) {f : Option ℕ} → f ≡ None → row_lines i f ≡ []
unfolding wait_lines
no_line i e = ap (row_lines i) e

pub one_line : (i n : ℕ) {f : Option ℕ} → f ≡ Some n → row_lines i f ≡ number_line (87 ∷ 44 ∷ []) (i + 1) (n ∷ [])
unfolding wait_lines wait_line report_line fields number_line
one_line i n e =
    let s : suc i ≡ i + 1 = omega arith in
    ap (row_lines i) e ∙ append-nil (number_line (87 ∷ 44 ∷ []) (suc i) (n ∷ [])) ∙ ap (λ k. number_line (87 ∷ 44 ∷ []) k (n ∷ [])) s

-- of waits after others
lines-append : (us vs : List Wait) → wait_lines (us ++ vs) ≡ wait_lines us ++ wait_lines vs
unfolding wait_lines
lines-append [] vs = refl
lines-append (u ∷ us) vs = ap (wait_line u ++◌) (lines-append us vs) ∙ sym (append_assoc (wait_line u) (wait_lines us) (wait_lines vs))

-- of the rows from row i up to j
module _ (t : List ℕ) (i j : ℕ) where
  pub rows_next : i < j → wait_lines (waits_between t i j) ≡ row_lines i (found_in (line_in t i)) ++ wait_lines (waits_between t (i + 1) j)
  unfolding waits_from
  rows_next h =
      let e : j - i ≡ suc (j - suc i) = omega arith in
      let f : suc i ≡ i + 1 = omega arith in
      ap wait_lines (ap (waits_from (line_in t) i) e) ∙ lines-append (wait_at i (found_in (line_in t i))) (waits_between t (suc i) j) ∙ ap (λ k. row_lines i (found_in (line_in t i)) ++ wait_lines (waits_between t k j)) f

  pub rows_none : j ≤ i → wait_lines (waits_between t i j) ≡ []
  unfolding waits_from wait_lines
  rows_none h = let e : j - i ≡ 0 = omega arith in ap (λ n. wait_lines (waits_from (line_in t) i n)) e

-- the lines of a row have at most 24 bytes
line-short : (a b : ℕ) → a < 2 ^ 32 → b < 2 ^ 32 → length (number_line (87 ∷ 44 ∷ []) a (b ∷ [])) ≤ 24
line-short a b h k =
    let run = ap length (line-run (87 ∷ 44 ∷ []) a (b ∷ [])) in
    omega (arith, simp length-append at run, decimal-short a h, decimal-short b k)

row-short : (i : ℕ) → i < max_lines → (f : Option ℕ) → ((k : ℕ) → f ≡ Some k → k < 2 ^ 32) → length (row_lines i f) ≤ 24
row-short i h (Some k) small = omega (arith, ap length (one_line i k refl), line-short (i + 1) k (omega arith) (small k refl))
row-short i h None small = omega (arith, ap length (no_line i refl))

-- so the lines of n rows have at most 24 times n
from-short : (t : List ℕ) (i n : ℕ) → i + n ≤ max_lines → length (wait_lines (waits_from (line_in t) i n)) ≤ n * 24
unfolding waits_from wait_lines
from-short t i zero h = omega arith
from-short t i (suc n) h =
    let f = found_in (line_in t i) in
    let whole = ap length (lines-append (wait_at i f) (waits_from (line_in t) (suc i) n)) ∙ length-append (row_lines i f) (wait_lines (waits_from (line_in t) (suc i) n)) in
    omega (arith, whole, row-short i (omega arith) f (found-small (line_in t i)), from-short t (suc i) n (omega arith))

pub rows_short : (t : List ℕ) {i j : ℕ} → RowsBetween t i j → length (wait_lines (waits_between t i j)) ≤ 24576
rows_short t {i} {j} h = omega (arith, h.0, h.2, from-short t i (j - i) (omega (arith, h.0, h.2)))

-- What Check answers, from what its parts did.
use Prim.Native.Nat.{ℕ}
use mathlib.Core.List.{List}
use mathlib.Core.Logic.{◌↔◌}
use mathlib.Core.Path.{◌≡◌, refl, sym, ap, ◌∙◌, subst}
use Rattle.ast.specs.declared.CompileError.{CompileError}
use Rattle.rules.specs.Result.{Result, Checked, answer}
use Rattle.rules.proofs.Basics.{Ok-injective}
use Rattle.rules.specs.Analyze.{Analysis}
use Rattle.std.specs.Prelude.{Ok, Err, IsErrAnd}
use Rattle.std.proofs.lemmas.Result.{err_from_is_err_and}
use Rattle.rules.specs.Table.{Table}
use Rattle.tables.specs.Held.{held_tables}
use Rattle.examiner.specs.Check.{examine, check}
use Rattle.examiner.specs.InOrder.{InOrder}
use Rattle.examiner.proofs.Demand3.{demand3}

-- demand 3 of the answer
demanded : (s : List ℕ) (words : ℕ) (r : Checked) → r ≡ check s words → (r ≡ Ok tt) ↔ InOrder s words
demanded s words r e = subst (λ r. (r ≡ Ok tt) ↔ InOrder s words) (sym e) (demand3 s words)

-- what Check promises of its answer r
abbrev pub Promised : List ℕ → ℕ → Checked → Type 0
Promised s words r = (r ≡ check s words) × ((r ≡ Ok tt) ↔ InOrder s words)

module _ (s : List ℕ) (words : ℕ) {a : Result Analysis} (is : examine s words ≡ a) where
  pub check-is : check s words ≡ answer a
  unfolding check
  check-is = ap answer is

  pub answers : (r : Checked) → r ≡ answer a → Promised s words r
  answers r e = let f = e ∙ sym check-is in (f, demanded s words r f)

pub refuses : (s : List ℕ) (words : ℕ) {x : CompileError} → examine s words ≡ Err x → (r : Checked) → IsErrAnd r (λ z. z ≡ x) → Promised s words r
unfolding answer
refuses s words is r e = let (z, k, l) = err_from_is_err_and r e in answers s words is r (k ∙ ap Err l)

-- what an analysis found, by the tables that are held of it
pub held-err : (w : Result Analysis) (x : CompileError) → held_tables w ≡ Err x → w ≡ Err x
held-err (Ok a) x h = cc
held-err (Err y) x h = let e : y ≡ x = cc in ap Err e

pub held-ok : (w : Result Analysis) {ts : List Table} → held_tables w ≡ Ok ts → (a : Analysis) × (w ≡ Ok a) × (a.tables ≡ ts)
held-ok (Ok a) h = (a, refl, Ok-injective h)
held-ok (Err y) h = cc

-- what Check answers of it
pub answers-err : (w : Result Analysis) {x : CompileError} (r : Checked) → held_tables w ≡ Err x → IsErrAnd r (λ y. y ≡ x) → r ≡ answer w
unfolding answer
answers-err w r h e = let (y, k, l) = err_from_is_err_and r e in k ∙ ap Err l ∙ sym (ap answer (held-err w _ h))

pub answers-ok : (w : Result Analysis) {ts : List Table} → held_tables w ≡ Ok ts → Ok tt ≡ answer w
unfolding answer
answers-ok w h = sym (ap answer (held-ok w h).1)

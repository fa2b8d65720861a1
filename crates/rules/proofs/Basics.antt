-- Answers taken apart, and what the test on names says.
use mathlib.Core.Bool.{Bool, true, false}
use mathlib.Core.List.{[], ◌∷◌}
use mathlib.Core.Path.{◌≡◌, refl, sym, subst}
use lib.Dec.{eqb}
use borrow.Author.Tests.{eqb-true, eq-eqb}
use Rattle.std.specs.Prelude.{Ok, Err}
use Rattle.std.proofs.lemmas.Bool.{and_parts}
use Rattle.rules.specs.Ast.{Name, same, CompileError}
use Rattle.rules.specs.Result.{Result, Checked, ◌>>=◌, ◌>>◌, both, answer}

pub Err≢Ok : {A : Type 0} {x : CompileError} {a : A} → ◌≡◌ {A = Result A} (Err x) (Ok a) → ⊥
Err≢Ok h = cc

pub Ok-injective : {A : Type 0} {a b : A} → ◌≡◌ {A = Result A} (Ok a) (Ok b) → a ≡ b
Ok-injective h = cc

pub true≢false' : {b : Bool} → b ≡ true → b ≡ false → ⊥
true≢false' p q = cc

-- a bind that succeeds: both parts do
pub record Bound {A B : Type 0} (m : Result A) (f : A → Result B) (b : B) : Type 0 where
  pub value : A
  pub first : m ≡ Ok value
  pub then : f value ≡ Ok b

pub bound : {A B : Type 0} (m : Result A) (f : A → Result B) {b : B} → (m >>= f) ≡ Ok b → Bound m f b
bound (Ok a) f h = record { value = a; first = refl; then = h }
bound (Err x) f h = cc

pub checked : {A : Type 0} (c : Checked) (r : Result A) {a : A} → (c >> r) ≡ Ok a → (c ≡ Ok tt) × (r ≡ Ok a)
checked (Ok _) r h = (refl, h)
checked (Err x) r h = cc

pub both_ok : (a b : Checked) → both a b ≡ Ok tt → (a ≡ Ok tt) × (b ≡ Ok tt)
both_ok (Ok _) b h = (refl, h)
both_ok (Err x) b h = cc

pub answer_ok : {A : Type 0} (r : Result A) → answer r ≡ Ok tt → (a : A) × (r ≡ Ok a)
unfolding answer
answer_ok (Ok a) h = (a, refl)
answer_ok (Err x) h = cc

pub same_true : (x y : Name) → same x y ≡ true → x ≡ y
unfolding same
same_true [] [] h = refl
same_true [] (b ∷ y) h = cc
same_true (a ∷ x) [] h = cc
same_true (a ∷ x) (b ∷ y) h =
    let p = and_parts (eqb a b) (same x y) h in
    let q = eqb-true a b p.0 in
    let r = same_true x y p.1 in
    cc

pub same_refl : (x : Name) → same x x ≡ true
unfolding same
same_refl [] = refl
same_refl (a ∷ x) = rw (eq-eqb a a refl) (same_refl x)

pub same_false : (x y : Name) → same x y ≡ false → x ≡ y → ⊥
same_false x y h q = true≢false' (same_refl x) (subst (λ z. same x z ≡ false) (sym q) h)

pub same_not : (x y : Name) → (x ≡ y → ⊥) → same x y ≡ false
same_not x y h = go (same x y) refl
  where
    go : (b : Bool) → same x y ≡ b → same x y ≡ false
    go true e = absurd (h (same_true x y e))
    go false e = e

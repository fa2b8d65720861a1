-- Types in order, with the declarations of the paths to come in place of a path number.
use Prim.Native.Nat.{ℕ, zero, suc, ◌+◌}
use mathlib.Core.List.{List, [], ◌∷◌, map}
use mathlib.Core.Path.{◌≡◌, refl, ◌∙◌, ap}
use lib.ListN.{drop}
use Rattle.std.specs.Prelude.{Ok}
use Rattle.std.proofs.lemmas.List.{drop-drop}
use Rattle.rules.specs.Ast.{Target, StackParam, Declaration, from_top, Expression, Statement, Block, IfStatement, IfElseStatement, LocktimeStatement, VerifyStatement, ExpressionStatement, []ᵇ, ◌∷ᵇ◌}
use Rattle.rules.specs.Paths.{count}
use Rattle.rules.specs.Types.{truth}
use Rattle.rules.specs.InOrder.{declared, Typed, TypedStatement}

-- the first of the declarations, from the top
abbrev pub lowest : List (List StackParam) → List StackParam
lowest [] = []
lowest (d ∷ ds) = d

unfoldable mutual
  pub TypedOnStatement : Statement → Target → List (List StackParam) → Type 0
  TypedOnStatement (IfStatement l e b) g ds = (truth e g (lowest ds) ≡ Ok tt) × TypedOn b g ds
  TypedOnStatement (IfElseStatement l e b c) g ds = (truth e g (lowest ds) ≡ Ok tt) × TypedOn b g ds × TypedOn c g (drop (count b) ds)
  TypedOnStatement (LocktimeStatement l n o v) g ds = Unit {0}
  TypedOnStatement (VerifyStatement l e) g ds = truth e g (lowest ds) ≡ Ok tt
  TypedOnStatement (ExpressionStatement l e) g ds = truth e g (lowest ds) ≡ Ok tt

  pub TypedOn : Block → Target → List (List StackParam) → Type 0
  TypedOn []ᵇ g ds = Unit {0}
  TypedOn (s ∷ᵇ b) g ds = TypedOnStatement s g ds × TypedOn b g ds

lowest-drop : (ds : List Declaration) (n : ℕ) → lowest (drop n (map from_top ds)) ≡ declared ds n
lowest-drop [] zero = refl
lowest-drop [] (suc n) = refl
lowest-drop (d ∷ ds) zero = refl
lowest-drop (d ∷ ds) (suc n) = lowest-drop ds n

passes-eq : (e : Expression) (g : Target) (ds : List Declaration) (n : ℕ) → (truth e g (lowest (drop n (map from_top ds))) ≡ Ok tt) ≡ (truth e g (declared ds n) ≡ Ok tt)
passes-eq e g ds n = ap (λ ps. truth e g ps ≡ Ok tt) (lowest-drop ds n)

-- the two say the same
mutual
  unfolding Typed TypedOn

  pub typed-eq : (b : Block) (g : Target) (ds : List Declaration) (n : ℕ) → TypedOn b g (drop n (map from_top ds)) ≡ Typed b g ds n
  typed-eq []ᵇ g ds n = refl
  typed-eq (s ∷ᵇ b) g ds n = λ i. typed-statement s g ds n i × typed-eq b g ds n i

  typed-statement : (s : Statement) (g : Target) (ds : List Declaration) (n : ℕ) → TypedOnStatement s g (drop n (map from_top ds)) ≡ TypedStatement s g ds n
  typed-statement (IfStatement l e b) g ds n = λ i. passes-eq e g ds n i × typed-eq b g ds n i
  typed-statement (IfElseStatement l e b c) g ds n = λ i. passes-eq e g ds n i × typed-eq b g ds n i × (ap (TypedOn c g) (drop-drop (count b) n (map from_top ds)) ∙ typed-eq c g ds (n + count b)) i
  typed-statement (LocktimeStatement l m o v) g ds n = refl
  typed-statement (VerifyStatement l e) g ds n = passes-eq e g ds n
  typed-statement (ExpressionStatement l e) g ds n = passes-eq e g ds n

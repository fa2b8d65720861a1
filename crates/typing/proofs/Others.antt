-- The forms that a rule refuses whatever stands below them, and those that the hash rule leaves to the general one.
use Prim.Native.Nat.{ℕ}
use mathlib.Core.Bool.{false}
use mathlib.Core.List.{List, [], ◌∷◌}
use mathlib.Core.Logic.{inl, inr, ◌⊎◌}
use mathlib.Core.Path.{◌≡◌, refl, ap, ◌∙◌}
use Rattle.ast.specs.declared.Location.{Location}
use Rattle.ast.specs.declared.Target.{Target}
use Rattle.ast.specs.declared.BinaryMathOp.{BinaryMathOp}
use Rattle.ast.specs.declared.UnaryMathOp.{UnaryMathOp}
use Rattle.ast.specs.declared.ErrorKind.TheVariants.{InvalidOperation}
use Rattle.ast.specs.Tree.{StackParam, Expression, loc, fault}
use Rattle.std.specs.Prelude.{Err}
use Rattle.nodes.specs.Stands.{walked}
use Rattle.nodes.proofs.Others.{Each}
use Rattle.listing.specs.declared.ExpressionLine.{ExpressionLine}
use Rattle.listing.specs.declared.Line.{Line}
use Rattle.reader.specs.Spells.{SpellsExpression}
use Rattle.nodes.proofs.Laws.{expression-is}
use Rattle.rules.specs.Result.{Result, Checked, both, refused}
use Rattle.rules.specs.Types.{is_not, unary, string, number, truth, hashed, general}

abbrev pub Refuses : (Expression → Target → List StackParam → Checked) → Expression → Type 0
Refuses rule e = (g : Target) (ps : List StackParam) → rule e g ps ≡ refused InvalidOperation (loc e)

abbrev pub ByGeneral : Expression → Type 0
ByGeneral e = (g : Target) (ps : List StackParam) → general e g ps ≡ hashed e g ps

-- unary other than `not`, arithmetic and size as a truth: by the number rule, and then 17 at the node
module _ {L : ℕ → Line} {s : List ℕ} {i j : ℕ} {e : Expression} (g : Target) (ps : List StackParam) (l : Location) (sp : SpellsExpression L s i e j) where
  pub untrue-unary : {o : UnaryMathOp} → L i ≡ Line.Expression (ExpressionLine.UnaryMathExpression l o) → is_not o ≡ false → both (number e g ps) (refused InvalidOperation l) ≡ truth e g ps
  unfolding number truth unary
  untrue-unary h k = rw ((expression-is sp h).2, k)

  pub untrue-math : {x : ExpressionLine} → L i ≡ Line.Expression x → ((o : BinaryMathOp) × (x ≡ ExpressionLine.BinaryMathExpression l o)) ⊎ (x ≡ ExpressionLine.ByteExpression l) → both (number e g ps) (refused InvalidOperation l) ≡ truth e g ps
  unfolding number truth
  untrue-math h (inl (o, k)) = rw ((expression-is sp (h ∙ ap Line.Expression k)).5)
  untrue-math h (inr k) = rw ((expression-is sp (h ∙ ap Line.Expression k)).2)

-- 17 at the node
pub refused-here : (e : Expression) {l : Location} {r : Result ℕ} {o : Checked} (j : ℕ) → l ≡ loc e → r ≡ Err (fault InvalidOperation l) → o ≡ refused InvalidOperation (loc e) → r ≡ walked o j
refused-here e j p q h = rw h (q ∙ ap (λ l. Err (fault InvalidOperation l)) p)

abbrev pub not-strings : List ℕ
not-strings = 1 ∷ 2 ∷ 4 ∷ 5 ∷ 6 ∷ 7 ∷ 9 ∷ 10 ∷ []

pub string-refuses : Each (Refuses string) not-strings
unfolding string loc
string-refuses = ((λ l v g ps. refl), ((λ l b g ps. refl), ((λ l o a b g ps. refl), ((λ l o a b g ps. refl), ((λ l o a b g ps. refl), ((λ l o a g ps. refl), ((λ l a g ps. refl), ((λ l f g ps. refl), tt))))))))

abbrev pub not-numbers : List ℕ
not-numbers = 2 ∷ 3 ∷ 4 ∷ 5 ∷ 8 ∷ 10 ∷ []

pub number-refuses : Each (Refuses number) not-numbers
unfolding number loc
number-refuses = ((λ l b g ps. refl), ((λ l b m g ps. refl), ((λ l o a b g ps. refl), ((λ l o a b g ps. refl), ((λ l o a g ps. refl), ((λ l f g ps. refl), tt))))))

abbrev pub not-truths : List ℕ
not-truths = 1 ∷ 3 ∷ 8 ∷ []

pub truth-refuses : Each (Refuses truth) not-truths
unfolding truth loc
truth-refuses = ((λ l v g ps. refl), ((λ l b m g ps. refl), ((λ l o a g ps. refl), tt)))

abbrev pub no-hashes : List ℕ
no-hashes = 1 ∷ 2 ∷ 3 ∷ 4 ∷ 5 ∷ 6 ∷ 7 ∷ 9 ∷ 10 ∷ []

pub hashed-general : Each ByGeneral no-hashes
unfolding hashed general
hashed-general = ((λ l v g ps. refl), ((λ l b g ps. refl), ((λ l b m g ps. refl), ((λ l o a b g ps. refl), ((λ l o a b g ps. refl), ((λ l o a b g ps. refl), ((λ l o a g ps. refl), ((λ l a g ps. refl), ((λ l f g ps. refl), tt)))))))))

-- What holds of an expression by its line's form alone: a match that has one arm for several forms.
use Prim.Native.Nat.{ℕ, zero, suc}
use mathlib.Core.Bool.{Bool}
use mathlib.Core.List.{List, [], ◌∷◌}
use mathlib.Core.Path.{◌≡◌, sym, ap, subst}
use mathlib.Core.Logic.{inl, inr}
use denote.Enum.Declared.{tag_of}
use types.Run.{OneOf}
use Rattle.ast.specs.declared.Location.{Location}
use Rattle.ast.specs.declared.Signed.{Signed}
use Rattle.ast.specs.declared.BinaryLogicalOp.{BinaryLogicalOp}
use Rattle.ast.specs.declared.BinaryCompareOp.{BinaryCompareOp}
use Rattle.ast.specs.declared.BinaryMathOp.{BinaryMathOp}
use Rattle.ast.specs.declared.UnaryMathOp.{UnaryMathOp}
use Rattle.ast.specs.declared.UnaryCryptoOp.{UnaryCryptoOp}
use Rattle.ast.specs.Tree.{Name, loc, Expression, Variable, NumberLiteral, BooleanLiteral, StringLiteral, LogicalExpression, CompareExpression, BinaryMathExpression, UnaryMathExpression, UnaryCryptoExpression, ByteExpression, CheckSigExpression, Factor}
use Rattle.listing.specs.declared.ExpressionLine.{ExpressionLine}
use Rattle.listing.specs.declared.Line.{Line}
use Rattle.listing.specs.Kinds.{expression_line}
use Rattle.listing.specs.contracts.ExpressionLine.{the_type}
use Rattle.rows.specs.Rows.{place_in, line_of}
use Rattle.rows.specs.declared.Words.{Words}
use Rattle.rows.proofs.Forms.{each-form}
use Rattle.reader.specs.Spells.{SpellsExpression}
use Rattle.reader.proofs.Inversion.{Begun, ExpressionFrom}
use Rattle.nodes.proofs.Laws.{expression-is}

-- of every expression of the form numbered k
abbrev pub Made : (Expression → Type 0) → ℕ → Type 0
Made P zero = (l : Location) (n : ℕ) (x : Name) → P (Variable l n x)
Made P (suc zero) = (l : Location) (v : Signed) → P (NumberLiteral l v)
Made P (suc (suc zero)) = (l : Location) (b : Bool) → P (BooleanLiteral l b)
Made P (suc (suc (suc zero))) = (l : Location) (b : List ℕ) (m : Bool) → P (StringLiteral l b m)
Made P (suc (suc (suc (suc zero)))) = (l : Location) (o : BinaryLogicalOp) (a b : Expression) → P (LogicalExpression l o a b)
Made P (suc (suc (suc (suc (suc zero))))) = (l : Location) (o : BinaryCompareOp) (a b : Expression) → P (CompareExpression l o a b)
Made P (suc (suc (suc (suc (suc (suc zero)))))) = (l : Location) (o : BinaryMathOp) (a b : Expression) → P (BinaryMathExpression l o a b)
Made P (suc (suc (suc (suc (suc (suc (suc zero))))))) = (l : Location) (o : UnaryMathOp) (a : Expression) → P (UnaryMathExpression l o a)
Made P (suc (suc (suc (suc (suc (suc (suc (suc zero)))))))) = (l : Location) (o : UnaryCryptoOp) (a : Expression) → P (UnaryCryptoExpression l o a)
Made P (suc (suc (suc (suc (suc (suc (suc (suc (suc zero))))))))) = (l : Location) (a : Expression) → P (ByteExpression l a)
Made P (suc (suc (suc (suc (suc (suc (suc (suc (suc (suc k)))))))))) = (l : Location) (f : Factor) → P (CheckSigExpression l f)

abbrev pub Each : (Expression → Type 0) → List ℕ → Type 0
Each P [] = Unit {0}
Each P (k ∷ ks) = Made P k × Each P ks

each-one : (P : Expression → Type 0) (ks : List ℕ) (n : ℕ) → OneOf ks n → Each P ks → Made P n
each-one P [] n e _ = elim e [ ]
each-one P (k ∷ []) n e (m, u) = subst (λ z. Made P z) (sym e) m
each-one P (k ∷ l ∷ ks) n (inl e) (m, u) = subst (λ z. Made P z) (sym e) m
each-one P (k ∷ l ∷ ks) n (inr r) (m, u) = each-one P (l ∷ ks) n r u

-- so of the one whose line is of one of the forms ks
module _ (P : Expression → Type 0) (ks : List ℕ) (u : Each P ks) where
  from : (L : ℕ → Line) (s : List ℕ) (i j : ℕ) (e : Expression) (x : ExpressionLine) → OneOf ks (tag_of the_type x) → ExpressionFrom L s x i e j → P e
  from L s i j e (ExpressionLine.Variable w x) h (p, q) = subst P (sym p) (each-one P ks 0 h u w _ _)
  from L s i j e (ExpressionLine.NumberLiteral w v) h (p, q) = subst P (sym p) (each-one P ks 1 h u w v)
  from L s i j e (ExpressionLine.BooleanLiteral w b) h (p, q) = subst P (sym p) (each-one P ks 2 h u w b)
  from L s i j e (ExpressionLine.StringLiteral w x m) h (p, q) = subst P (sym p) (each-one P ks 3 h u w _ m)
  from L s i j e (ExpressionLine.LogicalExpression w o) h (a, b, k, y, z, p) = subst P (sym p) (each-one P ks 4 h u w o a b)
  from L s i j e (ExpressionLine.CompareExpression w o) h (a, b, k, y, z, p) = subst P (sym p) (each-one P ks 5 h u w o a b)
  from L s i j e (ExpressionLine.BinaryMathExpression w o) h (a, b, k, y, z, p) = subst P (sym p) (each-one P ks 6 h u w o a b)
  from L s i j e (ExpressionLine.UnaryMathExpression w o) h (a, y, p) = subst P (sym p) (each-one P ks 7 h u w o a)
  from L s i j e (ExpressionLine.UnaryCryptoExpression w o) h (a, y, p) = subst P (sym p) (each-one P ks 8 h u w o a)
  from L s i j e (ExpressionLine.ByteExpression w) h (a, y, p) = subst P (sym p) (each-one P ks 9 h u w a)
  from L s i j e (ExpressionLine.CheckSigExpression w) h (f, y, p) = subst P (sym p) (each-one P ks 10 h u w f)

  pub others : {L : ℕ → Line} {s : List ℕ} {i j : ℕ} {e : Expression} (x : ExpressionLine) → OneOf ks (tag_of the_type x) → SpellsExpression L s i e j → L i ≡ Line.Expression x → P e
  others {L} {s} {i} {j} {e} x h sp q = from L s i j e x h (expression-is sp q)

-- an expression's location stands in its row
pub loc-row : (L : ℕ → Line) (s : List ℕ) (i j : ℕ) (e : Expression) (r : Words) → Begun (expression_line (line_of r)) (λ x. ExpressionFrom L s x i e j) → place_in r ≡ loc e
unfolding loc
loc-row L s i j e r =
    each-form
    (λ l. Begun (expression_line l) (λ x. ExpressionFrom L s x i e j) → place_in r ≡ loc e)
    r
    (λ k f. absurd f, (λ k f. absurd f, (λ k f. absurd f, (λ k f. absurd f, (λ k f. absurd f, (λ k f. absurd f, (λ k f. absurd f, (λ k f. absurd f, (λ k f. sym (ap loc f.0), (λ k f. sym (ap loc f.0), (λ k f. sym (ap loc f.0), (λ k f. sym (ap loc f.0), (λ k f. sym (ap loc f.5), (λ k f. sym (ap loc f.5), (λ k f. sym (ap loc f.5), (λ k f. sym (ap loc f.2), (λ k f. sym (ap loc f.2), (λ k f. sym (ap loc f.2), (λ k f. sym (ap loc f.2), (λ k f. absurd f, (λ k f. absurd f, (λ f. absurd f))))))))))))))))))))))

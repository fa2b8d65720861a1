-- Whether a name stands in a tree.
use Rattle.std.specs.Prelude.{Bool, true, false, ◌||◌}
use Rattle.ast.specs.Tree.{Expression, Factor, Factors, Variable, NumberLiteral, BooleanLiteral, StringLiteral, LogicalExpression, CompareExpression, UnaryMathExpression, BinaryMathExpression, UnaryCryptoExpression, CheckSigExpression, ByteExpression, SingleSigFactor, MultiSigFactor, []ᶠ, ◌∷ᶠ◌}
use Rattle.listing.specs.declared.ExpressionLine.{ExpressionLine}
use Rattle.listing.specs.declared.Line.{Line}

-- in an expression, or below it: also in the factors of a multi-signature that is itself a factor of another
unfoldable mutual
  pub has_names : Expression → Bool
  has_names (Variable l n x) = true
  has_names (NumberLiteral l v) = false
  has_names (BooleanLiteral l b) = false
  has_names (StringLiteral l b m) = false
  has_names (LogicalExpression l o a b) = has_names a || has_names b
  has_names (CompareExpression l o a b) = has_names a || has_names b
  has_names (UnaryMathExpression l o a) = has_names a
  has_names (BinaryMathExpression l o a b) = has_names a || has_names b
  has_names (UnaryCryptoExpression l o a) = has_names a
  has_names (CheckSigExpression l f) = has_names_factor f
  has_names (ByteExpression l a) = has_names a

  pub has_names_factor : Factor → Bool
  has_names_factor (SingleSigFactor l s k) = has_names s || has_names k
  has_names_factor (MultiSigFactor l m fs) = has_names_factors fs

  pub has_names_factors : Factors → Bool
  has_names_factors []ᶠ = false
  has_names_factors (f ∷ᶠ fs) = has_names_factor f || has_names_factors fs

-- a variable's line
abbrev pub is_name : Line → Bool
is_name (Line.Contract g n) = false
is_name (Line.Declaration n) = false
is_name (Line.StackParam w t x) = false
is_name (Line.Block n) = false
is_name (Line.Statement l) = false
is_name (Line.Expression (ExpressionLine.Variable w x)) = true
is_name (Line.Expression (ExpressionLine.NumberLiteral w v)) = false
is_name (Line.Expression (ExpressionLine.BooleanLiteral w b)) = false
is_name (Line.Expression (ExpressionLine.StringLiteral w x m)) = false
is_name (Line.Expression (ExpressionLine.LogicalExpression w o)) = false
is_name (Line.Expression (ExpressionLine.CompareExpression w o)) = false
is_name (Line.Expression (ExpressionLine.BinaryMathExpression w o)) = false
is_name (Line.Expression (ExpressionLine.UnaryMathExpression w o)) = false
is_name (Line.Expression (ExpressionLine.UnaryCryptoExpression w o)) = false
is_name (Line.Expression (ExpressionLine.ByteExpression w)) = false
is_name (Line.Expression (ExpressionLine.CheckSigExpression w)) = false
is_name (Line.Factor l) = false

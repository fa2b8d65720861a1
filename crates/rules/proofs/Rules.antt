-- Where document 01 has one type rule call another on the same expression, the two answers are the same.
use mathlib.Core.Bool.{true, false}
use mathlib.Core.List.{List}
use mathlib.Core.Path.{◌≡◌, refl}
use Rattle.rules.specs.Ast.{Location, Target, Signed, StackParam, BinaryLogicalOp, BinaryCompareOp, BinaryMathOp, UnaryMathOp, UnaryCryptoOp, Factor, Expression, NumberLiteral, LogicalExpression, CompareExpression, UnaryMathExpression, BinaryMathExpression, UnaryCryptoExpression, CheckSigExpression, ByteExpression, InvalidOperation}
use Rattle.rules.specs.Result.{both, refused}
use Rattle.rules.specs.Types.{is_not, unary, string, number, truth, hashed, general}

module _ (g : Target) (ps : List StackParam) (l : Location) where
  -- number: size by the general rule
  pub number_size : (a : Expression) → number (ByteExpression l a) g ps ≡ general (ByteExpression l a) g ps
  unfolding number
  number_size a = refl

  -- truth: compare and signature check by the general rule
  pub truth-compare : (o : BinaryCompareOp) (a b : Expression) → truth (CompareExpression l o a b) g ps ≡ general (CompareExpression l o a b) g ps
  unfolding truth
  truth-compare o a b = refl

  pub truth-check : (f : Factor) → truth (CheckSigExpression l f) g ps ≡ general (CheckSigExpression l f) g ps
  unfolding truth
  truth-check f = refl

  -- truth: other unary, arithmetic and size by the number rule and then 17
  pub truth-unary : (o : UnaryMathOp) (a : Expression) → is_not o ≡ false → truth (UnaryMathExpression l o a) g ps ≡ both (number (UnaryMathExpression l o a) g ps) (refused InvalidOperation l)
  unfolding truth unary
  truth-unary o a h = rw h refl

  pub truth-math : (o : BinaryMathOp) (a b : Expression) → truth (BinaryMathExpression l o a b) g ps ≡ both (number (BinaryMathExpression l o a b) g ps) (refused InvalidOperation l)
  unfolding truth
  truth-math o a b = refl

  pub truth-size : (a : Expression) → truth (ByteExpression l a) g ps ≡ both (number (ByteExpression l a) g ps) (refused InvalidOperation l)
  unfolding truth
  truth-size a = refl

  -- general: logic, not, arithmetic, hash as by their own rules
  pub general-logic : (o : BinaryLogicalOp) (a b : Expression) → general (LogicalExpression l o a b) g ps ≡ truth (LogicalExpression l o a b) g ps
  unfolding general
  general-logic o a b = refl

  pub general-not : (o : UnaryMathOp) (a : Expression) → is_not o ≡ true → general (UnaryMathExpression l o a) g ps ≡ truth (UnaryMathExpression l o a) g ps
  unfolding general unary
  general-not o a h = rw h refl

  pub general-unary : (o : UnaryMathOp) (a : Expression) → is_not o ≡ false → general (UnaryMathExpression l o a) g ps ≡ number a g ps
  unfolding general unary
  general-unary o a h = rw h refl

  pub general-math : (o : BinaryMathOp) (a b : Expression) → general (BinaryMathExpression l o a b) g ps ≡ number (BinaryMathExpression l o a b) g ps
  unfolding general
  general-math o a b = refl

  pub general-hash : (o : UnaryCryptoOp) (a : Expression) → general (UnaryCryptoExpression l o a) g ps ≡ string (UnaryCryptoExpression l o a) g ps
  unfolding general
  general-hash o a = refl

  -- hash operand: what is no variable and no hash by the general rule
  pub hashed-number : (v : Signed) → hashed (NumberLiteral l v) g ps ≡ general (NumberLiteral l v) g ps
  unfolding hashed
  hashed-number v = refl

  pub hashed-logic : (o : BinaryLogicalOp) (a b : Expression) → hashed (LogicalExpression l o a b) g ps ≡ general (LogicalExpression l o a b) g ps
  unfolding hashed
  hashed-logic o a b = refl

  pub hashed-compare : (o : BinaryCompareOp) (a b : Expression) → hashed (CompareExpression l o a b) g ps ≡ general (CompareExpression l o a b) g ps
  unfolding hashed
  hashed-compare o a b = refl

  pub hashed-unary : (o : UnaryMathOp) (a : Expression) → hashed (UnaryMathExpression l o a) g ps ≡ general (UnaryMathExpression l o a) g ps
  unfolding hashed
  hashed-unary o a = refl

  pub hashed-math : (o : BinaryMathOp) (a b : Expression) → hashed (BinaryMathExpression l o a b) g ps ≡ general (BinaryMathExpression l o a b) g ps
  unfolding hashed
  hashed-math o a b = refl

  pub hashed-check : (f : Factor) → hashed (CheckSigExpression l f) g ps ≡ general (CheckSigExpression l f) g ps
  unfolding hashed
  hashed-check f = refl

  pub hashed-size : (a : Expression) → hashed (ByteExpression l a) g ps ≡ general (ByteExpression l a) g ps
  unfolding hashed
  hashed-size a = refl

  pub hashed-hash : (o : UnaryCryptoOp) (a : Expression) → hashed (UnaryCryptoExpression l o a) g ps ≡ hashed a g ps
  unfolding hashed
  hashed-hash o a = refl

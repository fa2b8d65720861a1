-- A compare by the one type that its left operand can have: a rule of another sort never passes on it.
use Prim.Native.Nat.{ℕ}
use native.Mathlib.Omega.{arith}
use mathlib.Core.Bool.{Bool, true, false, ◌&&◌}
use mathlib.Core.List.{List}
use mathlib.Core.Option.{Option, some, none}
use mathlib.Core.Path.{◌≡◌, refl, sym}
use Rattle.std.specs.Prelude.{Ok, Err, Option as StdOption, Some, None}
use Rattle.ast.specs.declared.Location.{Location}
use Rattle.ast.specs.declared.Target.{Target}
use Rattle.ast.specs.declared.Type.{«Type» as ItemType}
use Rattle.ast.specs.declared.Type.TheVariants.{Signature, Number, String, Boolean}
use Rattle.ast.specs.declared.BinaryCompareOp.{BinaryCompareOp}
use Rattle.ast.specs.declared.ErrorKind.{ErrorKind}
use Rattle.ast.specs.declared.ErrorKind.TheVariants.{InvalidOperation}
use Rattle.ast.specs.Tree.{StackParam, Expression, Variable, NumberLiteral, BooleanLiteral, StringLiteral, LogicalExpression, CompareExpression, UnaryMathExpression, BinaryMathExpression, UnaryCryptoExpression, CheckSigExpression, ByteExpression}
use Rattle.rules.specs.Result.{Checked, both, refused}
use Rattle.rules.specs.Types.{type_of, is_number, is_string, is_boolean, is_not, is_equality, passed, or17, ascii, of_type, variable, compared, compare, unary, string, number, truth}
use Rattle.operands.specs.Typed.{Two, type_found, sort_of, rule_of, allows, judged, compare_two}

-- which of the string, number and truth rules do not pass what can only have this type
abbrev Apart : StdOption ItemType → Bool → Bool → Bool → Type 0
Apart None a b c = (a ≡ false) × (b ≡ false) × (c ≡ false)
Apart (Some Signature) a b c = (a ≡ false) × (b ≡ false) × (c ≡ false)
Apart (Some Number) a b c = (a ≡ false) × (c ≡ false)
Apart (Some String) a b c = (b ≡ false) × (c ≡ false)
Apart (Some Boolean) a b c = (a ≡ false) × (b ≡ false)

then-fails : (c : Checked) (k : ErrorKind) (l : Location) → passed (both c (refused k l)) ≡ false
unfolding passed
then-fails (Ok _) k l = refl
then-fails (Err x) k l = refl

of-type : (l : Location) (o : Option ItemType) → Apart (type_found o) (passed (of_type l is_string o)) (passed (of_type l is_number o)) (passed (of_type l is_boolean o))
unfolding passed of_type or17 is_string is_number is_boolean
of-type l none = (refl, refl, refl)
of-type l (some Signature) = (refl, refl, refl)
of-type l (some Number) = (refl, refl)
of-type l (some String) = (refl, refl)
of-type l (some Boolean) = (refl, refl)

of-unary : (b : Bool) (l : Location) (t n : Checked) → Apart (elim b [ true ↦ Some Boolean | false ↦ Some Number ]) false (passed (unary b (refused InvalidOperation l) n)) (passed (unary b t (both n (refused InvalidOperation l))))
unfolding passed unary
of-unary true l t n = (refl, refl)
of-unary false l t n = (refl, then-fails n InvalidOperation l)

pub apart : (g : Target) (ps : List StackParam) (e : Expression) → Apart (sort_of ps e) (passed (string e g ps)) (passed (number e g ps)) (passed (truth e g ps))
unfolding sort_of passed string number truth variable
apart g ps (Variable l n x) = of-type l (type_of ps x)
apart g ps (NumberLiteral l v) = (refl, refl)
apart g ps (BooleanLiteral l b) = (refl, refl)
apart g ps (StringLiteral l b m) = (refl, refl)
apart g ps (LogicalExpression l o a b) = (refl, refl)
apart g ps (CompareExpression l o a b) = (refl, refl)
apart g ps (UnaryMathExpression l o a) = of-unary (is_not o) l (truth a g ps) (number a g ps)
apart g ps (BinaryMathExpression l o a b) = (refl, then-fails (both (number a g ps) (number b g ps)) InvalidOperation l)
apart g ps (UnaryCryptoExpression l o a) = (refl, refl)
apart g ps (CheckSigExpression l f) = (refl, refl)
apart g ps (ByteExpression l a) = (refl, then-fails (both (string a g ps) (ascii a)) InvalidOperation l)

module _ (l : Location) (o : BinaryCompareOp) where
  strings : (a b : Checked) → compared l (is_equality o) (passed a && passed b) false false ≡ judged l o String (both a b)
  unfolding compared passed judged allows
  strings (Ok _) (Ok _) = refl
  strings (Ok _) (Err x) = refl
  strings (Err x) b = refl

  numbers : (a b : Checked) → compared l (is_equality o) false (passed a && passed b) false ≡ judged l o Number (both a b)
  unfolding compared passed judged allows or17
  numbers (Ok _) (Ok _) = refl
  numbers (Ok _) (Err x) = refl
  numbers (Err x) b = refl

  truths : (a b : Checked) → compared l (is_equality o) false false (passed a && passed b) ≡ judged l o Boolean (both a b)
  unfolding compared passed judged allows
  truths (Ok _) (Ok _) = refl
  truths (Ok _) (Err x) = refl
  truths (Err x) b = refl

  fails : (ty : ItemType) (a b : Checked) → passed a ≡ false → compared l (is_equality o) false false false ≡ judged l o ty (both a b)
  unfolding compared passed judged
  fails ty (Ok _) b h = let z : ◌≡◌ {A = ℕ} 0 1 = cc in absurd (omega arith)
  fails ty (Err x) b h = refl

  module _ (e : Two) (g : Target) (ps : List StackParam) where
    left : (f : StdOption ItemType) → sort_of ps e.left ≡ f → Apart f (passed (string e.left g ps)) (passed (number e.left g ps)) (passed (truth e.left g ps))
    left f h = rw h at (apart g ps e.left)

    pub compare-unknown : sort_of ps e.left ≡ None → refused InvalidOperation l ≡ compare_two l o e g ps
    unfolding compare_two compare compared
    compare-unknown h = let a = left None h in rw (a.0, a.1, a.2)

    pub compare-sorted : (ty : ItemType) → sort_of ps e.left ≡ Some ty → judged l o ty (both (rule_of ty e.left g ps) (rule_of ty e.right g ps)) ≡ compare_two l o e g ps
    unfolding compare_two compare rule_of
    compare-sorted Signature h = let a = left (Some Signature) h in rw (a.0, a.1, a.2) (sym (fails Signature (truth e.left g ps) (truth e.right g ps) a.2))
    compare-sorted Number h = let a = left (Some Number) h in rw (a.0, a.1) (sym (numbers (number e.left g ps) (number e.right g ps)))
    compare-sorted String h = let a = left (Some String) h in rw (a.0, a.1) (sym (strings (string e.left g ps) (string e.right g ps)))
    compare-sorted Boolean h = let a = left (Some Boolean) h in rw (a.0, a.1) (sym (truths (truth e.left g ps) (truth e.right g ps)))

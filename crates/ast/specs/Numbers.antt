-- Enum numbers follow the order in src/ast.rs, from 0.
use Rattle.std.specs.Prelude.{ℕ, true, false, Option, Some, None, List, [], ◌∷◌, eqb}
use Rattle.ast.specs.declared.Target.{Target}
use Rattle.ast.specs.declared.Target.TheVariants.{Legacy, Segwit, Taproot}
use Rattle.ast.specs.declared.Type.{«Type» as ItemType}
use Rattle.ast.specs.declared.Type.TheVariants.{Signature, Number, String, Boolean}
use Rattle.ast.specs.declared.BinaryLogicalOp.{BinaryLogicalOp}
use Rattle.ast.specs.declared.BinaryLogicalOp.TheVariants.{BoolOr, BoolAnd}
use Rattle.ast.specs.declared.BinaryCompareOp.{BinaryCompareOp}
use Rattle.ast.specs.declared.BinaryCompareOp.TheVariants.{Equal, NotEqual, Greater, GreaterOrEqual, Less, LessOrEqual, NumEqual, NumNotEqual}
use Rattle.ast.specs.declared.BinaryMathOp.{BinaryMathOp}
use Rattle.ast.specs.declared.BinaryMathOp.TheVariants.{Add, Sub, Max, Min}
use Rattle.ast.specs.declared.UnaryMathOp.{UnaryMathOp}
use Rattle.ast.specs.declared.UnaryMathOp.TheVariants.{Add as UnaryAdd, Sub as UnarySub, Negate, Abs, Not}
use Rattle.ast.specs.declared.UnaryCryptoOp.{UnaryCryptoOp}
use Rattle.ast.specs.declared.UnaryCryptoOp.TheVariants.{Sha256, Ripemd160}
use Rattle.ast.specs.declared.LocktimeOp.{LocktimeOp}
use Rattle.ast.specs.declared.LocktimeOp.TheVariants.{Cltv, Csv, CsvTime}
use Rattle.ast.specs.declared.ErrorKind.{ErrorKind}
use Rattle.ast.specs.declared.ErrorKind.TheVariants.{ListingTooLong, MalformedLine, UnexpectedLine, CeilingPassed, WorkTooShort, OutputTooShort, DuplicateVariable, UndefinedVariable, VariableConsumed, UnusedVariable, InvalidConsumptionOrder, TypeMismatch, InvalidOperation, NoReturn, UnreachableCode, DeclarationPathMismatch, IntegerOverflow, MalformedPubkey, NoSuchPath, NotDue}
use Rattle.ast.specs.Tree.{number}

abbrev pub targets : List Target
targets = Legacy ∷ Segwit ∷ Taproot ∷ []

abbrev pub types : List ItemType
types = Signature ∷ Number ∷ String ∷ Boolean ∷ []

abbrev pub logical_ops : List BinaryLogicalOp
logical_ops = BoolOr ∷ BoolAnd ∷ []

abbrev pub compare_ops : List BinaryCompareOp
compare_ops = Equal ∷ NotEqual ∷ Greater ∷ GreaterOrEqual ∷ Less ∷ LessOrEqual ∷ NumEqual ∷ NumNotEqual ∷ []

abbrev pub math_ops : List BinaryMathOp
math_ops = Add ∷ Sub ∷ Max ∷ Min ∷ []

abbrev pub unary_ops : List UnaryMathOp
unary_ops = UnaryAdd ∷ UnarySub ∷ Negate ∷ Abs ∷ Not ∷ []

abbrev pub crypto_ops : List UnaryCryptoOp
crypto_ops = Sha256 ∷ Ripemd160 ∷ []

abbrev pub locktime_ops : List LocktimeOp
locktime_ops = Cltv ∷ Csv ∷ CsvTime ∷ []

-- the number of each
abbrev pub target_number : Target → ℕ
target_number Legacy = 0
target_number Segwit = 1
target_number Taproot = 2

abbrev pub type_number : ItemType → ℕ
type_number Signature = 0
type_number Number = 1
type_number String = 2
type_number Boolean = 3

abbrev pub logical_number : BinaryLogicalOp → ℕ
logical_number BoolOr = 0
logical_number BoolAnd = 1

abbrev pub compare_number : BinaryCompareOp → ℕ
compare_number Equal = 0
compare_number NotEqual = 1
compare_number Greater = 2
compare_number GreaterOrEqual = 3
compare_number Less = 4
compare_number LessOrEqual = 5
compare_number NumEqual = 6
compare_number NumNotEqual = 7

abbrev pub math_number : BinaryMathOp → ℕ
math_number Add = 0
math_number Sub = 1
math_number Max = 2
math_number Min = 3

abbrev pub unary_number : UnaryMathOp → ℕ
unary_number UnaryAdd = 0
unary_number UnarySub = 1
unary_number Negate = 2
unary_number Abs = 3
unary_number Not = 4

abbrev pub crypto_number : UnaryCryptoOp → ℕ
crypto_number Sha256 = 0
crypto_number Ripemd160 = 1

abbrev pub locktime_number : LocktimeOp → ℕ
locktime_number Cltv = 0
locktime_number Csv = 1
locktime_number CsvTime = 2

-- all kinds, in the order of their numbers
abbrev pub kinds : List ErrorKind
kinds = ListingTooLong ∷ MalformedLine ∷ UnexpectedLine ∷ CeilingPassed ∷ WorkTooShort ∷ OutputTooShort ∷ DuplicateVariable ∷ UndefinedVariable ∷ VariableConsumed ∷ UnusedVariable ∷ InvalidConsumptionOrder ∷ TypeMismatch ∷ InvalidOperation ∷ NoReturn ∷ UnreachableCode ∷ DeclarationPathMismatch ∷ IntegerOverflow ∷ MalformedPubkey ∷ NoSuchPath ∷ NotDue ∷ []

-- the first of some kinds that has a number
unfoldable pub kind_among : List ErrorKind → ℕ → Option ErrorKind
kind_among [] n = None
kind_among (k ∷ ks) n = elim (eqb (number k) n) [ true ↦ Some k | false ↦ kind_among ks n ]

-- the kind of a number; none of a number that is no kind's
unfoldable pub kind_from : ℕ → Option ErrorKind
kind_from n = kind_among kinds n

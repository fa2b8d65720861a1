-- check_overflow, check_security, and the bounds of a wait: 21.
use Rattle.std.specs.Prelude.{ℕ, ◌+◌, Bool, cond, eqb, leb, Ok}
use Rattle.rules.specs.Ast.{Signed, Location, LocktimeOp, Cltv, Csv, CsvTime, Expression, Variable, NumberLiteral, BooleanLiteral, StringLiteral, LogicalExpression, CompareExpression, UnaryMathExpression, BinaryMathExpression, UnaryCryptoExpression, CheckSigExpression, ByteExpression, IntegerOverflow}
use Rattle.rules.specs.Result.{Result, Checked, ◌>>◌, both, refused}
use Rattle.rules.specs.Keys.{pushed}

-- a bound that is kept, or else 21 at l
unfoldable pub or21 : Location → Bool → Checked
or21 l b = cond b (Ok tt) (refused IntegerOverflow l)

-- a number from -2147483647 to 2147483647
unfoldable pub four_bytes : Signed → Bool
four_bytes v = leb v.magnitude 2147483647

-- a literal of at most 520 bytes
unfoldable pub element : ℕ → Bool
element n = leb n 520

-- the node, then its children, left first; signature checks are not entered
unfoldable pub security : Expression → Checked
security (Variable l n x) = Ok tt
security (NumberLiteral l v) = or21 l (four_bytes v)
security (BooleanLiteral l b) = Ok tt
security (StringLiteral l b m) = or21 l (element (pushed b))
security (LogicalExpression l o a b) = both (security a) (security b)
security (CompareExpression l o a b) = both (security a) (security b)
security (UnaryMathExpression l o a) = security a
security (BinaryMathExpression l o a b) = both (security a) (security b)
security (UnaryCryptoExpression l o a) = security a
security (CheckSigExpression l f) = Ok tt
security (ByteExpression l a) = security a

-- from 0 to a bound
unfoldable pub up_to : ℕ → Signed → Bool
up_to high v = cond v.negative (eqb v.magnitude 0) (leb v.magnitude high)

-- after 0 to 4294967295 (BIP 65), older 0 to 65535 in blocks or in units of 512 seconds (BIP 68)
unfoldable pub in_bounds : LocktimeOp → Signed → Bool
in_bounds Cltv v = up_to 4294967295 v
in_bounds Csv v = up_to 65535 v
in_bounds CsvTime v = up_to 65535 v

-- the number that the script carries: the operand, with bit 22 (4194304) set for units of 512 seconds (BIP 68)
unfoldable pub carried : LocktimeOp → Signed → ℕ
carried Cltv v = v.magnitude
carried Csv v = v.magnitude
carried CsvTime v = 4194304 + v.magnitude

-- a wait within its bounds hands up the number that the script carries, else 21 at the wait
unfoldable pub wait : Location → LocktimeOp → Signed → Result ℕ
wait l o v = or21 l (in_bounds o v) >> Ok (carried o v)

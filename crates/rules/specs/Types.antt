-- The five type rules, the signature and key rule, and the multi-signature: 12, 16, 17, 22.
-- `ps` is the declaration of the path, from the top.
use Rattle.std.specs.Prelude.{ℕ, suc, Bool, true, false, ◌&&◌, ◌||◌, cond, List, [], ◌∷◌, eqb, ltb, Ok, Err}
use Rattle.std.proofs.Math.Option.{Option, some, none}
use Rattle.rules.specs.Ast.{Name, same, Location, Target, ItemType, Signature, Number, String, Boolean, StackParam, Expression, Factor, Factors, Variable, NumberLiteral, BooleanLiteral, StringLiteral, LogicalExpression, CompareExpression, UnaryMathExpression, BinaryMathExpression, UnaryCryptoExpression, CheckSigExpression, ByteExpression, SingleSigFactor, MultiSigFactor, []ᶠ, ◌∷ᶠ◌, BinaryCompareOp, Equal, NotEqual, Greater, GreaterOrEqual, Less, LessOrEqual, NumEqual, NumNotEqual, UnaryMathOp, UnaryAdd, UnarySub, Negate, Abs, Not, UndefinedVariable, TypeMismatch, InvalidOperation, MalformedPubkey, loc}
use Rattle.rules.specs.Result.{Checked, both, refused}
use Rattle.rules.specs.Keys.{is_key, is_ascii}

-- the type of a name
unfoldable pub type_of : List StackParam → Name → Option ItemType
type_of [] x = none
type_of (p ∷ ps) x = elim (same x p.identifier) [ true ↦ some p.ty | false ↦ type_of ps x ]

unfoldable pub is_signature : ItemType → Bool
is_signature Signature = true
is_signature Number = false
is_signature String = false
is_signature Boolean = false

unfoldable pub not_signature : ItemType → Bool
not_signature Signature = false
not_signature Number = true
not_signature String = true
not_signature Boolean = true

unfoldable pub is_number : ItemType → Bool
is_number Signature = false
is_number Number = true
is_number String = false
is_number Boolean = false

unfoldable pub is_string : ItemType → Bool
is_string Signature = false
is_string Number = false
is_string String = true
is_string Boolean = false

unfoldable pub is_boolean : ItemType → Bool
is_boolean Signature = false
is_boolean Number = false
is_boolean String = false
is_boolean Boolean = true

unfoldable pub is_not : UnaryMathOp → Bool
is_not UnaryAdd = false
is_not UnarySub = false
is_not Negate = false
is_not Abs = false
is_not Not = true

-- == or !=
unfoldable pub is_equality : BinaryCompareOp → Bool
is_equality Equal = true
is_equality NotEqual = true
is_equality Greater = false
is_equality GreaterOrEqual = false
is_equality Less = false
is_equality LessOrEqual = false
is_equality NumEqual = false
is_equality NumNotEqual = false

unfoldable pub passed : Checked → Bool
passed (Ok _) = true
passed (Err x) = false

-- a test that is passed, or else 17 at l
unfoldable pub or17 : Location → Bool → Checked
or17 l b = cond b (Ok tt) (refused InvalidOperation l)

-- a variable at l whose type, if any, must pass a test: an unknown name 12, else 17
unfoldable pub of_type : Location → (ItemType → Bool) → Option ItemType → Checked
of_type l wanted none = refused UndefinedVariable l
of_type l wanted (some ty) = or17 l (wanted ty)

unfoldable pub variable : List StackParam → Location → Name → (ItemType → Bool) → Checked
variable ps l x wanted = of_type l wanted (type_of ps x)

-- the name of a variable; the bytes and the mark of a literal; nothing of any other expression
unfoldable pub name_of : Expression → Option Name
name_of (Variable l n x) = some x
name_of (NumberLiteral l v) = none
name_of (BooleanLiteral l b) = none
name_of (StringLiteral l b m) = none
name_of (LogicalExpression l o a b) = none
name_of (CompareExpression l o a b) = none
name_of (UnaryMathExpression l o a) = none
name_of (BinaryMathExpression l o a b) = none
name_of (UnaryCryptoExpression l o a) = none
name_of (CheckSigExpression l f) = none
name_of (ByteExpression l a) = none

pub record Literal : Type 0 where
  pub bytes : List ℕ
  pub marked : Bool

unfoldable pub literal_of : Expression → Option Literal
literal_of (Variable l n x) = none
literal_of (NumberLiteral l v) = none
literal_of (BooleanLiteral l b) = none
literal_of (StringLiteral l b m) = some (record { bytes = b; marked = m })
literal_of (LogicalExpression l o a b) = none
literal_of (CompareExpression l o a b) = none
literal_of (UnaryMathExpression l o a) = none
literal_of (BinaryMathExpression l o a b) = none
literal_of (UnaryCryptoExpression l o a) = none
literal_of (CheckSigExpression l f) = none
literal_of (ByteExpression l a) = none

-- a literal under a size has only ASCII, else 17 at the literal
unfoldable pub ascii : Expression → Checked
ascii e = elim (literal_of e) [ none ↦ Ok tt | some s ↦ or17 (loc e) (is_ascii s.bytes) ]

-- compare: both strings, or else both numbers, or else both truths; strings and truths allow only == and !=; otherwise 17 at the compare
unfoldable pub compared : Location → Bool → Bool → Bool → Bool → Checked
compared l equality true numbers truths = or17 l equality
compared l equality false true truths = Ok tt
compared l equality false false true = or17 l equality
compared l equality false false false = refused InvalidOperation l

-- the same from the string, number and truth rules' answers on the two sides, never an operand's own fault
unfoldable pub compare : Location → BinaryCompareOp → Checked → Checked → Checked → Checked → Checked → Checked → Checked
compare l o sa sb na nb ta tb = compared l (is_equality o) (passed sa && passed sb) (passed na && passed nb) (passed ta && passed tb)

-- the signature: not a variable 16, not of type Signature 17, at it
unfoldable pub signature : List StackParam → Expression → Checked
signature ps s = elim (name_of s) [ none ↦ refused TypeMismatch (loc s) | some x ↦ variable ps (loc s) x is_signature ]

-- the key: not a literal 16; no marked key of the target 22; at it
unfoldable pub key : Target → Expression → Checked
key g k = elim (literal_of k) [ none ↦ refused TypeMismatch (loc k) | some s ↦ cond (is_key g s.bytes s.marked) (Ok tt) (refused MalformedPubkey (loc k)) ]

-- signature before key
unfoldable pub sig_key : Target → List StackParam → Expression → Expression → Checked
sig_key g ps s k = both (signature ps s) (key g k)

-- how many factors
unfoldable pub size : Factors → ℕ
size []ᶠ = 0
size (f ∷ᶠ fs) = suc (size fs)

-- the factors of a multi-signature in turn; inner multi-signatures are skipped
unfoldable pub inner : Target → List StackParam → Factor → Checked
inner g ps (SingleSigFactor l s k) = sig_key g ps s k
inner g ps (MultiSigFactor l m fs) = Ok tt

unfoldable pub inners : Target → List StackParam → Factors → Checked
inners g ps []ᶠ = Ok tt
inners g ps (f ∷ᶠ fs) = both (inner g ps f) (inners g ps fs)

-- m = 0 or m above the factor count is 17 at the M line's location
unfoldable pub threshold : Location → ℕ → ℕ → Checked
threshold l m n = cond (eqb m 0 || ltb n m) (refused InvalidOperation l) (Ok tt)

-- a signature check, by the general rule
unfoldable pub factor : Target → List StackParam → Factor → Checked
factor g ps (SingleSigFactor l s k) = sig_key g ps s k
factor g ps (MultiSigFactor l m fs) = both (threshold l m (size fs)) (inners g ps fs)

-- not over a truth; any other unary over a number
unfoldable pub unary : Bool → Checked → Checked → Checked
unary true truth number = truth
unary false truth number = number

unfoldable mutual
  -- a literal; a hash by the hash rule on its operand; a variable of type String; else 17
  pub string : Expression → Target → List StackParam → Checked
  string (Variable l n x) g ps = variable ps l x is_string
  string (NumberLiteral l v) g ps = refused InvalidOperation l
  string (BooleanLiteral l b) g ps = refused InvalidOperation l
  string (StringLiteral l b m) g ps = Ok tt
  string (LogicalExpression l o a b) g ps = refused InvalidOperation l
  string (CompareExpression l o a b) g ps = refused InvalidOperation l
  string (UnaryMathExpression l o a) g ps = refused InvalidOperation l
  string (BinaryMathExpression l o a b) g ps = refused InvalidOperation l
  string (UnaryCryptoExpression l o a) g ps = hashed a g ps
  string (CheckSigExpression l f) g ps = refused InvalidOperation l
  string (ByteExpression l a) g ps = refused InvalidOperation l

  -- a number; a variable of type Number; size by the general rule; both sides of arithmetic; the operand of a unary other than not; else 17
  pub number : Expression → Target → List StackParam → Checked
  number (Variable l n x) g ps = variable ps l x is_number
  number (NumberLiteral l v) g ps = Ok tt
  number (BooleanLiteral l b) g ps = refused InvalidOperation l
  number (StringLiteral l b m) g ps = refused InvalidOperation l
  number (LogicalExpression l o a b) g ps = refused InvalidOperation l
  number (CompareExpression l o a b) g ps = refused InvalidOperation l
  number (UnaryMathExpression l o a) g ps = unary (is_not o) (refused InvalidOperation l) (number a g ps)
  number (BinaryMathExpression l o a b) g ps = both (number a g ps) (number b g ps)
  number (UnaryCryptoExpression l o a) g ps = refused InvalidOperation l
  number (CheckSigExpression l f) g ps = refused InvalidOperation l
  number (ByteExpression l a) g ps = both (string a g ps) (ascii a)

  -- a boolean; a variable of type Boolean; both sides of logic; not over a truth; compare and signature check by the general rule;
  -- other unary, arithmetic and size by the number rule and then 17; else 17
  pub truth : Expression → Target → List StackParam → Checked
  truth (Variable l n x) g ps = variable ps l x is_boolean
  truth (NumberLiteral l v) g ps = refused InvalidOperation l
  truth (BooleanLiteral l b) g ps = Ok tt
  truth (StringLiteral l b m) g ps = refused InvalidOperation l
  truth (LogicalExpression l o a b) g ps = both (truth a g ps) (truth b g ps)
  truth (CompareExpression l o a b) g ps = compare l o (string a g ps) (string b g ps) (number a g ps) (number b g ps) (truth a g ps) (truth b g ps)
  truth (UnaryMathExpression l o a) g ps = unary (is_not o) (truth a g ps) (both (number a g ps) (refused InvalidOperation l))
  truth (BinaryMathExpression l o a b) g ps = both (both (number a g ps) (number b g ps)) (refused InvalidOperation l)
  truth (UnaryCryptoExpression l o a) g ps = refused InvalidOperation l
  truth (CheckSigExpression l f) g ps = factor g ps f
  truth (ByteExpression l a) g ps = both (both (string a g ps) (ascii a)) (refused InvalidOperation l)

  -- a hash's operand: a variable not of type Signature, else 17; a hash by this rule again; others by the general rule
  pub hashed : Expression → Target → List StackParam → Checked
  hashed (Variable l n x) g ps = variable ps l x not_signature
  hashed (NumberLiteral l v) g ps = Ok tt
  hashed (BooleanLiteral l b) g ps = Ok tt
  hashed (StringLiteral l b m) g ps = Ok tt
  hashed (LogicalExpression l o a b) g ps = both (truth a g ps) (truth b g ps)
  hashed (CompareExpression l o a b) g ps = compare l o (string a g ps) (string b g ps) (number a g ps) (number b g ps) (truth a g ps) (truth b g ps)
  hashed (UnaryMathExpression l o a) g ps = unary (is_not o) (truth a g ps) (number a g ps)
  hashed (BinaryMathExpression l o a b) g ps = both (number a g ps) (number b g ps)
  hashed (UnaryCryptoExpression l o a) g ps = hashed a g ps
  hashed (CheckSigExpression l f) g ps = factor g ps f
  hashed (ByteExpression l a) g ps = both (string a g ps) (ascii a)

  -- the general rule: literals and variables pass; logic, not, arithmetic, hash as above; any other unary passes if its operand is a number,
  -- else the operand's fault; size wants a string, and a literal under it only ASCII
  pub general : Expression → Target → List StackParam → Checked
  general (Variable l n x) g ps = Ok tt
  general (NumberLiteral l v) g ps = Ok tt
  general (BooleanLiteral l b) g ps = Ok tt
  general (StringLiteral l b m) g ps = Ok tt
  general (LogicalExpression l o a b) g ps = both (truth a g ps) (truth b g ps)
  general (CompareExpression l o a b) g ps = compare l o (string a g ps) (string b g ps) (number a g ps) (number b g ps) (truth a g ps) (truth b g ps)
  general (UnaryMathExpression l o a) g ps = unary (is_not o) (truth a g ps) (number a g ps)
  general (BinaryMathExpression l o a b) g ps = both (number a g ps) (number b g ps)
  general (UnaryCryptoExpression l o a) g ps = hashed a g ps
  general (CheckSigExpression l f) g ps = factor g ps f
  general (ByteExpression l a) g ps = both (string a g ps) (ascii a)

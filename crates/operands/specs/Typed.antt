-- What a type rule answers on rows: the rule on trees, for every tree and every declaration that stand there.
use Rattle.std.specs.Prelude.{ℕ, suc, ◌+◌, Bool, true, false, List, ◌≡◌, Ok, Err, Option, Some, None}
use Rattle.std.proofs.Math.Option.{Option as Maybe, some, none}
use Rattle.ast.specs.declared.Location.{Location}
use Rattle.ast.specs.declared.Target.{Target}
use Rattle.ast.specs.declared.Type.{«Type» as ItemType}
use Rattle.ast.specs.declared.Type.TheVariants.{Signature, Number, String, Boolean}
use Rattle.ast.specs.declared.BinaryCompareOp.{BinaryCompareOp}
use Rattle.ast.specs.declared.ErrorKind.TheVariants.{InvalidOperation}
use Rattle.ast.specs.Tree.{StackParam, Declaration, from_top, loc, Expression, Variable, NumberLiteral, BooleanLiteral, StringLiteral, LogicalExpression, CompareExpression, UnaryMathExpression, BinaryMathExpression, UnaryCryptoExpression, CheckSigExpression, ByteExpression, Factor, Factors}
use Rattle.text.specs.Text.{part, bytes_of}
use Rattle.rows.specs.Rows.{line_in}
use Rattle.reader.specs.Reading.{item}
use Rattle.reader.specs.Spells.{SpellsExpression, SpellsFactor, SpellsFactors, SpellsItems}
use Rattle.nodes.specs.Stands.{Stands, walked}
use Rattle.names.specs.Items.{ItemsAt, Inside}
use Rattle.rules.specs.Result.{Result, Checked, both, refused}
use Rattle.rules.specs.Types.{type_of, is_not, is_equality, or17, name_of, literal_of, compare, size, threshold, inners, string, number, truth}
use Rattle.operands.specs.declared.Context.{Context}
use Rattle.operands.specs.declared.Leaf.{Leaf}
use Rattle.operands.specs.declared.Leaf.TheVariants.{Named, Bytes, Other}

-- the declaration that a context names
abbrev pub Declares : List ℕ → List ℕ → Context → Declaration → Type 0
Declares s t p d = SpellsItems (line_in t) StackParam (item s) p.items.count p.items.first d (p.items.first + p.items.count)

-- what a rule is asked of: a tree that stands at row i, the context's items standing too; `R i e j`: the rows from i up to j spell e
pub record Under {A : Type 0} (R : ℕ → A → ℕ → Type 0) (s t : List ℕ) (p : Context) (i : ℕ) : Type 0 where
  pub node : Stands R s t i
  pub items : ItemsAt s t p.items.count p.items.first

-- the rule's answer on every tree that stands at row i, under every declaration that the context names
abbrev pub Answers : {A : Type 0} → (ℕ → A → ℕ → Type 0) → (A → Target → List StackParam → Checked) → List ℕ → List ℕ → Context → ℕ → Result ℕ → Type 0
Answers {A} R rule s t p i r = (e : A) (j : ℕ) (d : Declaration) → R i e j → Declares s t p d → r ≡ walked (rule e p.target (from_top d)) j

abbrev pub ExpressionUnder : List ℕ → List ℕ → Context → ℕ → Type 0
ExpressionUnder s t p i = Under (SpellsExpression (line_in t) s) s t p i

abbrev pub Checks : (Expression → Target → List StackParam → Checked) → List ℕ → List ℕ → Context → ℕ → Result ℕ → Type 0
Checks rule s t p i r = Answers (SpellsExpression (line_in t) s) rule s t p i r

-- two expressions, one after the other
pub record Two : Type 0 where
  pub left : Expression
  pub right : Expression

pub record SpellsTwo (s t : List ℕ) (i : ℕ) (e : Two) (j : ℕ) : Type 0 where
  pub mid : ℕ
  pub first : SpellsExpression (line_in t) s i e.left mid
  pub second : SpellsExpression (line_in t) s mid e.right j

abbrev pub TwoUnder : List ℕ → List ℕ → Context → ℕ → Type 0
TwoUnder s t p i = Under (SpellsTwo s t) s t p i

-- the left one by one rule, then the right one by another
abbrev pub ChecksTwo : (left right : Expression → Target → List StackParam → Checked) → List ℕ → List ℕ → Context → ℕ → Result ℕ → Type 0
ChecksTwo left right s t p i r = Answers (SpellsTwo s t) (λ e g ps. both (left e.left g ps) (right e.right g ps)) s t p i r

abbrev pub FactorUnder : List ℕ → List ℕ → Context → ℕ → Type 0
FactorUnder s t p i = Under (SpellsFactor (line_in t) s) s t p i

abbrev pub ChecksFactor : (Target → List StackParam → Factor → Checked) → List ℕ → List ℕ → Context → ℕ → Result ℕ → Type 0
ChecksFactor rule s t p i r = Answers (SpellsFactor (line_in t) s) (λ f g ps. rule g ps f) s t p i r

-- n factors
abbrev pub FactorsUnder : ℕ → List ℕ → List ℕ → Context → ℕ → Type 0
FactorsUnder n s t p i = Under (SpellsFactors (line_in t) s n) s t p i

abbrev pub ChecksFactors : ℕ → (Factors → Target → List StackParam → Checked) → List ℕ → List ℕ → Context → ℕ → Result ℕ → Type 0
ChecksFactors n rule s t p i r = Answers (SpellsFactors (line_in t) s n) rule s t p i r

-- the type of a name, as the code has it
abbrev pub type_found : Maybe ItemType → Option ItemType
type_found none = None
type_found (some ty) = Some ty

-- p is the test that a closure makes of a type
abbrev pub Computes : (ItemType → Bool → Type 0) → (ItemType → Bool) → Type 0
Computes P p = (ty : ItemType) (b : Bool) → P ty b → b ≡ p ty

-- what the first row of a tree says of it: a name, a literal, or neither of the two
unfoldable pub LeafIs : List ℕ → ℕ → Leaf → Expression → ℕ → Type 0
LeafIs s i (Named l x) e j = (e ≡ Variable l (suc i) (part s x)) × (j ≡ suc i) × Inside s x
LeafIs s i (Bytes l x m) e j = (e ≡ StringLiteral l (bytes_of s x) m) × (j ≡ suc i) × Inside s x
LeafIs s i (Other l) e j = (name_of e ≡ none) × (literal_of e ≡ none) × (loc e ≡ l)

-- the one type that an operand of a compare can have, by its own line; a variable's is the declared one
unfoldable pub sort_of : List StackParam → Expression → Option ItemType
sort_of ps (Variable l n x) = type_found (type_of ps x)
sort_of ps (NumberLiteral l v) = Some Number
sort_of ps (BooleanLiteral l b) = Some Boolean
sort_of ps (StringLiteral l b m) = Some String
sort_of ps (LogicalExpression l o a b) = Some Boolean
sort_of ps (CompareExpression l o a b) = Some Boolean
sort_of ps (UnaryMathExpression l o a) = elim (is_not o) [ true ↦ Some Boolean | false ↦ Some Number ]
sort_of ps (BinaryMathExpression l o a b) = Some Number
sort_of ps (UnaryCryptoExpression l o a) = Some String
sort_of ps (CheckSigExpression l f) = Some Boolean
sort_of ps (ByteExpression l a) = Some Number

-- the rule for a type; what is of type Signature passes none of the three
unfoldable pub rule_of : ItemType → Expression → Target → List StackParam → Checked
rule_of Signature = truth
rule_of Number = number
rule_of String = string
rule_of Boolean = truth

-- whether a compare of two operands of a type is allowed: numbers always, others by == and !=
unfoldable pub allows : ItemType → BinaryCompareOp → Bool
allows Signature o = is_equality o
allows Number o = true
allows String o = is_equality o
allows Boolean o = is_equality o

-- a compare at l, from the answer on its two operands: never an operand's own fault
unfoldable pub judged : Location → BinaryCompareOp → ItemType → Checked → Checked
judged l o ty (Ok _) = or17 l (allows ty o)
judged l o ty (Err x) = refused InvalidOperation l

-- a compare of two operands, as the general rule has it
unfoldable pub compare_two : Location → BinaryCompareOp → Two → Target → List StackParam → Checked
compare_two l o e g ps = compare l o (string e.left g ps) (string e.right g ps) (number e.left g ps) (number e.right g ps) (truth e.left g ps) (truth e.right g ps)

-- the factors of a multi-signature at l: the threshold, then each in turn
unfoldable pub counted : Location → ℕ → Factors → Target → List StackParam → Checked
counted l m fs g ps = both (threshold l m (size fs)) (inners g ps fs)

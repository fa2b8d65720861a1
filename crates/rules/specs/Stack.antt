-- The stack of demand 3: fed the variables along one path, and nothing of the examiner's tables.
use Rattle.std.specs.Prelude.{ℕ, true, false, List, [], ◌∷◌, ◌++◌, map, reverse, ◌≡◌, get_or}
use Rattle.std.proofs.Math.Option.{Option, some, none}
use Rattle.rules.specs.Ast.{Name, same, Location, Declaration, Contract, Expression, Factor, Factors, Variable, NumberLiteral, BooleanLiteral, StringLiteral, LogicalExpression, CompareExpression, UnaryMathExpression, BinaryMathExpression, UnaryCryptoExpression, CheckSigExpression, ByteExpression, SingleSigFactor, MultiSigFactor, []ᶠ, ◌∷ᶠ◌}
use Rattle.rules.specs.Paths.{Path, paths}

-- a variable as it is met: its place, listing line and name
pub record Met : Type 0 where
  pub loc : Location
  pub line : ℕ
  pub name : Name

-- the variables of an expression in the order of its lines, a name as often as it stands,
-- but none below a multi-signature that is itself a factor of another
unfoldable mutual
  pub met : Expression → List Met
  met (Variable l n x) = record { loc = l; line = n; name = x } ∷ []
  met (NumberLiteral l v) = []
  met (BooleanLiteral l b) = []
  met (StringLiteral l b m) = []
  met (LogicalExpression l o a b) = met a ++ met b
  met (CompareExpression l o a b) = met a ++ met b
  met (UnaryMathExpression l o a) = met a
  met (BinaryMathExpression l o a b) = met a ++ met b
  met (UnaryCryptoExpression l o a) = met a
  met (CheckSigExpression l f) = met_factor f
  met (ByteExpression l a) = met a

  pub met_factor : Factor → List Met
  met_factor (SingleSigFactor l s k) = met s ++ met k
  met_factor (MultiSigFactor l m fs) = met_factors fs

  pub met_inner : Factor → List Met
  met_inner (SingleSigFactor l s k) = met s ++ met k
  met_inner (MultiSigFactor l m fs) = []

  pub met_factors : Factors → List Met
  met_factors []ᶠ = []
  met_factors (f ∷ᶠ fs) = met_inner f ++ met_factors fs

-- the variables a path meets, expression by expression
unfoldable pub meets : Path → List Met
meets [] = []
meets (e ∷ p) = met e ++ meets p

-- their names
abbrev pub along : Path → List Name
along p = map (λ v. v.name) (meets p)

-- the stack a declaration lays down: its names, last declared on top
abbrev pub stack : Declaration → List Name
stack d = map (λ p. p.identifier) (reverse d)

-- a variable met that is the top name takes it off; any other, or one met with nothing left, fails the path for good
unfoldable pub feed : List Name → List Name → Option (List Name)
feed [] s = some s
feed (x ∷ xs) [] = none
feed (x ∷ xs) (y ∷ s) = elim (same x y) [ true ↦ feed xs s | false ↦ none ]

-- path n of a contract, and the declaration that n others precede
abbrev pub path_of : Contract → ℕ → Path
path_of c n = get_or (paths c.block) n []

abbrev pub declaration_of : Contract → ℕ → Declaration
declaration_of c n = get_or c.declarations n []

-- path n empties its stack: none failed it and nothing is left after its return
abbrev pub Empties : Contract → ℕ → Type 0
Empties c n = feed (along (path_of c n)) (stack (declaration_of c n)) ≡ some []

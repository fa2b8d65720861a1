-- What "in order" means of a tree: flow, path count, distinct names, types, limits, each by its rule.
use Rattle.std.specs.Prelude.{ℕ, ◌+◌, true, List, [], ◌∷◌, ◌≡◌, length, get_or, Ok}
use Rattle.rules.specs.Ast.{Name, Target, StackParam, Declaration, Contract, Statement, Block, IfStatement, IfElseStatement, LocktimeStatement, VerifyStatement, ExpressionStatement, []ᵇ, ◌∷ᵇ◌, from_top}
use Rattle.rules.specs.Paths.{count}
use Rattle.rules.specs.Flow.{flow}
use Rattle.rules.specs.Types.{truth}
use Rattle.rules.specs.Limits.{security, in_bounds}
use Rattle.rules.specs.Stack.{stack}

-- a name is none of these
abbrev pub Absent : Name → List Name → Type 0
Absent x [] = Unit {0}
Absent x (y ∷ ys) = (x ≡ y → ⊥) × Absent x ys

-- no name twice
abbrev pub Distinct : List Name → Type 0
Distinct [] = Unit {0}
Distinct (x ∷ xs) = Absent x xs × Distinct xs

-- no name twice in one declaration
abbrev pub DistinctAll : List Declaration → Type 0
DistinctAll [] = Unit {0}
DistinctAll (d ∷ ds) = Distinct (stack d) × DistinctAll ds

-- the declaration that n others precede, from the top
abbrev pub declared : List Declaration → ℕ → List StackParam
declared ds n = from_top (get_or ds n [])

-- each verify, condition and return passes the truth rule with the types in the declaration of the lowest-numbered path through it.
-- `n` is the block's lowest path: an if's condition and if-block begin at n, its else-block as many paths later as the if-block has
unfoldable mutual
  pub TypedStatement : Statement → Target → List Declaration → ℕ → Type 0
  TypedStatement (IfStatement l e b) g ds n = (truth e g (declared ds n) ≡ Ok tt) × Typed b g ds n
  TypedStatement (IfElseStatement l e b c) g ds n = (truth e g (declared ds n) ≡ Ok tt) × Typed b g ds n × Typed c g ds (n + count b)
  TypedStatement (LocktimeStatement l m o v) g ds n = Unit {0}
  TypedStatement (VerifyStatement l e) g ds n = truth e g (declared ds n) ≡ Ok tt
  TypedStatement (ExpressionStatement l e) g ds n = truth e g (declared ds n) ≡ Ok tt

  pub Typed : Block → Target → List Declaration → ℕ → Type 0
  Typed []ᵇ g ds n = Unit {0}
  Typed (s ∷ᵇ b) g ds n = TypedStatement s g ds n × Typed b g ds n

-- each wait, and each number and literal that check_security visits, is within its bounds
unfoldable mutual
  pub LimitedStatement : Statement → Type 0
  LimitedStatement (IfStatement l e b) = (security e ≡ Ok tt) × Limited b
  LimitedStatement (IfElseStatement l e b c) = (security e ≡ Ok tt) × Limited b × Limited c
  LimitedStatement (LocktimeStatement l n o v) = in_bounds o v ≡ true
  LimitedStatement (VerifyStatement l e) = security e ≡ Ok tt
  LimitedStatement (ExpressionStatement l e) = security e ≡ Ok tt

  pub Limited : Block → Type 0
  Limited []ᵇ = Unit {0}
  Limited (s ∷ᵇ b) = LimitedStatement s × Limited b

pub record InOrder (c : Contract) : Type 0 where
  pub flows : flow c.block ≡ Ok tt
  pub counts : length c.declarations ≡ count c.block
  pub distinct : DistinctAll c.declarations
  pub typed : Typed c.block c.target c.declarations 0
  pub limited : Limited c.block

-- What each item of an accepted contract was taken by, and its waits, from the tree alone.
use Prim.Native.Nat.{ℕ}
use mathlib.Core.List.{List, [], ◌∷◌, ◌++◌}
use mathlib.Core.Option.{some, none}
use Rattle.std.specs.Prelude.{Ok, Err}
use Rattle.rules.specs.Ast.{StackParam, Declaration, Contract, from_top, Statement, Block, IfStatement, IfElseStatement, LocktimeStatement, VerifyStatement, ExpressionStatement, []ᵇ, ◌∷ᵇ◌}
use Rattle.rules.specs.Result.{Result}
use Rattle.rules.specs.Paths.{Path, paths}
use Rattle.rules.specs.Limits.{wait}
use Rattle.rules.specs.Table.{Table}
use Rattle.rules.specs.Walk.{Wait}
use Rattle.rules.specs.Analyze.{Analysis}
use Rattle.rules.specs.Stack.{Met, meets}

-- the items from the top, the first taken by the line of the first variable met, and so on
unfoldable pub final : List StackParam → List Met → Table
final [] vs = []
final (p ∷ ps) [] = record { param = p; taken = none } ∷ final ps []
final (p ∷ ps) (v ∷ vs) = record { param = p; taken = some v.line } ∷ final ps vs

unfoldable pub final_all : List Declaration → List Path → List Table
final_all [] ps = []
final_all (d ∷ ds) [] = []
final_all (d ∷ ds) (p ∷ ps) = final (from_top d) (meets p) ∷ final_all ds ps

-- the final table of every path
abbrev pub finals : Contract → List Table
finals c = final_all c.declarations (paths c.block)

-- the wait of a listing line, if it is within its bounds
abbrev pub noted : ℕ → Result ℕ → List Wait
noted n (Ok k) = record { line = n; number = k } ∷ []
noted n (Err x) = []

-- the waits of a block in listing order
unfoldable mutual
  pub waits_in : Statement → List Wait
  waits_in (IfStatement l e b) = waits_of b
  waits_in (IfElseStatement l e b c) = waits_of b ++ waits_of c
  waits_in (LocktimeStatement l n o v) = noted n (wait l o v)
  waits_in (VerifyStatement l e) = []
  waits_in (ExpressionStatement l e) = []

  pub waits_of : Block → List Wait
  waits_of []ᵇ = []
  waits_of (s ∷ᵇ b) = waits_in s ++ waits_of b

-- what acceptance hands up
abbrev pub outcome : Contract → Analysis
outcome c = record { tables = finals c; waits = waits_of c.block }

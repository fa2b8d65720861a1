-- The walk as the code holds it: the tables of all paths, and the path in use. The waits that it meets stay in their rows.
use Rattle.std.specs.Prelude.{ℕ, List, [], Ok, Err}
use Rattle.ast.specs.declared.Location.{Location}
use Rattle.ast.specs.declared.Target.{Target}
use Rattle.ast.specs.Tree.{Expression, Statement, Block}
use Rattle.rules.specs.Result.{Result}
use Rattle.rules.specs.Table.{Table}
use Rattle.rules.specs.Walk.{Walked, examine_at, cross, walk_statement, walk}
use Rattle.rules.specs.Analyze.{Analysis}

pub record Held : Type 0 where
  pub tables : List Table
  pub branch : ℕ

-- what a walk comes to, its waits aside
abbrev pub held : Result Walked → Result Held
held (Ok w) = Ok (record { tables = w.tables; branch = w.branch })
held (Err x) = Err x

-- on a path, no wait being met
abbrev pub on : List Table → ℕ → Walked
on ts n = record { tables = ts; branch = n; waits = [] }

-- the walk of a block, of a statement, of an expression, and from an if-block to the next path
unfoldable pub walk_held : Block → Target → List Table → ℕ → Result Held
walk_held b g ts n = held (walk b g (on ts n))

unfoldable pub statement_held : Statement → Target → List Table → ℕ → Result Held
statement_held x g ts n = held (walk_statement x g (on ts n))

abbrev pub examine_held : Target → Location → Expression → List Table → ℕ → Result Table
examine_held g l e ts n = examine_at g l e (on ts n)

unfoldable pub cross_held : Location → Table → Held → Result Held
cross_held l t h = held (cross l t (on h.tables h.branch))

-- what an analysis comes to, its waits aside
abbrev pub held_tables : Result Analysis → Result (List Table)
held_tables (Ok a) = Ok a.tables
held_tables (Err x) = Err x

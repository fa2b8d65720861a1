-- Demand 3, on trees: accepted exactly where all is in order and every path empties its stack.
use Prim.Native.Nat.{ℕ, ◌<◌}
use mathlib.Core.Logic.{◌↔◌}
use mathlib.Core.Path.{◌≡◌}
use Rattle.std.specs.Prelude.{Ok}
use Rattle.rules.specs.Ast.{Contract}
use Rattle.rules.specs.Result.{Checked, answer}
use Rattle.rules.specs.Paths.{count}
use Rattle.rules.specs.Analyze.{analyze}
use Rattle.rules.specs.Stack.{Empties}
use Rattle.rules.specs.InOrder.{InOrder}

-- Check's answer on a tree
unfoldable pub check : Contract → Checked
check c = answer (analyze c)

abbrev pub Accepted : Contract → Type 0
Accepted c = check c ≡ Ok tt

abbrev pub Demand3 : Type 0
Demand3 = (c : Contract) → Accepted c ↔ (InOrder c × ((n : ℕ) → n < count c.block → Empties c n))

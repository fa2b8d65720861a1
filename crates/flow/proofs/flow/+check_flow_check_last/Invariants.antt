-- check_flow and the check of a last statement meet their contracts. The measure is the rows left.
use Prim.Native.Nat.{ℕ, ◌+◌, ◌-◌, ◌<◌}
use mathlib.Core.List.{List}
use mathlib.Core.Path.{◌≡◌}
use lib.ListN.{length}
use Rattle.ast.specs.Tree.{Block}
use Rattle.rows.specs.Rows.{line_in}
use Rattle.reader.specs.Spells.{SpellsBlock, SpellsStatements}
use Rattle.rules.specs.Flow.{flow}
use Rattle.nodes.specs.Stands.{StatementsAt}
use Rattle.nodes.specs.Somewhere.{Somewhere}
use Rattle.flow.proofs.flow.+check_flow_check_last.Given as goal

abbrev pub decreases-check_flow : goal.decreases-check_flow
decreases-check_flow l = length l.table.now - l.i

abbrev pub decreases-check_last : goal.decreases-check_last
decreases-check_last l = length l.table.now - l.i

-- the statements from the counter on, and the last, are left
abbrev pub invariant-check_flow-loop : goal.invariant-check_flow-loop
invariant-check_flow-loop l = record {
  onward : l.i < l.at;
  stand : Somewhere (λ s. StatementsAt s l.table (l.n + 1 - l.counter) l.at);
  spelled : (s : List ℕ) (b : Block) (j : ℕ) → SpellsBlock (line_in l.table) s l.i b j → (d : Block) × SpellsStatements (line_in l.table) s (l.n + 1 - l.counter) l.at d j × (flow b ≡ flow d);
}

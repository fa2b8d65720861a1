-- The row after n nodes meets its contract. The measure is the rows left.
use Prim.Native.Nat.{ℕ, ◌-◌}
use lib.ListN.{length}
use Rattle.rows.specs.Rows.{line_in}
use Rattle.nodes.specs.Nodes.{Spans, Spanned}
use Rattle.nodes.proofs.skip_nodes.Given as goal

abbrev pub invariant-loop-due : goal.invariant-loop-due
invariant-loop-due l = Spanned l.table l.due l.next × ((j : ℕ) → Spans (line_in l.table) l.n l.i j → Spans (line_in l.table) l.due l.next j)

abbrev pub decreases-loop-due : goal.decreases-loop-due
decreases-loop-due l = length l.table - l.next

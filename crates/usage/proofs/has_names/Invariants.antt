-- Whether any name stands in an expression meets its contract. The measure is the rows left.
use Prim.Native.Nat.{ℕ, ◌-◌}
use mathlib.Core.List.{List}
use mathlib.Core.Path.{◌≡◌}
use lib.ListN.{length}
use Rattle.ast.specs.Tree.{Expression}
use Rattle.rows.specs.Rows.{line_in}
use Rattle.reader.specs.Spells.{SpellsExpression}
use Rattle.nodes.specs.Nodes.{Node, SpellsNodes, NodesAt}
use Rattle.nodes.specs.Somewhere.{Somewhere}
use Rattle.usage.specs.Names.{has_names}
use Rattle.usage.proofs.Names.{any_names}
use Rattle.usage.proofs.has_names.Given as goal

abbrev pub invariant-loop-due : goal.invariant-loop-due
invariant-loop-due l = Somewhere (λ s. NodesAt s l.table l.due l.next) × ((s : List ℕ) (e : Expression) (j : ℕ) → SpellsExpression (line_in l.table) s l.i e j → (ns : List Node) × SpellsNodes (line_in l.table) s l.due l.next ns j × (has_names e ≡ any_names ns))

abbrev pub decreases-loop-due : goal.decreases-loop-due
decreases-loop-due l = length l.table - l.next

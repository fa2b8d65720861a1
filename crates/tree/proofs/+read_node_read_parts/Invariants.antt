-- The measures: how deep the node goes, and the deepest of the parts.
use Rattle.std.proofs.Common.{◌≡◌, ℕ, suc, ◌*◌, ◌<◌}
use Rattle.tree.specs.Walk.{parts_of, node, depth_of, deepest}
use Rattle.tree.proofs.Walk.{parts_from}
use Rattle.tree.proofs.+read_node_read_parts.Given as goal

abbrev pub decreases-read_node : goal.decreases-read_node
decreases-read_node l = 2 * depth_of l.kind l.left

abbrev pub decreases-read_parts : goal.decreases-read_parts
decreases-read_parts l = suc (2 * deepest l.form l.left)

abbrev pub invariant-read_parts-loop-k : goal.invariant-read_parts-loop-k
invariant-read_parts-loop-k l = (f : ℕ) → deepest l.form l.left < f → parts_from (node f l.listed.table.now l.listed.lines l.left) l.form l.k l.next ≡ parts_of (node f l.listed.table.now l.listed.lines l.left) l.form l.i

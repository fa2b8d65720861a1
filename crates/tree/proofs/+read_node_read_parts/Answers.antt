-- A node that has parts is its line and these.
use Rattle.tree.proofs.Walk.{node_parts}
use Rattle.tree.proofs.+read_node_read_parts.Goals as goal

pub read_node-returns : goal.read_node-returns
read_node-returns t c f h = node_parts f _ _ _ _ _ _ _ h c.in_ok-form.ensures c.below.ensures c.read_parts.ensures

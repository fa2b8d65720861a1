use Prim.Native.Nat.{◌-◌}
use lib.ListN.{length}
use Rattle.blocks.proofs.Blocks.{Midway}
use Rattle.blocks.proofs.+walk_block_walk_if.Given as goal

abbrev pub decreases-walk_block : goal.decreases-walk_block
decreases-walk_block l = length l.rows.now.table.now - l.walk.now.next

abbrev pub decreases-walk_if : goal.decreases-walk_if
decreases-walk_if l = length l.rows.now.table.now - l.walk.now.next

-- what is left of the block goes on from where the walk stands
abbrev pub invariant-walk_block-loop : goal.invariant-walk_block-loop
invariant-walk_block-loop l = Midway l.rows.listing.now l.rows.table.now l.d (l.count - l.counter) l.fn.walk l.walk

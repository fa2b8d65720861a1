-- check_security meets its contract. The measure is the rows left.
use Prim.Native.Nat.{◌-◌}
use lib.ListN.{length}
use Rattle.limits.proofs.Security.{Rest}
use Rattle.limits.proofs.check_security.Given as goal

abbrev pub invariant-loop-due : goal.invariant-loop-due
invariant-loop-due l = Rest l.rows.listing.now l.rows.table.now l.i l.next l.due

abbrev pub decreases-loop-due : goal.decreases-loop-due
decreases-loop-due l = length l.rows.table.now - l.next

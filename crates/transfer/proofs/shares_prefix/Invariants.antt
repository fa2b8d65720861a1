use mathlib.Core.Bool.{true}
use mathlib.Core.Path.{◌≡◌}
use lib.ListN.{take}
use Rattle.rules.specs.Transfer.{placed}
use Rattle.paths.specs.Path.{table_of}
use Rattle.transfer.proofs.shares_prefix.Given as goal

abbrev pub invariant-loop-k : goal.invariant-loop-k
invariant-loop-k l = placed (take l.k (table_of l.rows.listing.now l.rows.table.now l.from)) (table_of l.rows.listing.now l.rows.table.now l.to) ≡ true

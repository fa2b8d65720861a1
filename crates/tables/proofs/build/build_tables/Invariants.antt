use Rattle.tables.proofs.Building.{Building}
use Rattle.tables.proofs.build.build_tables.Given as goal

abbrev pub invariant-loop-p : goal.invariant-loop-p
invariant-loop-p l = Building l.rows.listing.now l.rows.table.now l.d l.paths l.p

use Rattle.paths.proofs.Tables.{Left}
use Rattle.paths.proofs.find_place.Given as goal

abbrev pub invariant-loop-k : goal.invariant-loop-k
invariant-loop-k l = Left l.rows.listing.now l.rows.table.now l.path l.k l.name

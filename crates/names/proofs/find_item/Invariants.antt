use Rattle.names.proofs.Laws.{Left}
use Rattle.names.proofs.find_item.Given as goal

abbrev pub invariant-loop-k : goal.invariant-loop-k
invariant-loop-k l = Left l.rows.listing.now l.rows.table.now l.items.first l.items.count l.k l.name

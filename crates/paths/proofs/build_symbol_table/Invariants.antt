use Rattle.paths.proofs.Build.{Building}
use Rattle.paths.proofs.build_symbol_table.Given as goal

abbrev pub invariant-loop-k : goal.invariant-loop-k
invariant-loop-k l = Building l.rows.listing.now l.rows.table.now l.items.first l.items.count l.k l.path

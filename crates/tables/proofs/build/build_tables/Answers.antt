use Rattle.std.proofs.Common.{arith}
use Rattle.tables.proofs.Building.{building-none, building-err, building-more, building-all, answered-err}
use Rattle.tables.proofs.build.build_tables.Goals as goal

pub loop-p-init : goal.loop-p-init
loop-p-init c = building-none _ _ _ c.empty-paths.ensures

pub returns-in_err-paths : goal.returns-in_err-paths
returns-in_err-paths c = λ x n D. answered-err c.from_residual.ensures.1 (building-err _ _ _ c.requires c.loop-p.invariant (omega arith) c.build_symbol_table.ensures D c.in_err-paths.was)

pub loop-p-preserved : goal.loop-p-preserved
loop-p-preserved c = building-more _ _ _ c.requires c.loop-p.invariant (omega arith) c.build_symbol_table.ensures c.in_ok-paths.was

pub returns : goal.returns
returns c = λ x n D. building-all _ _ _ D c.loop-p.invariant (omega arith)

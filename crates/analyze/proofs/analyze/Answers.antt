use Rattle.analyze.proofs.Analyzing.{refused, shape-err, build-err, walk-err, left-err, left-none}
use Rattle.analyze.proofs.analyze.Goals as goal

pub returns-in_err-check_shape : goal.returns-in_err-check_shape
returns-in_err-check_shape c = refused _ c.from_residual.ensures.1 (shape-err c.requires.1 c.check_shape.ensures c.in_err-check_shape.was)

pub returns-in_err-build_tables : goal.returns-in_err-build_tables
returns-in_err-build_tables c = refused _ c.from_residual-in_err-build_tables.ensures.1 (build-err c.requires.1 c.check_shape.ensures c.in_ok-check_shape.was c.build_tables.ensures c.in_err-build_tables.was)

pub returns-in_err-analyze_block : goal.returns-in_err-analyze_block
returns-in_err-analyze_block c = refused _ c.from_residual-in_err-analyze_block.ensures.1 (walk-err c.requires.1 c.check_shape.ensures c.in_ok-check_shape.was c.build_tables.ensures c.in_ok-build_tables.was _ c.analyze_block.ensures.moved c.in_err-analyze_block.was)

pub returns-in_err-check_unused : goal.returns-in_err-check_unused
returns-in_err-check_unused c = refused _ c.from_residual-in_err-check_unused.ensures.1 (left-err c.requires.1 c.check_shape.ensures c.in_ok-check_shape.was c.build_tables.ensures c.in_ok-build_tables.was _ c.analyze_block.ensures.moved c.in_ok-analyze_block.was c.check_unused.ensures c.in_err-check_unused.was)

pub returns : goal.returns
returns c = left-none c.requires.1 c.check_shape.ensures c.in_ok-check_shape.was c.build_tables.ensures c.in_ok-build_tables.was _ c.analyze_block.ensures.moved c.in_ok-analyze_block.was c.check_unused.ensures c.in_ok-check_unused.was

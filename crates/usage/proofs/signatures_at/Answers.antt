use native.Mathlib.Omega.{arith}
use Rattle.rows.specs.Rows.{line_in}
use Rattle.nodes.proofs.Laws.{factor-holds}
use Rattle.usage.proofs.Trees.{factor-parts}
use Rattle.usage.proofs.signatures_at.Goals as goal

pub factor_at-requires : goal.factor_at-requires
factor_at-requires c = factor-holds c.requires.1

pub overflow_add-first : goal.overflow_add-first
overflow_add-first c = omega (arith, (factor-holds c.requires.1).room)

pub returns-in-SingleSigFactor : goal.returns-in-SingleSigFactor
returns-in-SingleSigFactor c s f j sp =
    let p = factor-parts (line_in c.args.table.now) s sp c.factor_at.ensures c.in-SingleSigFactor.is in
    (omega arith, (p.0, p.1, p.2))

pub returns-in-MultiSigFactor : goal.returns-in-MultiSigFactor
returns-in-MultiSigFactor c s f j sp =
    let p = factor-parts (line_in c.args.table.now) s sp c.factor_at.ensures c.in-MultiSigFactor.is in
    (omega arith, (p.0, p.1, p.2))

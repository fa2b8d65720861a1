use Rattle.std.proofs.Common.{arith}
use Rattle.reporting.proofs.Lengths.{refusal-short}
use Rattle.reporting.proofs.put_refusal.Goals as goal

pub returns-clause-short : goal.returns-clause-short
returns-clause-short g c = refusal-short c.args.x (omega (arith, c.from.ensures)) (omega arith) (omega arith) (omega arith) (omega arith)

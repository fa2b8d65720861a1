use Rattle.std.proofs.Common.{rules, tests, arith}
use Rattle.limits.proofs.Pairs.{pairs-all}
use Rattle.limits.proofs.literals.all_pairs.Goals as goal

pub returns : goal.returns
returns g c =
    let m = c.all.ensures.runs in
    let made = c.chunks_exact.ensures in
    let cut = rw (m.1, made.size, made.rest) at (made.runs m.0 m.0.seen) in
    pairs-all m.0 c.args.digits.now (cut (omega arith)) _ (λ x r q k. search (rules, tests)) m.2

use Rattle.std.proofs.Common.{◌++◌, ap, drop, length-take-le}
use Rattle.rows.specs.Work.{cleared}
use Rattle.rows.proofs.clear.Goals as goal

pub returns : goal.returns
unfolding cleared
returns c = let n = length-take-le 16384 c.args.work.now c.requires in ap (λ z. z ++ drop 16384 c.args.work.now) (rw n at (c.fill.ensures.after (λ y e. e)))

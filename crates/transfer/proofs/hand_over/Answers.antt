use native.Mathlib.Numerals.{add-one}
use mathlib.Core.Path.{ap}
use lib.ListN.{get_or}
use Rattle.paths.specs.Path.{no_place, marked}
use Rattle.transfer.specs.Handed.{handed}
use Rattle.transfer.proofs.hand_over.Goals as goal

pub loop-k-preserved : goal.loop-k-preserved
unfolding handed
loop-k-preserved c =
    let l = c.loop-k in
    rw (c.mark.ensures, add-one l.k) (ap (λ q. marked q l.k (get_or c.args.from.places l.k no_place).line) l.invariant)

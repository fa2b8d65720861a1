use mathlib.Core.Path.{◌≡◌}
use Rattle.transfer.specs.Handed.{handed}
use Rattle.transfer.proofs.hand_over.Given as goal

abbrev pub invariant-loop-k : goal.invariant-loop-k
invariant-loop-k l = l.out ≡ handed l.from l.initial.out l.k

use Rattle.rehearsal.specs.Rehearse.{taken_back}
use Rattle.rehearsal.specs.Acts.{act}
use Rattle.rehearsal.proofs.take_back.Goals as goal

pub returns : goal.returns
unfolding act taken_back
returns c = c.rehearse.ensures

use Rattle.rehearsal.specs.Rehearse.{laid}
use Rattle.rehearsal.specs.Acts.{act}
use Rattle.rehearsal.proofs.lay.Goals as goal

pub returns : goal.returns
unfolding act laid
returns c = c.rehearse.ensures

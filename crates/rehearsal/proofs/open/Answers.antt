use Rattle.rehearsal.specs.Rehearse.{opened}
use Rattle.rehearsal.specs.Acts.{act}
use Rattle.rehearsal.proofs.open.Goals as goal

pub returns : goal.returns
unfolding act opened
returns c = c.rehearse.ensures

use Rattle.rehearsal.specs.Rehearse.{opened}
use Rattle.rehearsal.specs.Acts.{act}
use Rattle.bithoven_examiner.proofs.rehearse.bithoven_rehearse_open.Goals as goal

pub returns : goal.returns
unfolding act opened
returns c = c.answer_turn.ensures

use Rattle.rehearsal.specs.Rehearse.{taken_back}
use Rattle.rehearsal.specs.Acts.{act}
use Rattle.bithoven_examiner.proofs.rehearse.bithoven_rehearse_take_back.Goals as goal

pub returns : goal.returns
unfolding act taken_back
returns c = rw c.rehearsal_in-r.ensures at c.answer_turn.ensures

use Rattle.rehearsal.specs.Rehearse.{laid}
use Rattle.rehearsal.specs.Acts.{act}
use Rattle.bithoven_examiner.proofs.rehearse.bithoven_rehearse_lay.Goals as goal

pub returns : goal.returns
unfolding act laid
returns c = rw c.rehearsal_in-r.ensures at c.answer_turn.ensures

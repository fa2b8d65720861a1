use mathlib.Core.Path.{refl}
use Rattle.rehearsal.specs.Acts.{turned}
use Rattle.bithoven_examiner.proofs.Rehearsals.{leaves}
use Rattle.bithoven_examiner.proofs.rehearse.answer_turn.Goals as goal

pub returns : goal.returns
returns c =
    let a = c.args in
    leaves (λ k. turned a.listing.now k a.r a.turn) a.rehearsal.now a.due.now refl c.rehearse-x.ensures.value c.put_rehearsed.ensures

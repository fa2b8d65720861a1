use Rattle.lent_path.proofs.Laws.{kept-by}
use Rattle.lent_path.proofs.bithoven_take.Goals as goal

pub returns : goal.returns
returns c = kept-by c.take_at-walked.ensures c.store.ensures.answer c.store.ensures.left

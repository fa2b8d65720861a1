use mathlib.Core.Path.{refl}
use Rattle.bithoven_examiner.proofs.Laws.{number-promised}
use Rattle.bithoven_examiner.proofs.bithoven_check.Goals as goal

pub returns : goal.returns
returns c =
    let k = c.check in
    let all = number-promised c.args.listing.now _ k.result _ refl k.ensures.value k.ensures.variant c.numbers_of.ensures refl in
    record { value = all.0; answer_after = all.1.0; variant = all.1.1 }

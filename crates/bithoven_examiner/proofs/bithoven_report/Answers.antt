use mathlib.Core.Path.{refl}
use Rattle.bithoven_examiner.proofs.Laws.{report-promised}
use Rattle.bithoven_examiner.proofs.bithoven_report.Goals as goal

pub returns : goal.returns
returns c =
    let a = c.args in
    let k = c.report-r in
    let all = report-promised a.listing.now _ a.output.now _ k.result refl k.ensures.value k.ensures.output_after k.ensures.output_after_2 c.numbers_of.ensures in
    record { value = all.0; answer_after = all.1.0; output_after = all.1.1.0; output_after_2 = all.1.1.1 }

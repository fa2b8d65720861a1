use Rattle.std.proofs.Common.{◌≡◌, rules}
use Rattle.rules.specs.Result.{answer}
use Rattle.rules.specs.Analyze.{analyze as analyze_of}
use Rattle.examiner.proofs.Checking.{refuses, answers}
use Rattle.examiner.proofs.check.Goals as goal

pub returns-in_err-examine : goal.returns-in_err-examine
returns-in_err-examine c =
    let all = refuses c.args.listing.now _ (c.examine.ensures.refused _ c.in_err-examine.was).0 c.from_residual.result c.from_residual.ensures.1 in
    record { value = all.0; work_after = c.examine.ensures.work_after; variant = all.1 }

pub returns : goal.returns
returns c =
    let m = c.examine.ensures.made _ c.in_ok-examine.was in
    let found : c.in_ok-examine.field-0 ≡ answer (analyze_of m.contract) = search rules in
    let all = answers c.args.listing.now _ m.analyzed _ found in
    record { value = all.0; work_after = c.examine.ensures.work_after; variant = all.1 }

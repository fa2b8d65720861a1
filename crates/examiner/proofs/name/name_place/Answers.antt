use Rattle.std.proofs.Common.{◌≡◌, subst, rules}
use Rattle.rules.specs.Result.{answer}
use Rattle.rules.specs.Analyze.{analyze as analyze_of}
use Rattle.declarations.specs.Items.{ContractAt}
use Rattle.declarations.specs.Noted.{item_at}
use Rattle.examiner.specs.Name.{items, named_by}
use Rattle.examiner.proofs.Naming.{refuses, names}
use Rattle.examiner.proofs.name.name_place.Goals as goal

pub returns-in_err-examine : goal.returns-in_err-examine
returns-in_err-examine c =
    let a = c.args in
    let all = refuses a.listing.now _ a.path a.position (c.examine.ensures.refused _ c.in_err-examine.was).0 c.from_residual.result c.from_residual.ensures.1 in
    record { value = all.0; inside = all.1; work_after = c.examine.ensures.work_after }

pub returns : goal.returns
returns c =
    let a = c.args in
    let m = c.examine.ensures.made _ c.in_ok-examine.was in
    let is : c.in_ok-examine.field-0 ≡ named_by (answer (analyze_of m.contract)) (item_at (items a.listing.now) a.path a.position) = search rules in
    let all = names a.listing.now _ a.path a.position m.contract (subst (λ s. ContractAt s m.rows.now.table.now m.count) m.listing m.given.stands) m.declares m.analyzed _ is in
    record { value = all.0; inside = all.1; work_after = c.examine.ensures.work_after }

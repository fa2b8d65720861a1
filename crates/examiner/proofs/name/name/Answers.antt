use Rattle.std.proofs.Common.{◌≡◌, length, ap, ◌∙◌}
use Rattle.std.specs.Prelude.{Ok, Some}
use Rattle.std.specs.Option.{option_flatten}
use Rattle.examiner.proofs.Naming.{part-named, none-named, flat-some, flat-none}
use Rattle.examiner.proofs.name.name.Goals.{In-Some}
use Rattle.examiner.proofs.name.name.Goals as goal

-- the place there is
there : (c : In-Some) → c.name_place.result ≡ Ok (Some c.in-Some.x)
there c = flat-some _ (c.flatten-place.ensures ∙ ap option_flatten c.ok.ensures.value) c.in-Some.is

pub of-requires : goal.of-requires
of-requires c = (c.name_place.ensures.inside _ (there (goal.at.of-requires c).In-Some)).0

pub returns-in-Some-clause-result_value : goal.returns-in-Some-clause-result_value
returns-in-Some-clause-result_value c =
    let a = c.args in
    part-named a.listing.now (length a.work.now) a.path a.position c.name_place.ensures.value _ (there (goal.at.returns-in-Some-clause-result_value c).In-Some) c.of.ensures

pub returns-in-None-clause-result_value : goal.returns-in-None-clause-result_value
returns-in-None-clause-result_value c =
    let a = c.args in
    none-named a.listing.now (length a.work.now) a.path a.position c.name_place.ensures.value (flat-none (c.flatten-place.ensures ∙ ap option_flatten c.ok.ensures.value) c.in-None.is)

use Rattle.std.proofs.Common.{refl, ap, ◌∙◌}
use Rattle.std.specs.Prelude.{Ok, Err, Some, None}
use Rattle.rules.specs.Result.{answer}
use Rattle.answers.specs.Numbers.{numbers_of}
use Rattle.bithoven_examiner.proofs.Laws.{place_of, name-promised}
use Rattle.bithoven_examiner.proofs.bithoven_name.Goals as goal

pub returns-in-Ok-Some : goal.returns-in-Ok-Some
unfolding numbers_of answer place_of
returns-in-Ok-Some c =
    let a = c.args in
    let all = name-promised a.listing.now a.path a.position refl c.name_place.ensures.value (Ok (Some c.in-Ok-Some.x)) (c.in-Ok-Some.is ∙ ap Ok c.in-Ok-Some.field-0-is) in
    record { value = all.0; place_after = all.1 }

pub returns-in-Ok-None : goal.returns-in-Ok-None
unfolding numbers_of answer place_of
returns-in-Ok-None c =
    let a = c.args in
    let all = name-promised a.listing.now a.path a.position refl c.name_place.ensures.value (Ok None) (c.in-Ok-None.is ∙ ap Ok c.in-Ok-None.field-0-is) in
    record { value = all.0; place_after = all.1 }

pub returns-in-Err : goal.returns-in-Err
unfolding numbers_of answer place_of
returns-in-Err c =
    let a = c.args in
    let all = name-promised a.listing.now a.path a.position refl c.name_place.ensures.value (Err c.in-Err.x) c.in-Err.is in
    record { value = c.into.ensures ∙ all.0; place_after = all.1 }

use Rattle.std.proofs.Common.{◌∙◌, arith, ap, rules, length}
use Rattle.std.proofs.lemmas.Bool.{leb-true, leb-false}
use Rattle.std.specs.Prelude.{Ok}
use Rattle.rules.specs.Result.{answer}
use Rattle.reporting.specs.Text.{acceptance, text_of}
use Rattle.reporting.specs.Analyzed.{analysis_of}
use Rattle.verdicts.proofs.Writing.{reported-short, written-short, reported-whole, written-whole}
use Rattle.verdicts.proofs.report_acceptance.Goals as goal

pub returns-then-not-has_room-clause-value : goal.returns-then-not-has_room-clause-value
unfolding text_of
returns-then-not-has_room-clause-value c =
    let a = c.args in
    let found = analysis_of a.analyzed.now in
    reported-short (Ok found) a.output.now (leb-false (length (acceptance found)) (length a.output.now) (search rules)) c.without_text.ensures

pub returns-then-not-has_room-clause-output_after : goal.returns-then-not-has_room-clause-output_after
unfolding text_of
returns-then-not-has_room-clause-output_after c =
    let a = c.args in
    let found = analysis_of a.analyzed.now in
    written-short (Ok found) a.output.now (leb-false (length (acceptance found)) (length a.output.now) (search rules))

pub returns-clause-value : goal.returns-clause-value
unfolding text_of answer
returns-clause-value c =
    let a = c.args in
    let found = analysis_of a.analyzed.now in
    reported-whole (Ok found) a.output.now (leb-true (length (acceptance found)) (length a.output.now) (search rules)) (ap (λ s. s.at) c.put_acceptance.ensures.text ∙ omega arith)

pub returns-clause-output_after : goal.returns-clause-output_after
unfolding text_of
returns-clause-output_after c =
    let a = c.args in
    let found = analysis_of a.analyzed.now in
    written-whole (Ok found) a.output.now (leb-true (length (acceptance found)) (length a.output.now) (search rules)) (search rules)

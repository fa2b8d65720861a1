use Rattle.std.proofs.Common.{◌∙◌, arith, ap, rules}
use Rattle.std.specs.Prelude.{Err}
use Rattle.rules.specs.Result.{answer}
use Rattle.reporting.specs.Text.{text_of}
use Rattle.verdicts.proofs.Writing.{reported-short, written-short, reported-whole, written-whole}
use Rattle.verdicts.proofs.report_refusal.Goals as goal

pub returns-then-output-counter-clause-value : goal.returns-then-output-counter-clause-value
unfolding text_of
returns-then-output-counter-clause-value c = reported-short (Err c.args.x) c.args.output.now (omega (arith, ap (λ s. s.length) c.put_refusal.ensures.text)) c.without_text.ensures

pub returns-then-output-counter-clause-output_after : goal.returns-then-output-counter-clause-output_after
unfolding text_of
returns-then-output-counter-clause-output_after c = written-short (Err c.args.x) c.args.output.now (omega (arith, ap (λ s. s.length) c.put_refusal.ensures.text))

pub returns-clause-value : goal.returns-clause-value
unfolding text_of answer
returns-clause-value c = reported-whole (Err c.args.x) c.args.output.now (omega (arith, ap (λ s. s.length) c.put_refusal.ensures.text)) (ap (λ s. s.at) c.put_refusal-2.ensures.text ∙ omega arith)

pub returns-clause-output_after : goal.returns-clause-output_after
unfolding text_of
returns-clause-output_after c = written-whole (Err c.args.x) c.args.output.now (omega (arith, ap (λ s. s.length) c.put_refusal.ensures.text)) (search rules)

use Rattle.std.proofs.Common.{length, ap, ◌∙◌}
use Rattle.rules.specs.Result.{Result}
use Rattle.rules.specs.Analyze.{Analysis}
use Rattle.reporting.specs.Text.{text_of}
use Rattle.verdicts.specs.Reports.{reported, written}
use Rattle.examiner.proofs.Reporting.{found-fault, found-analysis, block-rows}
use Rattle.examiner.proofs.report.report_table.Goals as goal

pub invariant_of-analyzed : goal.invariant_of-analyzed
invariant_of-analyzed c =
    let C = c.requires.stands in
    let ready = (c.analyze.ensures C.contract C.spells).ready _ c.in-Ok.is in
    record {
      few = ready.few;
      full = ready.full;
      formed = λ p h. (ready.each p h).formed;
      short = C.rows.short;
      block = block-rows C (c.requires.declared C.contract C.spells);
    }

pub returns-in-Err : goal.returns-in-Err
returns-in-Err c =
    let out = c.args.output.now in
    let r = c.report_refusal.ensures in
    record {
      value = λ x sp. r.value ∙ ap (λ (w : Result Analysis). reported w (length out)) (found-fault x (c.requires.declared x sp) (c.analyze.ensures x sp) _ c.in-Err.is);
      output_after = λ x sp. r.output_after ∙ ap (λ (w : Result Analysis). written (text_of w) out) (found-fault x (c.requires.declared x sp) (c.analyze.ensures x sp) _ c.in-Err.is);
    }

pub returns-in-Ok : goal.returns-in-Ok
returns-in-Ok c =
    let out = c.args.output.now in
    let r = c.report_acceptance.ensures in
    record {
      value = λ x sp. r.value ∙ ap (λ (w : Result Analysis). reported w (length out)) (found-analysis x (c.requires.declared x sp) (c.analyze.ensures x sp) _ c.in-Ok.is);
      output_after = λ x sp. r.output_after ∙ ap (λ (w : Result Analysis). written (text_of w) out) (found-analysis x (c.requires.declared x sp) (c.analyze.ensures x sp) _ c.in-Ok.is);
    }

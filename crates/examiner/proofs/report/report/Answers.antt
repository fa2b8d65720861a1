use Rattle.std.proofs.Common.{◌≡◌, length, rules, sym, ◌∙◌, Err}
use Rattle.rules.specs.Analyze.{analyze as analyze_of}
use Rattle.reporting.specs.Text.{text_of}
use Rattle.verdicts.specs.Reports.{reported, written}
use Rattle.examiner.proofs.Reporting.{short-answer, work-short, short-output, report-is, output-is, opens}
use Rattle.examiner.proofs.report.report.Goals as goal

pub returns-then-work-lt-WORK_WORDS : goal.returns-then-work-lt-WORK_WORDS
returns-then-work-lt-WORK_WORDS c =
    let s = c.args.listing.now in
    let w = c.args.work.now in
    let out = c.args.output.now in
    let h = c.if-work-lt-WORK_WORDS.true in
    let r = c.without_text.ensures ∙ sym (short-answer s (length w) out h) in
    let o = short-output s (length w) out h in
    record { value = r; work_after = work-short w h; output_after = o; output_after_2 = opens s (length w) out _ _ r o }

pub returns-in-Err : goal.returns-in-Err
returns-in-Err c =
    let s = c.args.listing.now in
    let w = length c.args.work.now in
    let out = c.args.output.now in
    let enough = c.if-work-lt-WORK_WORDS.false in
    let q = c.examine-examined.ensures.refused _ c.in-Err.is in
    let t = c.report_refusal in
    let f : t.result ≡ reported (Err c.in-Err.x) (length out) = search rules in
    let g : t.new.output ≡ written (text_of (Err c.in-Err.x)) out = search rules in
    let r = f ∙ sym (report-is s w out enough (Err c.in-Err.x) q.0) in
    let o = g ∙ sym (output-is s w out enough (Err c.in-Err.x) q.0) in
    record { value = r; work_after = c.examine-examined.ensures.work_after; output_after = o; output_after_2 = opens s w out _ _ r o }

pub returns-in-Ok-clause-value : goal.returns-in-Ok-clause-value
returns-in-Ok-clause-value c =
    let m = c.examine-examined.ensures.made _ c.in-Ok.is in
    search rules ∙ sym (report-is c.args.listing.now (length c.args.work.now) c.args.output.now c.if-work-lt-WORK_WORDS.false (analyze_of m.contract) m.analyzed)

pub returns-in-Ok-clause-output_after : goal.returns-in-Ok-clause-output_after
returns-in-Ok-clause-output_after c =
    let m = c.examine-examined.ensures.made _ c.in-Ok.is in
    search rules ∙ sym (output-is c.args.listing.now (length c.args.work.now) c.args.output.now c.if-work-lt-WORK_WORDS.false (analyze_of m.contract) m.analyzed)

pub returns-in-Ok-clause-output_after_2 : goal.returns-in-Ok-clause-output_after_2
returns-in-Ok-clause-output_after_2 c = opens c.args.listing.now (length c.args.work.now) c.args.output.now _ _ (returns-in-Ok-clause-value c) (returns-in-Ok-clause-output_after c)

-- The report lies within the output.
use Rattle.std.proofs.Common.{sym, length-take-le}
use Rattle.examiner.proofs.Reporting.{report-within}
use Rattle.contracts_check.proofs.print_report.Goals as goal

pub slice_bounds-output-end : goal.slice_bounds-output-end
slice_bounds-output-end g c = let r = c.report-reported in report-within _ _ _ r.new.output r.result r.ensures.value r.ensures.output_after

pub slice_bounds-write_all-end : goal.slice_bounds-write_all-end
slice_bounds-write_all-end g c = let r = c.report-reported in sym (length-take-le r.result.length r.new.output (report-within _ _ _ r.new.output r.result r.ensures.value r.ensures.output_after))

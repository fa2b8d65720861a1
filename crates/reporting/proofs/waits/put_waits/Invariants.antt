use Rattle.output.proofs.Laws.{Left}
use Rattle.reporting.specs.Text.{wait_lines}
use Rattle.reporting.specs.Waits.{waits_between}
use Rattle.reporting.proofs.waits.put_waits.Given as goal

abbrev pub invariant-loop-i : goal.invariant-loop-i
invariant-loop-i g l = Left g.S.Sink.after g.S.Sink.fits l.fn.sink (wait_lines (waits_between l.table l.from l.to)) l.sink (wait_lines (waits_between l.table l.i l.to))

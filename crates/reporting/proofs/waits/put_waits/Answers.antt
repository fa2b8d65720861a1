use Rattle.output.proofs.Laws.{left-fits, left-next, left-done}
use Rattle.reporting.proofs.WaitLines.{rows_next, rows_none}
use Rattle.reporting.proofs.waits.put_waits.Goals as goal

pub put_wait-requires-clause-room : goal.put_wait-requires-clause-room
put_wait-requires-clause-room g c = left-fits g.S.Sink.laws c.loop-i.invariant _ _ (rows_next c.args.table.now c.loop-i.i c.args.to c.loop-i-test.true)

pub loop-i-preserved : goal.loop-i-preserved
loop-i-preserved g c = left-next g.S.Sink.laws c.loop-i.invariant _ _ (rows_next c.args.table.now c.loop-i.i c.args.to c.loop-i-test.true) c.put_wait.ensures

pub returns : goal.returns
returns g c = left-done g.S.Sink.laws c.loop-i.invariant (rows_none c.args.table.now c.loop-i.i c.args.to c.loop-i-test.false)

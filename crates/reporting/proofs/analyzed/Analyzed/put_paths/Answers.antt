use Rattle.std.proofs.Common.{arith}
use Rattle.output.proofs.Laws.{left-all, left-fits, left-next, left-done}
use Rattle.reporting.proofs.Lengths.{spent-all, spent-next, spent-done}
use Rattle.reporting.proofs.Loops.{paths-all, paths-next, paths-none}
use Rattle.reporting.proofs.analyzed.Analyzed.put_paths.Goals as goal

pub loop-p-init : goal.loop-p-init
loop-p-init g c = let e = paths-all c.args.self.now in (left-all g.S.Sink.laws e c.requires.room, spent-all e)

pub put_path-requires-clause-room : goal.put_path-requires-clause-room
put_path-requires-clause-room g c = left-fits g.S.Sink.laws c.loop-p.invariant.0 _ _ (paths-next c.args.self.now c.loop-p.p c.loop-p-test.true)

pub loop-p-preserved : goal.loop-p-preserved
loop-p-preserved g c =
    let e = paths-next c.args.self.now c.loop-p.p c.loop-p-test.true in
    (left-next g.S.Sink.laws c.loop-p.invariant.0 _ _ e c.put_path.ensures.text, spent-next c.loop-p.invariant.1 _ _ e c.put_path.ensures.short (omega arith))

pub returns-clause-text : goal.returns-clause-text
returns-clause-text g c = left-done g.S.Sink.laws c.loop-p.invariant.0 (paths-none c.args.self.now c.loop-p.p c.loop-p-test.false)

pub returns-clause-short : goal.returns-clause-short
returns-clause-short g c = omega (arith, c.args.self.now.few, spent-done c.loop-p.invariant.1 (paths-none c.args.self.now c.loop-p.p c.loop-p-test.false))

use Rattle.std.proofs.Common.{arith}
use Rattle.paths.proofs.Tables.{row_named}
use Rattle.output.proofs.Laws.{left-all, left-fits, left-next, left-done}
use Rattle.reporting.proofs.Lengths.{spent-all, spent-next, spent-done}
use Rattle.reporting.proofs.Loops.{items-all, items-next, items-none}
use Rattle.reporting.proofs.analyzed.Analyzed.put_items.Goals as goal

pub loop-k-init : goal.loop-k-init
loop-k-init g c = let e = items-all c.requires.formed in (left-all g.S.Sink.laws e c.requires.room, spent-all e)

pub put_item-requires-clause-row : goal.put_item-requires-clause-row
put_item-requires-clause-row g c = row_named c.requires.formed c.loop-k.k c.loop-k-test.true

pub put_item-requires-clause-room : goal.put_item-requires-clause-room
put_item-requires-clause-room g c = left-fits g.S.Sink.laws c.loop-k.invariant.0 _ _ (items-next c.requires.formed c.loop-k.k c.loop-k-test.true c.is_taken.ensures)

pub loop-k-preserved : goal.loop-k-preserved
loop-k-preserved g c =
    let e = items-next c.requires.formed c.loop-k.k c.loop-k-test.true c.is_taken.ensures in
    (left-next g.S.Sink.laws c.loop-k.invariant.0 _ _ e c.put_item.ensures.text, spent-next c.loop-k.invariant.1 _ _ e c.put_item.ensures.short (omega arith))

pub returns-clause-text : goal.returns-clause-text
returns-clause-text g c = left-done g.S.Sink.laws c.loop-k.invariant.0 (items-none c.requires.formed c.loop-k.k c.loop-k-test.false)

pub returns-clause-short : goal.returns-clause-short
returns-clause-short g c = omega (arith, c.requires.formed.few, spent-done c.loop-k.invariant.1 (items-none c.requires.formed c.loop-k.k c.loop-k-test.false))

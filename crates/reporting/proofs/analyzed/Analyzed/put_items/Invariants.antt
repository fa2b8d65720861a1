use Rattle.std.proofs.Common.{◌*◌}
use Rattle.paths.specs.Path.{table_of}
use Rattle.output.proofs.Laws.{Left}
use Rattle.reporting.specs.Bounds.{item_bound}
use Rattle.reporting.specs.Text.{item_lines}
use Rattle.reporting.proofs.Lengths.{Spent}
use Rattle.reporting.proofs.Loops.{items_left}
use Rattle.reporting.proofs.analyzed.Analyzed.put_items.Given as goal

abbrev pub invariant-loop-k : goal.invariant-loop-k
invariant-loop-k g l =
    (Left g.S.Sink.after g.S.Sink.fits l.fn.sink (item_lines 0 (table_of l.self.rows.listing.now l.self.rows.table.now l.path)) l.sink (items_left l.self.rows.listing.now l.self.rows.table.now l.path l.k))
    × (Spent (item_lines 0 (table_of l.self.rows.listing.now l.self.rows.table.now l.path)) (l.k * item_bound) (items_left l.self.rows.listing.now l.self.rows.table.now l.path l.k))

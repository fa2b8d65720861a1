use mathlib.Core.Path.{ap, ◌∙◌}
use Rattle.rows.specs.Rows.{place_in, row_in, line_in}
use Rattle.reader.proofs.Inversion.{expression-from}
use Rattle.nodes.proofs.Others.{loc-row}
use Rattle.nodes.proofs.loc_at.Goals as goal

pub returns : goal.returns
unfolding line_in
returns c s e j sp =
    let a = c.args in
    c.location.ensures ∙ ap place_in c.row_in.ensures ∙ loc-row (line_in a.table.now) s a.i j e (row_in a.table.now a.i) (expression-from (line_in a.table.now) s sp)

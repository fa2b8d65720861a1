use native.Mathlib.Omega.{arith}
use mathlib.Core.Path.{sym, ap, ◌∙◌}
use Rattle.ast.specs.Tree.{same}
use Rattle.names.proofs.Laws.{name-inside}
use Rattle.paths.proofs.Tables.{row_named, find-done, find_none, find-here, find-next}
use Rattle.paths.proofs.find_place.Goals as goal

pub item_at-it-requires : goal.item_at-it-requires
item_at-it-requires c = (row_named c.requires c.loop-k.k (omega arith)).holds

pub of-requires : goal.of-requires
of-requires c =
    let a = c.args in
    name-inside a.rows.now.listing.now a.rows.now.table.now c.item_at-it.result (row_named c.requires c.loop-k.k (omega arith)) c.item_at-it.ensures

pub returns-then-same_name : goal.returns-then-same_name
returns-then-same_name c =
    let a = c.args in
    let l = c.loop-k in
    let it = c.item_at-it in
    find-done a.rows.now.listing.now a.rows.now.table.now a.path l.k a.name.now _ (find-here a.rows.now.listing.now a.rows.now.table.now a.path l.k a.name.now c.requires.full c.requires.few c.loop-k-test.true it.result it.ensures l.invariant (sym c.if-same_name.true ∙ c.same_name.ensures ∙ ap (same _) c.of.ensures))

pub loop-k-preserved : goal.loop-k-preserved
loop-k-preserved c =
    let a = c.args in
    let l = c.loop-k in
    let it = c.item_at-it in
    find-next a.rows.now.listing.now a.rows.now.table.now a.path l.k a.name.now c.requires.full c.requires.few c.loop-k-test.true it.result it.ensures l.invariant (sym c.if-same_name.false ∙ c.same_name.ensures ∙ ap (same _) c.of.ensures)

pub returns : goal.returns
returns c =
    let a = c.args in
    let l = c.loop-k in
    find-done a.rows.now.listing.now a.rows.now.table.now a.path l.k a.name.now _ (find_none a.rows.now.listing.now a.rows.now.table.now a.path l.k a.name.now l.invariant c.loop-k-test.false)

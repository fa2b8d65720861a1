use Prim.Native.Nat.{◌-◌}
use native.Mathlib.Omega.{arith}
use mathlib.Core.Path.{sym, ap, ◌∙◌}
use Rattle.ast.specs.Tree.{same}
use Rattle.rows.specs.Rows.{line_in}
use Rattle.names.proofs.Laws.{items-named, name-inside, find-done, find-missing, find-here, find-next}
use Rattle.names.proofs.find_item.Goals as goal

pub item_at-it-requires : goal.item_at-it-requires
item_at-it-requires c =
    let a = c.args in
    rw c.row_at.ensures (items-named a.rows.now.listing.now a.rows.now.table.now c.requires (a.items.count - 1 - c.loop-k.k) (omega arith)).holds

pub of-requires : goal.of-requires
of-requires c =
    let a = c.args in
    let row = items-named a.rows.now.listing.now a.rows.now.table.now c.requires (a.items.count - 1 - c.loop-k.k) (omega arith) in
    name-inside a.rows.now.listing.now a.rows.now.table.now c.item_at-it.result row (ap (line_in _) (sym c.row_at.ensures) ∙ c.item_at-it.ensures)

pub returns-then-same_name : goal.returns-then-same_name
returns-then-same_name c =
    let a = c.args in
    let l = c.loop-k in
    let p = c.item_at-it in
    find-done a.rows.now.listing.now a.rows.now.table.now a.items.first a.items.count l.k a.name.now _ (find-here a.rows.now.listing.now a.rows.now.table.now a.items.first a.items.count l.k a.name.now c.loop-k-test.true p.result (ap (line_in _) (sym c.row_at.ensures) ∙ p.ensures) l.invariant (sym c.if-same_name.true ∙ c.same_name.ensures ∙ ap (same _) c.of.ensures))

pub loop-k-preserved : goal.loop-k-preserved
loop-k-preserved c =
    let a = c.args in
    let l = c.loop-k in
    let p = c.item_at-it in
    find-next a.rows.now.listing.now a.rows.now.table.now a.items.first a.items.count l.k a.name.now c.loop-k-test.true p.result (ap (line_in _) (sym c.row_at.ensures) ∙ p.ensures) l.invariant (sym c.if-same_name.false ∙ c.same_name.ensures ∙ ap (same _) c.of.ensures)

pub returns : goal.returns
returns c =
    let a = c.args in
    let l = c.loop-k in
    find-done a.rows.now.listing.now a.rows.now.table.now a.items.first a.items.count l.k a.name.now _ (find-missing a.rows.now.listing.now a.rows.now.table.now a.items.first a.items.count l.k a.name.now l.invariant c.loop-k-test.false)

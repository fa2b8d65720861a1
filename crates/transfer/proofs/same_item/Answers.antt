use mathlib.Core.Path.{sym, ap₂, ◌∙◌}
use Rattle.ast.specs.Tree.{same}
use Rattle.names.proofs.Laws.{item-is, name-inside}
use Rattle.transfer.proofs.same_item.Goals as goal

pub of-requires : goal.of-requires
of-requires c = name-inside _ _ c.item_at-a.result c.requires.0 c.item_at-a.ensures

pub of-requires-2 : goal.of-requires-2
of-requires-2 c = name-inside _ _ c.item_at-b.result c.requires.1 c.item_at-b.ensures

pub returns : goal.returns
returns c =
    let a = c.args in
    let s = a.rows.now.listing.now in
    let t = a.rows.now.table.now in
    let first = c.item_at-a in
    let second = c.item_at-b in
    c.same_name.ensures ∙ ap₂ same c.of.ensures c.of-2.ensures ∙ sym (ap₂ (λ m n. same m.identifier n.identifier) (item-is s t a.p.row first.result first.ensures) (item-is s t a.q.row second.result second.ensures))

use Rattle.std.proofs.Common.{arith, sym, ◌∙◌}
use Rattle.declarations.proofs.Looking.{found_inside}
use Rattle.turns.proofs.Turning.{lay-none, lay-wrong, lay-right}
use Rattle.turns.proofs.lay_in.Goals as goal
use Rattle.turns.proofs.lay_in.Goals.{in_default-via-in-Some+else-is_item, in_default-via-in_default}

pub is_item-requires : goal.is_item-requires
is_item-requires c = (found_inside c.requires.contract c.args.r.path c.args.r.due c.in-Some.is c.item_in.ensures).0

pub overflow_add-due : goal.overflow_add-due
overflow_add-due c = omega (arith, (found_inside c.requires.contract c.args.r.path c.args.r.due c.in-Some.is c.item_in.ensures).1)

pub returns-in-Some : goal.returns-in-Some
returns-in-Some c = λ ps h. let a = c.args in c.shown_in.ensures ps h ∙ lay-right a.rows.now.listing.now ps a.r _ (sym c.in-Some.is ∙ c.item_in.ensures ps h) (sym c.is_item.ensures ∙ c.if-is_item.true)

pub returns-in_default : goal.returns-in_default
returns-in_default c = λ ps h.
    let a = c.args in
    elim c.in_default.branch [
      | in_default-via-in-Some+else-is_item w ↦ lay-wrong a.rows.now.listing.now ps a.r _ (sym w.in-Some.is ∙ c.item_in.ensures ps h) c.unplaced.ensures (sym w.is_item.ensures ∙ w.if-is_item.false)
      | in_default-via-in_default w ↦ lay-none a.rows.now.listing.now ps a.r _ c.unplaced.ensures (sym w.in_default.is ∙ c.item_in.ensures ps h)
    ]

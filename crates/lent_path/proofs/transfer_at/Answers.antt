use mathlib.Core.Path.{◌≡◌, sym, ap, ◌∙◌}
use Rattle.std.specs.Prelude.{Err, Some, None}
use Rattle.std.proofs.Common.{rules}
use Rattle.ast.specs.declared.ErrorKind.TheVariants.{UnexpectedLine}
use Rattle.ast.specs.Tree.{fault, unplaced}
use Rattle.paths.proofs.Walks.{walk-fault, walk_is}
use Rattle.lent_path.specs.Rows.{if_in}
use Rattle.lent_path.specs.Lent.{transfer_at}
use Rattle.lent_path.proofs.transfer_at.Goals as goal
use Rattle.lent_path.proofs.transfer_at.Goals.{then-not-is_path-via-then-not-is_path, then-not-is_path-via-else-not-is_path+then-not-is_path-2}

pub returns-then-not-is_path : goal.returns-then-not-is_path
unfolding transfer_at
returns-then-not-is_path c = walk-fault (ap Err c.unfit.ensures) (elim c.then-not-is_path.branch [
  | then-not-is_path-via-then-not-is_path w ↦ rw (sym c.is_path.ensures.value ∙ w.if-not-is_path.true)
  | then-not-is_path-via-else-not-is_path+then-not-is_path-2 w ↦ rw (sym c.is_path.ensures.value ∙ w.if-not-is_path.false, sym w.is_path-else-not-is_path.ensures.value ∙ w.if-not-is_path-2.true)
])

pub returns-in_err-loc : goal.returns-in_err-loc
unfolding transfer_at
returns-in_err-loc c =
    let none : if_in c.args.rows.now.table.now c.args.i ≡ None = search rules in
    walk-fault {x = fault UnexpectedLine unplaced} (search rules) (rw (sym c.is_path.ensures.value ∙ c.if-not-is_path.false, sym c.is_path-else-not-is_path.ensures.value ∙ c.if-not-is_path-2.false, none))

pub returns : goal.returns
unfolding transfer_at
returns c =
    let there : if_in c.args.rows.now.table.now c.args.i ≡ Some c.in_ok-loc.loc = search rules in
    walk_is c.transfer_prefix_consumption.ensures (rw (sym c.is_path.ensures.value ∙ c.if-not-is_path.false, sym c.is_path-else-not-is_path.ensures.value ∙ c.if-not-is_path-2.false, there))

use mathlib.Core.Path.{◌≡◌, sym, ap, ◌∙◌}
use Rattle.std.specs.Prelude.{Err, Some, None}
use Rattle.std.proofs.Common.{rules}
use Rattle.ast.specs.declared.ErrorKind.TheVariants.{UnexpectedLine}
use Rattle.ast.specs.Tree.{fault, unplaced}
use Rattle.paths.proofs.Walks.{walk-fault, walk_is}
use Rattle.lent_path.specs.Rows.{variable_in}
use Rattle.lent_path.specs.Lent.{take_at}
use Rattle.lent_path.proofs.Laws.{variable-sound}
use Rattle.lent_path.proofs.take_at.Goals.{In_ok-loc}
use Rattle.lent_path.proofs.take_at.Goals as goal

-- the row is a variable's
there : (c : In_ok-loc) → variable_in c.args.rows.now.listing.now c.args.rows.now.table.now c.args.i ≡ Some (c.in_ok-loc.loc, c.in_ok-loc.x)
there c = search rules

pub returns-then-not-is_path : goal.returns-then-not-is_path
unfolding take_at
returns-then-not-is_path c = walk-fault (ap Err c.unfit.ensures) (rw (sym c.is_path.ensures.value ∙ c.if-not-is_path.true))

pub returns-in_err-loc : goal.returns-in_err-loc
unfolding take_at
returns-in_err-loc c =
    let none : variable_in c.args.rows.now.listing.now c.args.rows.now.table.now c.args.i ≡ None = search rules in
    walk-fault {x = fault UnexpectedLine unplaced} (search rules) (rw (sym c.is_path.ensures.value ∙ c.if-not-is_path.false, none))

pub take-requires : goal.take-requires
take-requires c =
    let a = c.args in
    let v = variable-sound a.rows.now.listing.now a.rows.now.table.now a.i (there (goal.at.take-requires c).In_ok-loc) in
    (v.0, c.is_path.ensures.sound c.if-not-is_path.false, v.1)

pub returns : goal.returns
unfolding take_at
returns c = walk_is c.take.ensures (rw (sym c.is_path.ensures.value ∙ c.if-not-is_path.false, there (goal.at.returns c).In_ok-loc))

use Prim.Native.Nat.{◌+◌, ◌≤◌, ◌<◌}
use native.Mathlib.Omega.{arith}
use native.Mathlib.Numerals.{add-one}
use mathlib.Core.Path.{◌≡◌, sym, ap, ◌∙◌}
use Rattle.std.specs.Prelude.{Ok, Err, Some}
use Rattle.std.proofs.Common.{rules}
use Rattle.ast.specs.declared.ErrorKind.TheVariants.{UndefinedVariable}
use Rattle.ast.specs.Tree.{fault}
use Rattle.text.specs.Text.{part}
use Rattle.rules.specs.Table.{params}
use Rattle.names.specs.Items.{found_in}
use Rattle.taken.specs.Taken.{first_free}
use Rattle.paths.specs.Path.{table_of}
use Rattle.paths.proofs.Tables.{found_below, take-unknown, take-taken, take-early, take_next, marked-items, marked-sound}
use Rattle.paths.proofs.Walks.{walk-fault, walk-pass}
use Rattle.paths.proofs.take.Goals.{In_ok-k}
use Rattle.paths.proofs.take.Goals as goal

-- the name is found at a position, which is one of the path's
found : (c : In_ok-k) → let a = c.args in found_in (params (table_of a.rows.now.listing.now a.rows.now.table.now a.path)) (part a.rows.now.listing.now a.x) ≡ Some c.in_ok-k.k
found c = search rules

place : (c : In_ok-k) → c.in_ok-k.k < 32
place c =
    omega (arith, found_below c.args.rows.now.listing.now c.args.rows.now.table.now c.args.path _ (found c), c.requires.1.few)

pub returns-in_err-k : goal.returns-in_err-k
returns-in_err-k c =
    walk-fault {x = fault UndefinedVariable c.args.loc} (search rules) (take-unknown c.requires.1 _ _ _ (search rules))

pub is_taken-requires : goal.is_taken-requires
is_taken-requires c = place c

pub returns-then-is_taken : goal.returns-then-is_taken
returns-then-is_taken c = walk-fault (ap Err c.new-then-is_taken.ensures) (take-taken c.requires.1 _ _ _ (found (goal.at.returns-then-is_taken c).In_ok-k) (sym c.is_taken.ensures ∙ c.if-is_taken.true))

pub returns-then-first_free-k : goal.returns-then-first_free-k
returns-then-first_free-k c = walk-fault (ap Err c.new-then-first_free-k.ensures) (take-early c.requires.1 _ _ _ (found (goal.at.returns-then-first_free-k c).In_ok-k) (sym c.is_taken.ensures ∙ c.if-is_taken.false) (omega (arith, c.if-first_free-k.true, c.first_free.ensures)))

pub mark-requires : goal.mark-requires
mark-requires c = place (goal.at.mark-requires c).In_ok-k

pub returns : goal.returns
returns c =
    let a = c.args in
    let k = c.in_ok-k.k in
    let n = a.i + 1 in
    let in_order : k ≤ first_free a.path.taken = omega (arith, c.if-first_free-k.false, c.first_free.ensures) in
    let lt = found_below a.rows.now.listing.now a.rows.now.table.now a.path _ (found (goal.at.returns c).In_ok-k) in
    let rule = take_next c.requires.1 a.loc n _ (found (goal.at.returns c).In_ok-k) (sym c.is_taken.ensures ∙ c.if-is_taken.false) in_order in
    walk-pass (ap Ok c.mark.ensures) (rw (← add-one a.i) rule) (marked-sound c.requires.1 k n lt in_order) (marked-items a.path k n)

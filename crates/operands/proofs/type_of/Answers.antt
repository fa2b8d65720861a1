use Prim.Native.Nat.{◌+◌, ◌-◌, ◌<◌}
use native.Mathlib.Omega.{arith}
use mathlib.Core.Path.{sym, ap, ◌∙◌}
use Rattle.ast.specs.Tree.{from_top}
use Rattle.rows.specs.Rows.{line_in}
use Rattle.names.specs.Items.{NamedRow, found_in}
use Rattle.names.proofs.Laws.{items-named, type-found, type-missing}
use Rattle.operands.proofs.Leaves.{found-low}
use Rattle.operands.proofs.type_of.Goals.{In_ok-k}
use Rattle.operands.proofs.type_of.Goals as goal

-- the item found is one of the declaration
low : (c : In_ok-k) → c.in_ok-k.k < c.args.context.items.count
low c = found-low _ _ c.args.context _ _ c.requires.0 c.find_item.ensures c.in_ok-k.was

row : (c : In_ok-k) → NamedRow c.args.rows.now.listing.now c.args.rows.now.table.now (c.args.context.items.first + (c.args.context.items.count - 1 - c.in_ok-k.k))
row c = items-named _ _ c.requires.0 (c.args.context.items.count - 1 - c.in_ok-k.k) (omega (arith, low c))

pub returns-in_err-k : goal.returns-in_err-k
returns-in_err-k c d q = rw (c.from_residual.ensures, type-missing (from_top d) _ (sym (c.find_item.ensures d q ∙ ap (found_in (from_top d)) c.of.ensures) ∙ c.in_err-k.was))

pub row_at-requires : goal.row_at-requires
row_at-requires c = low (goal.at.row_at-requires c).In_ok-k

pub item_at-requires : goal.item_at-requires
item_at-requires c = rw c.row_at.ensures (row (goal.at.item_at-requires c).In_ok-k).holds

pub returns : goal.returns
returns c d q = rw ((type-found _ _ q _ (sym (c.find_item.ensures d q ∙ ap (found_in (from_top d)) c.of.ensures) ∙ c.in_ok-k.was)).1 c.item_at.result (ap (line_in _) (sym c.row_at.ensures) ∙ c.item_at.ensures))

use native.Mathlib.Omega.{arith}
use mathlib.Core.Path.{sym, ap, ◌∙◌}
use Rattle.rows.specs.Rows.{line_in}
use Rattle.declarations.proofs.Looking.{found_none, found_some, few-paths, item-holds, past-paths, past-items, item-here}
use Rattle.declarations.proofs.item_in.Goals as goal

pub returns-then-d-path : goal.returns-then-d-path
returns-then-d-path c = let p = c.requires in λ ps h. found_none (past-paths p.1.2 p.0 h _ _ c.if-d-path.true)

pub bounds-d-path : goal.bounds-d-path
bounds-d-path c = let p = c.requires in omega (arith, few-paths p.1.2 p.0)

pub returns-then-items-position : goal.returns-then-items-position
returns-then-items-position c = let p = c.requires in λ ps h. found_none (past-items p.1.2 p.0 h _ c.if-d-path.false _ c.if-items-position.true)

pub item_at-requires : goal.item_at-requires
item_at-requires c = let p = c.requires in rw c.row_at.ensures (item-holds p.1.2 p.0 _ c.if-d-path.false _ c.if-items-position.false)

pub returns : goal.returns
returns c = let p = c.requires in λ ps h. found_some (item-here p.1.2 p.0 h _ c.if-d-path.false _ c.if-items-position.false (ap (line_in _) (sym c.row_at.ensures) ∙ c.item_at.ensures))

use Prim.Native.Nat.{◌-◌}
use native.Mathlib.Omega.{arith}
use mathlib.Core.Path.{sym, ap, ◌∙◌}
use Rattle.std.proofs.Common.{rules}
use Rattle.std.specs.Prelude.{Err}
use Rattle.paths.proofs.Tables.{row_named}
use Rattle.paths.proofs.Unused.{unused-none, unused-taken, unused-free}
use Rattle.paths.proofs.check_unused_variable.Goals as goal

pub loop-k-init : goal.loop-k-init
loop-k-init c s w = unused-none w

pub item_at-it-requires : goal.item_at-it-requires
item_at-it-requires c = (row_named c.requires.1 (c.loop-k.k - 1) (omega arith)).holds

pub returns-then-not-is_taken : goal.returns-then-not-is_taken
returns-then-not-is_taken c s w =
    let l = c.loop-k in
    let it = c.item_at-it in
    ap Err c.new.ensures ∙ sym (unused-free w (omega arith) (omega arith) (l.invariant s w) (search rules) it.result it.ensures)

pub loop-k-preserved : goal.loop-k-preserved
loop-k-preserved c s w =
    let l = c.loop-k in
    unused-taken w (omega arith) (omega arith) (l.invariant s w) (search rules)

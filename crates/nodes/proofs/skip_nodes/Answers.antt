-- The row after n nodes meets its contract. The measure is the rows left.
use Prim.Native.Nat.{◌+◌, ◌-◌}
use native.Mathlib.Omega.{arith}
use mathlib.Core.Path.{ap}
use Rattle.nodes.proofs.Spans.{spans-more, spans-none, spanned-room, spanned-on, spanned-few}
use Rattle.nodes.proofs.skip_nodes.Goals as goal

pub loop-due-init : goal.loop-due-init
loop-due-init c = (c.requires, λ j v. v)

pub parts_below-requires : goal.parts_below-requires
parts_below-requires c = spanned-room c.loop-due.invariant.0 c.loop-due-test.true

pub overflow_add-due : goal.overflow_add-due
overflow_add-due c = let l = c.loop-due in omega (arith, spanned-few l.invariant.0 c.loop-due-test.true (ap (λ m. l.due - 1 + m) c.parts_below.ensures))

pub overflow_add-next : goal.overflow_add-next
overflow_add-next c = omega (arith, spanned-room c.loop-due.invariant.0 c.loop-due-test.true)

pub loop-due-smaller : goal.loop-due-smaller
loop-due-smaller c = omega (arith, spanned-room c.loop-due.invariant.0 c.loop-due-test.true)

pub loop-due-preserved : goal.loop-due-preserved
loop-due-preserved c =
    let l = c.loop-due in
    let h = c.loop-due-test.true in
    let e = ap (λ m. l.due - 1 + m) c.parts_below.ensures in
    (spanned-on l.invariant.0 h e, λ j v. spans-more (l.invariant.1 j v) h e)

pub returns : goal.returns
returns c j v = spans-none (c.loop-due.invariant.1 j v) c.loop-due-test.false

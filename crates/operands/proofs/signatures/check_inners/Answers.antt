use Prim.Native.Nat.{suc, ◌+◌, ◌-◌}
use native.Mathlib.Omega.{arith}
use mathlib.Core.Path.{◌≡◌}
use Rattle.std.proofs.lemmas.Result.{err_from_is_err_and}
use Rattle.operands.proofs.Laws.{first_under, rest_under, inners-end, inners-fault, inners-pass}
use Rattle.operands.proofs.signatures.check_inners.Goals as goal

pub loop-init : goal.loop-init
loop-init c = let n : c.args.count - 0 ≡ c.args.count = omega arith in (rw n c.requires, λ r h. rw n at h)

pub check_inner-requires : goal.check_inner-requires
check_inner-requires c =
    let n : c.args.count - c.loop.counter ≡ suc (c.args.count - (c.loop.counter + 1)) = omega arith in
    first_under (rw n at c.loop.invariant.0)

pub returns-in_err-next : goal.returns-in_err-next
returns-in_err-next c =
    let n : c.args.count - c.loop.counter ≡ suc (c.args.count - (c.loop.counter + 1)) = omega arith in
    let w = c.in_err-next.was in
    let p = err_from_is_err_and c.from_residual.result c.from_residual.ensures.1 in
    rw (p.1, p.2, ← w) (c.loop.invariant.1 _ (rw n (inners-fault _ _ _ _ _ _ _ w c.check_inner.ensures)))

pub loop-preserved : goal.loop-preserved
loop-preserved c =
    let n : c.args.count - c.loop.counter ≡ suc (c.args.count - (c.loop.counter + 1)) = omega arith in
    let w = c.in_ok-next.was in
    let h = c.check_inner.ensures in
    (rest_under _ _ _ _ _ _ _ w h (rw n at c.loop.invariant.0), λ r k. c.loop.invariant.1 r (rw n (inners-pass _ _ _ _ _ _ _ w h r k)))

pub returns : goal.returns
returns c =
    let n : c.args.count - c.loop.counter ≡ 0 = omega arith in
    c.loop.invariant.1 _ (rw n (inners-end _ _ _ c.loop.next))

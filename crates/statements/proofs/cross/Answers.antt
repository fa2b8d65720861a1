use Rattle.std.proofs.Common.{suc, ◌+◌, ◌<◌, arith, refl, sym, ◌∙◌}
use native.Mathlib.Numerals.{add-one}
use Rattle.tables.proofs.State.{enough}
use Rattle.statements.proofs.Walking.{in-range, out_of_range, stepped-err, stepped, stepped-is, same-walk, crossed, crossed-past}
use Rattle.statements.proofs.cross.Goals as goal

pub returns-in_err-ensure_branch_in_range : goal.returns-in_err-ensure_branch_in_range
returns-in_err-ensure_branch_in_range c =
    let out = out_of_range _ _ _ (sym c.ensure_branch_in_range.ensures ∙ c.in_err-ensure_branch_in_range.was) in
    stepped-err c.from_residual.ensures.1 (crossed-past _ _ c.args.d _ (enough c.requires.1) c.args.loc _ (omega (arith, out.0)) out.1)

pub overflow_add-next : goal.overflow_add-next
overflow_add-next c = omega (arith, in-range _ _ _ (sym c.ensure_branch_in_range.ensures ∙ c.in_ok-ensure_branch_in_range.was), c.requires.1.few)

pub returns-in_err-ensure_branch_in_range-2 : goal.returns-in_err-ensure_branch_in_range-2
returns-in_err-ensure_branch_in_range-2 c =
    let out = out_of_range _ _ _ (sym c.ensure_branch_in_range-2.ensures ∙ c.in_err-ensure_branch_in_range-2.was) in
    stepped-err c.from_residual-in_err-ensure_branch_in_range-2.ensures.1 (crossed-past _ _ c.args.d _ (enough c.requires.1) c.args.loc _ (omega (arith, out.0)) out.1)

pub bounds-walk-next : goal.bounds-walk-next
bounds-walk-next c = omega (arith, in-range _ _ _ (sym c.ensure_branch_in_range-2.ensures ∙ c.in_ok-ensure_branch_in_range-2.was), c.requires.1.few)

pub transfer_prefix_consumption-requires : goal.transfer_prefix_consumption-requires
transfer_prefix_consumption-requires c = (c.requires.0, (c.requires.1.each (c.args.walk.now.branch + 1) (in-range _ _ _ (sym c.ensure_branch_in_range-2.ensures ∙ c.in_ok-ensure_branch_in_range-2.was))).formed)

pub returns : goal.returns
returns c =
    let w = c.args.walk.now in
    let within : suc w.branch < c.args.d.count = omega (arith, in-range _ _ _ (sym c.ensure_branch_in_range-2.ensures ∙ c.in_ok-ensure_branch_in_range-2.was)) in
    stepped-is (crossed _ _ c.args.d _ (enough c.requires.1) c.args.loc _ within) (stepped c.requires.1 (λ p. p) (λ p. w.next) _ within (rw (← add-one w.branch) (same-walk c.transfer_prefix_consumption.ensures)) (λ p q. refl))

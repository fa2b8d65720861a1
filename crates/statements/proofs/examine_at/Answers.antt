use Rattle.std.proofs.Common.{arith, sym, ◌∙◌}
use Rattle.statements.proofs.Walking.{in-range, out_of_range, tried-err, tried, tried-is, examined-here, examined-past}
use Rattle.statements.proofs.examine_at.Goals as goal

pub returns-in_err-ensure_branch_in_range : goal.returns-in_err-ensure_branch_in_range
returns-in_err-ensure_branch_in_range c = λ e j sp.
    let out = out_of_range _ _ _ (sym c.ensure_branch_in_range.ensures ∙ c.in_err-ensure_branch_in_range.was) in
    tried-err c.from_residual.ensures.1 (examined-past _ _ c.args.d _ c.requires.2.0 _ _ e out.0 out.1)

pub bounds-walk-p : goal.bounds-walk-p
bounds-walk-p c = omega (arith, in-range _ _ _ (sym c.ensure_branch_in_range.ensures ∙ c.in_ok-ensure_branch_in_range.was), c.requires.1, c.requires.2.0)

pub examine-requires : goal.examine-requires
examine-requires c =
    let within = in-range _ _ _ (sym c.ensure_branch_in_range.ensures ∙ c.in_ok-ensure_branch_in_range.was) in
    (c.requires.0, c.requires.2.1 within, omega (arith, within, c.requires.1))

pub returns : goal.returns
returns c = λ e j sp.
    let within = in-range _ _ _ (sym c.ensure_branch_in_range.ensures ∙ c.in_ok-ensure_branch_in_range.was) in
    tried-is (examined-here _ _ c.args.d _ c.requires.2.0 _ _ e within) (tried c.args.walk.now c.requires.2 _ within (c.examine.ensures e j sp))

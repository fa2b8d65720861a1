use Rattle.std.proofs.Common.{arith, sym, ap, ◌∙◌, refl}
use Rattle.nodes.proofs.Laws.{walked-pass, walked-fault}
use Rattle.statements.proofs.Walking.{in-range, out_of_range, examined-past, decided-err}
use Rattle.statements.proofs.Examining.{nameless-is}
use Rattle.statements.proofs.expression_step.Goals as goal

pub returns-in_err-ensure_branch_in_range : goal.returns-in_err-ensure_branch_in_range
returns-in_err-ensure_branch_in_range c = λ e j sp.
    let out = out_of_range _ _ _ (sym c.ensure_branch_in_range.ensures ∙ c.in_err-ensure_branch_in_range.was) in
    decided-err _ _ c.args.d c.args.branch _ e j _ c.from_residual.ensures.1 (λ paths r. examined-past _ _ c.args.d paths r.0 _ _ e out.0 out.1) (sym (c.has_names.ensures _ e j sp) ∙ c.if-has_names.false)

pub judge-requires : goal.judge-requires
judge-requires c =
    let within = in-range _ _ _ (sym c.ensure_branch_in_range.ensures ∙ c.in_ok-ensure_branch_in_range.was) in
    (c.requires.0, c.requires.1 within, omega (arith, within, c.requires.2))

pub returns-in_err-next : goal.returns-in_err-next
returns-in_err-next c = λ e j sp.
    let within = in-range _ _ _ (sym c.ensure_branch_in_range.ensures ∙ c.in_ok-ensure_branch_in_range.was) in
    let nameless = sym (c.has_names.ensures _ e j sp) ∙ c.if-has_names.false in
    decided-err _ _ c.args.d c.args.branch _ e j _ c.from_residual-in_err-next.ensures.1 (λ paths r. nameless-is _ _ c.args.d c.args.branch _ e nameless within paths r ∙ rw (walked-fault _ j (sym (c.judge.ensures e j sp) ∙ c.in_err-next.was))) nameless

pub returns : goal.returns
returns c = λ e j sp.
    let within = in-range _ _ _ (sym c.ensure_branch_in_range.ensures ∙ c.in_ok-ensure_branch_in_range.was) in
    let nameless = sym (c.has_names.ensures _ e j sp) ∙ c.if-has_names.false in
    let passed = walked-pass _ j (sym (c.judge.ensures e j sp) ∙ c.in_ok-next.was) in
    (sym passed.1, λ paths r. nameless-is _ _ c.args.d c.args.branch _ e nameless within paths r ∙ rw passed.0, nameless)

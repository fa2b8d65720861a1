use Rattle.std.proofs.Common.{sym, ◌∙◌}
use Rattle.text.proofs.Cursors.{up_to-past, up_to-none, up_to-nought, up_to-more}
use Rattle.decimals.proofs.read_decimal.Goals as goal

pub returns-in_err-get-clause-value : goal.returns-in_err-get-clause-value
returns-in_err-get-clause-value c = c.from_residual.ensures ∙ up_to-past c.args.limit c.args.c c.in_err-get.ensures.lookup.3

pub returns-in_err-first-clause-value : goal.returns-in_err-first-clause-value
returns-in_err-first-clause-value c =
    let h = c.in_ok-get.ensures.lookup.3 in
    c.from_residual-in_err-first.ensures ∙ up_to-none c.args.limit c.args.c h.0 (h.1 0) (sym c.digit.ensures ∙ c.in_err-first.was)

pub returns-then-first-eq0-clause-value : goal.returns-then-first-eq0-clause-value
returns-then-first-eq0-clause-value c =
    let h = c.in_ok-get.ensures.lookup.3 in
    up_to-nought c.args.limit c.args.c h.0 (h.1 0) (sym c.digit.ensures ∙ c.in_ok-first.was) c.if-first-eq0.true

pub returns-clause-value : goal.returns-clause-value
returns-clause-value c =
    let h = c.in_ok-get.ensures.lookup.3 in
    c.more_digits.ensures.value ∙ up_to-more c.args.limit c.args.c h.0 (h.1 0) (sym c.digit.ensures ∙ c.in_ok-first.was) c.if-first-eq0.false

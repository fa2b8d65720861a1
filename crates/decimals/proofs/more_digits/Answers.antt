use Rattle.std.proofs.Common.{◌≡◌, ◌≤◌, ◌+◌, ◌*◌, length, length-drop, arith, sym, ap, ◌∙◌}
use Rattle.text.proofs.Cursors.{rest_inside, rest_byte, digit-none, number_from, number-digit, number-stop, number-past, number-over}
use Rattle.text.specs.Text.{is_digit}
use Rattle.decimals.proofs.Pushed.{over, fits}
use Rattle.decimals.proofs.more_digits.Goals.{In-Some}
use Rattle.decimals.proofs.more_digits.Goals as goal

pub returns-then-limit-first-clause-value : goal.returns-then-limit-first-clause-value
returns-then-limit-first-clause-value c = number-over c.args.limit c.args.first c.args.c c.if-limit-first.true

pub returns-in_default-clause-value : goal.returns-in_default-clause-value
returns-in_default-clause-value c =
    let l = c.loop-k in
    let k = c.args.c in
    number-stop c.args.limit l.v (record k { at = k.at + l.k }) l.invariant.small (rest_inside k c.rest-rest.ensures c.loop-k-test.true) (ap is_digit (sym (rest_byte k c.rest-rest.ensures c.loop-k-test.true)) ∙ digit-none _ (sym c.digit.ensures ∙ c.in_default.is)) ∙ l.invariant.same

-- the digit at the position is one more
step : (c : In-Some) → number_from c.args.limit (c.loop-k.v * 10 + c.in-Some.n) (record c.args.c { at = c.args.c.at + (c.loop-k.k + 1) }) ≡ number_from c.args.limit c.args.first c.args.c
step c =
    let l = c.loop-k in
    let k = c.args.c in
    let next : k.at + (l.k + 1) ≡ k.at + l.k + 1 = omega arith in
    rw next (number-digit c.args.limit (record k { at = k.at + l.k }) (rest_inside k c.rest-rest.ensures c.loop-k-test.true) (rest_byte k c.rest-rest.ensures c.loop-k-test.true) l.v (sym c.digit.ensures ∙ c.in-Some.is) ∙ l.invariant.same)

pub returns-in_err-v-clause-value : goal.returns-in_err-v-clause-value
returns-in_err-v-clause-value c = c.from_residual.ensures ∙ number-over c.args.limit (c.loop-k.v * 10 + c.in-Some.n) _ (over _ _ (sym c.push_digit.ensures ∙ c.in_err-v.was)) ∙ step (goal.at.returns-in_err-v-clause-value c).In-Some

pub loop-k-preserved : goal.loop-k-preserved
loop-k-preserved c =
    let f = fits _ _ _ (sym c.push_digit.ensures ∙ c.in_ok-v.was) in
    record {
      small = omega (arith, f);
      same = rw f.0 at (step (goal.at.loop-k-preserved c).In-Some);
    }

pub returns-clause-value : goal.returns-clause-value
returns-clause-value c =
    let l = c.loop-k in
    let k = c.args.c in
    let n = length c.rest-rest.result.now in
    let done : l.k ≡ n = omega arith in
    let past : length k.listing.now ≤ k.at + n = omega (arith, ap length c.rest-rest.ensures, length-drop k.at k.listing.now) in
    number-past c.args.limit l.v (record k { at = k.at + n }) l.invariant.small past ∙ rw done at l.invariant.same

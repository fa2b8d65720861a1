use Rattle.std.proofs.Common.{◌≡◌, ◌+◌, ◌*◌, length, refl, arith, sym, ◌∙◌}
use Rattle.text.proofs.Cursors.{digit-none, number_from, number-digit, number-stop, number-past, number-over}
use Rattle.words.proofs.word_digits.Goals.{In-Some}
use Rattle.words.proofs.word_digits.Goals as goal

pub returns-in_default : goal.returns-in_default
returns-in_default c =
    let l = c.loop-at in
    number-stop 4294967295 l.v (record c.args.c { at = l.at }) l.invariant.small c.loop-at-test.true (digit-none _ (sym c.digit.ensures ∙ c.in_default.is)) ∙ l.invariant.same

-- the digit at the position is one more
step : (c : In-Some) → number_from 4294967295 (c.loop-at.v * 10 + c.in-Some.n) (record c.args.c { at = c.loop-at.at + 1 }) ≡ number_from 4294967295 c.args.first c.args.c
step c = number-digit 4294967295 (record c.args.c { at = c.loop-at.at }) c.loop-at-test.true refl c.loop-at.v (sym c.digit.ensures ∙ c.in-Some.is) ∙ c.loop-at.invariant.same

pub returns-then-v-gt-MAX_WORD : goal.returns-then-v-gt-MAX_WORD
returns-then-v-gt-MAX_WORD c = number-over 4294967295 (c.loop-at.v * 10 + c.in-Some.n) _ c.if-v-gt-MAX_WORD.true ∙ step (goal.at.returns-then-v-gt-MAX_WORD c).In-Some

pub loop-at-preserved : goal.loop-at-preserved
loop-at-preserved c = record {
  small = c.if-v-gt-MAX_WORD.false;
  same = step (goal.at.loop-at-preserved c).In-Some;
}

pub returns : goal.returns
returns c =
    let l = c.loop-at in
    let k = c.args.c in
    let n = length k.listing.now in
    let done : l.at ≡ n = omega arith in
    number-past 4294967295 l.v (record k { at = n }) l.invariant.small (omega arith) ∙ rw done at l.invariant.same

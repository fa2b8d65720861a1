use Rattle.std.proofs.Common.{◌≡◌, ℕ, ◌+◌, ◌*◌, ◌-◌, ◌^◌, ◌≤◌, ◌<◌, suc, refl, arith, sym, ◌∙◌}
use Rattle.std.proofs.Math.Nat.{pow-succ', pow-le-pow_right}
use Rattle.text.specs.Text.{read, comma, up_to, word}
use Rattle.text.proofs.Cursors.{taken, other, byte-some, byte-none, digit-some, digit-none, number-digit, number-stop, up_to-none, up_to-nought, up_to-more}
use Rattle.words.proofs.short_word.Goals.{Else-c-ne-COMMA}
use Rattle.words.proofs.short_word.Goals as goal

pub returns-then-c-ne-COMMA : goal.returns-then-c-ne-COMMA
unfolding word
returns-then-c-ne-COMMA c = sym (byte-none comma (up_to 4294967295) c.args.c (other comma c.args.c (omega arith) c.if-c-ne-COMMA.true))

-- after the comma: the number
after_comma : (c : Else-c-ne-COMMA) → read (up_to 4294967295) (record c.args.c { at = c.args.c.at + 1 }) ≡ read word c.args.c
unfolding word
after_comma c = sym (byte-some comma (up_to 4294967295) c.args.c (taken comma c.args.c (omega arith) c.if-c-ne-COMMA.false))

pub returns-in_err-v : goal.returns-in_err-v
returns-in_err-v c = c.from_residual.ensures ∙ up_to-none 4294967295 (record c.args.c { at = c.args.c.at + 1 }) (omega arith) refl (sym c.digit.ensures ∙ c.in_err-v.was) ∙ after_comma (goal.at.returns-in_err-v c).Else-c-ne-COMMA

pub returns-then-v-eq0 : goal.returns-then-v-eq0
returns-then-v-eq0 c = let e : c.args.c.at + 2 ≡ c.args.c.at + 1 + 1 = omega arith in rw e (up_to-nought 4294967295 (record c.args.c { at = c.args.c.at + 1 }) (omega arith) refl (sym c.digit.ensures ∙ c.in_ok-v.was) c.if-v-eq0.true ∙ after_comma (goal.at.returns-then-v-eq0 c).Else-c-ne-COMMA)

pub loop-k-init : goal.loop-k-init
loop-k-init c =
    let e : c.args.c.at + 2 ≡ c.args.c.at + 1 + 1 = omega arith in
    record {
      small = omega (arith, digit-some _ (sym c.digit.ensures ∙ c.in_ok-v.was));
      same = rw e (up_to-more 4294967295 (record c.args.c { at = c.args.c.at + 1 }) (omega arith) refl (sym c.digit.ensures ∙ c.in_ok-v.was) c.if-v-eq0.false ∙ after_comma (goal.at.loop-k-init c).Else-c-ne-COMMA);
    }

-- a power of ten more
next : (k : ℕ) → 0 < k → 10 ^ (k + 1 - 1) ≡ 10 * 10 ^ (k - 1)
next k h = let e : k + 1 - 1 ≡ suc (k - 1) = omega arith in rw e (pow-succ' 10 (k - 1))

pub returns-in_default : goal.returns-in_default
returns-in_default c =
    let l = c.loop-k in
    let most : 10 ^ (l.k - 1) ≤ 1000 = pow-le-pow_right {n = 10} (omega arith) {j = 3} (omega arith) in
    let few : l.v ≤ 4294967295 = omega (arith, most, l.invariant.small) in
    number-stop 4294967295 l.v (record c.args.c { at = c.args.c.at + l.k }) few (omega arith) (digit-none _ (sym c.digit-in-loop-k.ensures ∙ c.in_default.is)) ∙ l.invariant.same

pub loop-k-preserved : goal.loop-k-preserved
loop-k-preserved c =
    let l = c.loop-k in
    let at : c.args.c.at + (l.k + 1) ≡ c.args.c.at + l.k + 1 = omega arith in
    let digit = sym c.digit-in-loop-k.ensures ∙ c.in-Some.is in
    record {
      small = omega (arith, next l.k (omega arith), digit-some _ digit, l.invariant.small);
      same = rw at (number-digit 4294967295 (record c.args.c { at = c.args.c.at + l.k }) (omega arith) refl l.v digit ∙ l.invariant.same);
    }

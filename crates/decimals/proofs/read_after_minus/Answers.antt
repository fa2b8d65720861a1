use Rattle.std.proofs.Common.{◌^◌, arith, sym, ◌∙◌}
use borrow.Author.Tests.{lt-ltb, le-ltb}
use lib.Dec.{ltb}
use Rattle.std.proofs.Common.{true}
use Rattle.text.specs.Text.{up_to, guard, after_minus}
use Rattle.text.proofs.Places.{up_to-keeps}
use Rattle.text.proofs.Cursors.{bind-some, bind-none, guard-some, guard-none}
use Rattle.decimals.proofs.read_after_minus.Goals as goal

pub returns-in_err-magnitude : goal.returns-in_err-magnitude
unfolding after_minus
returns-in_err-magnitude c = c.from_residual.ensures ∙ sym (bind-none _ _ (up_to-keeps (2 ^ 63)) c.args.c (sym c.read_decimal.ensures.value ∙ c.in_err-magnitude.was))

pub returns-then-magnitude-eq0 : goal.returns-then-magnitude-eq0
unfolding after_minus
returns-then-magnitude-eq0 c = sym (bind-some (up_to (2 ^ 63)) (λ v. guard (ltb 0 v) (record { negative = true; magnitude = v })) (up_to-keeps (2 ^ 63)) c.args.c (sym c.read_decimal.ensures.value ∙ c.in_ok-magnitude.was) ∙ guard-none _ _ (le-ltb _ _ (omega arith)))

pub returns : goal.returns
unfolding after_minus
returns c = sym (bind-some (up_to (2 ^ 63)) (λ v. guard (ltb 0 v) (record { negative = true; magnitude = v })) (up_to-keeps (2 ^ 63)) c.args.c (sym c.read_decimal.ensures.value ∙ c.in_ok-magnitude.was) ∙ guard-some _ _ (lt-ltb _ _ (omega arith)))

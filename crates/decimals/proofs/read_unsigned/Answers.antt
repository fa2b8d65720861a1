use Rattle.std.proofs.Common.{◌^◌, ◌-◌, false, sym, ◌∙◌}
use Rattle.text.specs.Text.{up_to, yield, unsigned}
use Rattle.text.proofs.Places.{up_to-keeps}
use Rattle.text.proofs.Cursors.{bind-some, bind-none, yield-some}
use Rattle.decimals.proofs.read_unsigned.Goals as goal

pub returns-in_err-magnitude : goal.returns-in_err-magnitude
unfolding unsigned
returns-in_err-magnitude c = c.from_residual.ensures ∙ sym (bind-none _ _ (up_to-keeps (2 ^ 63 - 1)) c.args.c (sym c.read_decimal.ensures.value ∙ c.in_err-magnitude.was))

pub returns : goal.returns
unfolding unsigned
returns c = sym (bind-some (up_to (2 ^ 63 - 1)) (λ v. yield (record { negative = false; magnitude = v })) (up_to-keeps (2 ^ 63 - 1)) c.args.c (sym c.read_decimal.ensures.value ∙ c.in_ok-magnitude.was) ∙ yield-some _ _)

use Rattle.std.proofs.Common.{sym, ◌∙◌}
use Rattle.text.specs.Text.{comma, sign, signed}
use Rattle.text.proofs.Cursors.{byte-some, byte-none}
use Rattle.decimals.proofs.read_signed.Goals as goal

pub returns-in_err-skip : goal.returns-in_err-skip
unfolding signed
returns-in_err-skip c = c.from_residual.ensures ∙ sym (byte-none comma sign c.args.c (sym c.skip.ensures ∙ c.in_err-skip.was))

pub returns : goal.returns
unfolding signed
returns c = c.read_sign.ensures ∙ sym (byte-some comma sign c.args.c (sym c.skip.ensures ∙ c.in_ok-skip.was))

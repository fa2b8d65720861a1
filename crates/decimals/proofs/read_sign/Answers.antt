use Rattle.std.proofs.Common.{sym, ◌∙◌}
use Rattle.text.proofs.Cursors.{sign-some, sign-none}
use Rattle.decimals.proofs.read_sign.Goals as goal

pub returns-in-Some : goal.returns-in-Some
returns-in-Some c = c.read_after_minus.ensures ∙ sym (sign-some c.args.c (sym c.skip.ensures ∙ c.in-Some.is))

pub returns-in-None : goal.returns-in-None
returns-in-None c = c.read_unsigned.ensures ∙ sym (sign-none c.args.c (sym c.skip.ensures ∙ c.in-None.is))

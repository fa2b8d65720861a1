use Rattle.limits.proofs.Digits.{pair-tested}
use Rattle.limits.proofs.literals.is_digit_pair.Goals as goal

pub returns : goal.returns
returns c = pair-tested c.args.a c.args.b

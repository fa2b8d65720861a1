use Rattle.std.proofs.Common.{rules, ◌∙◌}
use lib.Dec.{leb}
use Rattle.limits.proofs.Digits.{all-pairs}
use Rattle.operands.proofs.Bytes.{ascii_all}
use Rattle.operands.proofs.literals.is_ascii_literal.Goals as goal

pub returns : goal.returns
returns c = all-pairs (λ b. leb b 127) c.all_pairs.ensures (λ x y r h. search rules) ∙ ascii_all _

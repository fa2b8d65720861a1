use mathlib.Core.Path.{sym, ap, ◌∙◌}
use Rattle.std.proofs.Common.{Err}
use Rattle.rules.specs.Types.{or17, of_type, variable}
use Rattle.operands.proofs.Leaves.{found_some, found_none}
use Rattle.operands.proofs.check_variable_type.Goals as goal

pub returns-in-None : goal.returns-in-None
unfolding variable of_type
returns-in-None g c d p q h = rw (found_none _ (sym (c.in-None.ensures d q))) (ap Err c.new.ensures)

pub returns-in-Some : goal.returns-in-Some
unfolding variable of_type or17
returns-in-Some g c d p q h = rw (found_some _ (sym (c.in-Some.ensures d q)), sym (h _ _ c.wanted.ensures) ∙ c.if-wanted.true)

pub returns-in-Some-2 : goal.returns-in-Some-2
unfolding variable of_type or17
returns-in-Some-2 g c d p q h = rw (found_some _ (sym (c.in-Some.ensures d q)), sym (h _ _ c.wanted.ensures) ∙ c.if-wanted.false) (ap Err c.new-in-Some-2.ensures)

use mathlib.Core.Path.{ap}
use borrow.Author.Tests.{eq-eqb, ne_eqb, lt-ltb, le-ltb}
use Rattle.std.proofs.Common.{Err}
use Rattle.rules.specs.Types.{threshold}
use Rattle.operands.specs.Typed.{counted}
use Rattle.operands.proofs.Laws.{factors-size}
use Rattle.operands.proofs.signatures.check_multi.Goals.{then-m-eq0-via-then-m-eq0, then-m-eq0-via-else-m-eq0+then-count-m}
use Rattle.operands.proofs.signatures.check_multi.Goals as goal

pub returns-then-m-eq0 : goal.returns-then-m-eq0
unfolding counted threshold
returns-then-m-eq0 c fs j d sp q = elim c.then-m-eq0.branch [
  | then-m-eq0-via-then-m-eq0 w ↦ rw (eq-eqb _ 0 w.if-m-eq0.true) (ap Err c.new.ensures)
  | then-m-eq0-via-else-m-eq0+then-count-m w ↦ rw (ne_eqb _ 0 w.if-m-eq0.false, factors-size _ _ sp, lt-ltb _ _ w.if-count-m.true) (ap Err c.new.ensures)
]

pub returns : goal.returns
unfolding counted threshold
returns c fs j d sp q = rw (ne_eqb _ 0 c.if-m-eq0.false, factors-size _ _ sp, le-ltb _ _ c.if-count-m.false) (c.check_inners.ensures fs j d sp q)

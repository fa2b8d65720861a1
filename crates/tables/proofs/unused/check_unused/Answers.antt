use Rattle.std.proofs.Common.{arith, ◌∙◌}
use Rattle.tables.proofs.Leaving.{formed-here, left-err, left-ok, left-none}
use Rattle.tables.proofs.unused.check_unused.Goals as goal

pub check_unused_variable-requires : goal.check_unused_variable-requires
check_unused_variable-requires c = (c.requires.0, formed-here c.requires.1 c.loop-path-test.true)

pub returns-in_err-check_unused_variable : goal.returns-in_err-check_unused_variable
returns-in_err-check_unused_variable c = λ s r. left-err r c.loop-path-test.true (c.check_unused_variable.ensures s (formed-here r c.loop-path-test.true)) c.in_err-check_unused_variable.was c.from_residual.ensures.1 ∙ c.loop-path.invariant s r

pub loop-path-preserved : goal.loop-path-preserved
loop-path-preserved c = λ s r. left-ok r c.loop-path-test.true (c.check_unused_variable.ensures s (formed-here r c.loop-path-test.true)) c.in_ok-check_unused_variable.was ∙ c.loop-path.invariant s r

pub returns : goal.returns
returns c = λ s r. left-none r (omega (arith, c.loop-path-test.false)) ∙ c.loop-path.invariant s r

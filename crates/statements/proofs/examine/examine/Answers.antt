use Rattle.statements.proofs.Examining.{usage-stops, judged-stops, judged-passes}
use Rattle.statements.proofs.examine.examine.Goals as goal

pub returns-in_err-used : goal.returns-in_err-used
returns-in_err-used c = λ e j sp. usage-stops _ e c.requires.1 (c.check_variable.ensures e j sp) c.in_err-used.was c.from_residual.ensures.1

pub returns-in_err-judge : goal.returns-in_err-judge
returns-in_err-judge c = λ e j sp. judged-stops _ e c.requires.1 (c.check_variable.ensures e j sp) c.in_ok-used.was (c.judge.ensures e j sp) c.in_err-judge.was c.from_residual-in_err-judge.ensures.1

pub returns : goal.returns
returns c = λ e j sp. judged-passes _ e c.requires.1 (c.check_variable.ensures e j sp) c.in_ok-used.was (c.judge.ensures e j sp) c.in_ok-judge.was

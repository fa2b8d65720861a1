use Rattle.rules.specs.Analyze.{analyze}
use Rattle.analyze.proofs.Analyzing.{answered-ok, answered-err}
use Rattle.examiner.proofs.Checking.{answers-err, answers-ok}
use Rattle.examiner.proofs.analyze_rows.Goals as goal

pub returns-in_err-analyze : goal.returns-in_err-analyze
returns-in_err-analyze c = λ x sp. answers-err (analyze x) _ (answered-err (c.analyze.ensures x sp) c.in_err-analyze.was) c.from_residual.ensures.1

pub returns : goal.returns
returns c = λ x sp. answers-ok (analyze x) (answered-ok (c.analyze.ensures x sp) c.in_ok-analyze.was)

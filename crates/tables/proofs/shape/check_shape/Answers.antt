use Rattle.std.proofs.Common.{sym, ap, ◌∙◌}
use Rattle.std.specs.Prelude.{Err}
use Rattle.rules.specs.Flow.{flow}
use Rattle.nodes.proofs.Laws.{walked-pass}
use Rattle.tables.proofs.Counting.{shape-even, shape-odd}
use Rattle.tables.proofs.shape.check_shape.Goals as goal

pub returns-then-count_paths-d : goal.returns-then-count_paths-d
returns-then-count_paths-d c = λ s x n D. shape-even D (walked-pass (flow x.block) n (sym (c.check_flow.ensures s x.block n D.block) ∙ c.in_ok-check_flow.was)).0 (sym (ap (λ r. r.count) (c.count_paths.ensures s x.block n D.block)) ∙ c.if-count_paths-d.true)

pub returns : goal.returns
returns c = λ s x n D. ap Err c.new.ensures ∙ shape-odd D (walked-pass (flow x.block) n (sym (c.check_flow.ensures s x.block n D.block) ∙ c.in_ok-check_flow.was)).0 (λ e. c.if-count_paths-d.false (ap (λ r. r.count) (c.count_paths.ensures s x.block n D.block) ∙ e)) (c.first_item-loc.ensures s x n D)

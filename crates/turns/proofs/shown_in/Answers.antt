use Rattle.std.proofs.Common.{[], sym, ◌∙◌}
use Rattle.turns.proofs.Turning.{shows-item, shows-end}
use Rattle.turns.proofs.shown_in.Goals as goal

pub returns-in-Some : goal.returns-in-Some
returns-in-Some c = λ ps h. shows-item [] ps c.args.r (sym c.in-Some.is ∙ c.item_in.ensures ps h)

pub returns-in-None : goal.returns-in-None
returns-in-None c = λ ps h. shows-end [] ps c.args.r (sym c.in-None.is ∙ c.item_in.ensures ps h)

use Rattle.std.proofs.Common.{ap, sym, ◌∙◌}
use Rattle.forms.specs.Rowed.{ended_row}
use Rattle.forms.proofs.Rowed.{plain_is}
use Rattle.forms.proofs.plain_row.Goals as goal

pub returns : goal.returns
returns c = λ l row. c.ended.ensures ∙ ap (λ r. ended_row r c.args.c) c.located.ensures ∙ sym (plain_is l _ row c.args.c)

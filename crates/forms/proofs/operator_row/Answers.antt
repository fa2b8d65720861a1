use Rattle.std.proofs.Common.{ap, sym, ◌∙◌}
use Rattle.std.specs.Prelude.{option_and_then}
use Rattle.forms.specs.Rowed.{ended_row}
use Rattle.forms.proofs.Rowed.{operator_is}
use Rattle.forms.proofs.operator_row.Goals as goal

pub returns-in_err-a : goal.returns-in_err-a
returns-in_err-a c = λ f rows. c.from_residual.ensures ∙ sym (operator_is f c.args.letter c.args.count c.args.w rows c.args.c ∙ ap (option_and_then _) (sym c.read_index.ensures ∙ c.in_err-a.was))

pub returns : goal.returns
returns c = λ f rows.
    c.ended.ensures ∙ ap (λ r. ended_row (record r { a = c.in_ok-a.a }) c.in_ok-a.c) c.located.ensures ∙ sym (operator_is f c.args.letter c.args.count c.args.w rows c.args.c ∙ ap (option_and_then _) (sym c.read_index.ensures ∙ c.in_ok-a.was))

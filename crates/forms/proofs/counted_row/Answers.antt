use Rattle.std.proofs.Common.{ap, sym, ◌∙◌}
use Rattle.std.specs.Prelude.{option_and_then}
use Rattle.rows.specs.Rows.{row_with}
use Rattle.forms.specs.Rowed.{ended_row}
use Rattle.forms.proofs.Rowed.{counted_is}
use Rattle.forms.proofs.counted_row.Goals as goal

pub returns-in_err-a : goal.returns-in_err-a
returns-in_err-a c = λ f rows. c.from_residual.ensures ∙ sym (counted_is f c.args.letter rows c.args.c ∙ ap (option_and_then _) (sym c.read_word.ensures ∙ c.in_err-a.was))

pub returns : goal.returns
returns c = λ f rows.
    let located = c.located.ensures ∙ ap (λ u. row_with c.args.letter u 0 0 0 0) c.unplaced.ensures in
    c.ended.ensures ∙ ap (λ r. ended_row (record r { a = c.in_ok-a.a }) c.in_ok-a.c) located ∙ sym (counted_is f c.args.letter rows c.args.c ∙ ap (option_and_then _) (sym c.read_word.ensures ∙ c.in_ok-a.was))

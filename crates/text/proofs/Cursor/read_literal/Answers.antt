use Rattle.std.proofs.Common.{◌%◌, sym, ◌∙◌}
use borrow.Author.Tests.{eq-eqb, ne_eqb}
use lib.Dec.{eqb}
use Rattle.text.specs.Text.{is_hex_digit, literal, ◌>>◌}
use Rattle.text.proofs.Fields.{end-run}
use Rattle.text.proofs.Cursors.{field-failed, field-got, field-none}
use Rattle.text.proofs.Cursor.read_literal.Goals as goal

pub returns-in_err-start : goal.returns-in_err-start
unfolding literal ◌>>◌
returns-in_err-start c = c.from_residual.ensures ∙ sym (field-failed is_hex_digit (λ n. eqb (n % 2) 0) c.args.self (sym c.skip.ensures ∙ c.in_err-start.was))

pub overflow_sub-len : goal.overflow_sub-len
overflow_sub-len c = (end-run is_hex_digit _ _ c.hex_end-end.ensures).0

pub returns-then-len-ne0 : goal.returns-then-len-ne0
unfolding literal ◌>>◌
returns-then-len-ne0 c = sym (field-none is_hex_digit (λ n. eqb (n % 2) 0) c.args.self _ (sym c.skip.ensures ∙ c.in_ok-start.was) c.hex_end-end.ensures (ne_eqb _ _ c.if-len-ne0.true))

pub returns : goal.returns
unfolding literal ◌>>◌
returns c = sym (field-got is_hex_digit (λ n. eqb (n % 2) 0) c.args.self _ (sym c.skip.ensures ∙ c.in_ok-start.was) c.hex_end-end.ensures (eq-eqb _ _ c.if-len-ne0.false))

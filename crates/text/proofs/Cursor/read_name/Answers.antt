use Rattle.std.proofs.Common.{arith, sym, ◌∙◌}
use borrow.Author.Tests.{lt-ltb, le-ltb}
use lib.Dec.{ltb}
use Rattle.text.specs.Text.{is_name_byte, name, ◌>>◌}
use Rattle.text.proofs.Fields.{end-run}
use Rattle.text.proofs.Cursors.{field-failed, field-got, field-none}
use Rattle.text.proofs.Cursor.read_name.Goals as goal

pub returns-in_err-start : goal.returns-in_err-start
unfolding name ◌>>◌
returns-in_err-start c = c.from_residual.ensures ∙ sym (field-failed is_name_byte (ltb 0) c.args.self (sym c.skip.ensures ∙ c.in_err-start.was))

pub overflow_sub-len : goal.overflow_sub-len
overflow_sub-len c = (end-run is_name_byte _ _ (c.run_end-end.ensures is_name_byte (λ b r h. h))).0

pub returns-then-len-eq0 : goal.returns-then-len-eq0
unfolding name ◌>>◌
returns-then-len-eq0 c = sym (field-none is_name_byte (ltb 0) c.args.self _ (sym c.skip.ensures ∙ c.in_ok-start.was) (c.run_end-end.ensures is_name_byte (λ b r h. h)) (le-ltb _ _ (omega arith)))

pub returns : goal.returns
unfolding name ◌>>◌
returns c = sym (field-got is_name_byte (ltb 0) c.args.self _ (sym c.skip.ensures ∙ c.in_ok-start.was) (c.run_end-end.ensures is_name_byte (λ b r h. h)) (lt-ltb _ _ (omega arith)))

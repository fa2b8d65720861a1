-- check_security meets its contract. The measure is the rows left.
use Prim.Native.Nat.{◌+◌, ◌-◌}
use native.Mathlib.Omega.{arith}
use mathlib.Core.Path.{◌≡◌, sym, ap, ◌∙◌}
use Rattle.std.proofs.lemmas.Result.{err_from_is_err_and}
use Rattle.listing.specs.declared.ExpressionLine.{ExpressionLine}
use Rattle.listing.specs.declared.Line.{Line}
use Rattle.rows.specs.Rows.{line_in, HasRow}
use Rattle.reader.proofs.Agree.{expression-on, factor-on}
use Rattle.nodes.proofs.Laws.{expression-holds, row-part}
use Rattle.limits.proofs.Security.{entered, rest_all, rest-done, rest-few, rest-first, rest-fault, rest_more, rest-factor, rest-signed}
use Rattle.limits.proofs.check_security.Goals.{In-CheckSigExpression, In_ok-check_overflow}
use Rattle.limits.proofs.check_security.Goals as goal

-- the row at hand is there
room : (c : In_ok-check_overflow) → HasRow c.args.rows.now.table.now c.loop-due.next
room c = (expression-holds (rest-first c.loop-due.invariant c.loop-due-test.true)).room

-- its line, where it is a signature check
line-is : (c : In-CheckSigExpression) → line_in c.args.rows.now.table.now c.loop-due.next ≡ Line.Expression (ExpressionLine.CheckSigExpression c.in-CheckSigExpression.field-0)
line-is c = c.expression_at-line.ensures ∙ ap Line.Expression c.in-CheckSigExpression.is

pub loop-due-init : goal.loop-due-init
loop-due-init c = rest_all c.requires

pub expression_at-line-requires : goal.expression_at-line-requires
expression_at-line-requires c = expression-holds (rest-first c.loop-due.invariant c.loop-due-test.true)

pub check_overflow-requires : goal.check_overflow-requires
check_overflow-requires c =
    let a = c.args in
    let st = rest-first c.loop-due.invariant c.loop-due-test.true in
    row-part st (expression-on (line_in a.rows.now.table.now) a.rows.now.listing.now st.spells) (Line.Expression c.expression_at-line.result) c.expression_at-line.ensures

pub returns-in_err-check_overflow : goal.returns-in_err-check_overflow
returns-in_err-check_overflow c =
    let p = err_from_is_err_and c.from_residual.result c.from_residual.ensures.1 in
    rw (p.1, p.2) (rest-fault c.loop-due.invariant c.loop-due-test.true c.expression_at-line.ensures (sym c.check_overflow.ensures ∙ c.in_err-check_overflow.was))

pub overflow_add-next : goal.overflow_add-next
overflow_add-next c = omega (arith, room c)

pub skip_factor-next-requires : goal.skip_factor-next-requires
skip_factor-next-requires c =
    (_, rest-factor c.loop-due.invariant c.loop-due-test.true (line-is (goal.at.skip_factor-next-requires c).In-CheckSigExpression))

pub loop-due-smaller-in-CheckSigExpression : goal.loop-due-smaller-in-CheckSigExpression
loop-due-smaller-in-CheckSigExpression c =
    let st = rest-factor c.loop-due.invariant c.loop-due-test.true (line-is (goal.at.loop-due-smaller-in-CheckSigExpression c).In-CheckSigExpression) in
    omega (arith, room (goal.at.loop-due-smaller-in-CheckSigExpression c).In_ok-check_overflow, c.skip_factor-next.ensures _ _ _ st.spells, factor-on _ _ st.spells)

pub loop-due-preserved-in-CheckSigExpression : goal.loop-due-preserved-in-CheckSigExpression
loop-due-preserved-in-CheckSigExpression c =
    rest-signed c.loop-due.invariant c.loop-due-test.true (line-is (goal.at.loop-due-preserved-in-CheckSigExpression c).In-CheckSigExpression) (c.skip_factor-next.ensures _)

pub loop-due-preserved : goal.loop-due-preserved
loop-due-preserved c =
    rest_more c.loop-due.invariant c.loop-due-test.true c.expression_at-line.ensures (sym c.check_overflow.ensures ∙ c.in_ok-check_overflow.was) (entered c.expression_at-line.result c.in_default.not-CheckSigExpression) (ap (λ m. c.loop-due.due - 1 + m) c.operand_count-due.ensures)

pub overflow_add-due : goal.overflow_add-due
overflow_add-due c = omega (arith, rest-few (loop-due-preserved c))

pub loop-due-smaller : goal.loop-due-smaller
loop-due-smaller c = omega (arith, room (goal.at.loop-due-smaller c).In_ok-check_overflow)

pub returns : goal.returns
returns c = rest-done c.loop-due.invariant c.loop-due-test.false

-- check_flow and the check of a last statement meet their contracts. The measure is the rows left.
use Prim.Native.Nat.{◌+◌, ◌-◌, ◌<◌}
use native.Mathlib.Omega.{arith}
use mathlib.Core.Logic.{inl, inr}
use mathlib.Core.Path.{◌≡◌, refl, sym, ap, ◌∙◌, subst}
use Rattle.std.proofs.Common.{rules}
use Rattle.std.specs.Prelude.{Err}
use Rattle.ast.specs.declared.ErrorKind.TheVariants.{NoReturn, UnreachableCode}
use Rattle.ast.specs.Tree.{◌∷ᵇ◌, fault}
use Rattle.rows.specs.Rows.{line_in}
use Rattle.reader.specs.Spells.{SpellsExpression, SpellsStatement, SpellsBlock, SpellsStatements}
use Rattle.rules.specs.Result.{refused}
use Rattle.rules.specs.Flow.{flow_last, flow}
use Rattle.nodes.proofs.Laws.{statement-holds, block-holds, below, at_row, walked-ok, walked-err}
use Rattle.flow.proofs.Statements.{after_is, after-if, block-statements, statements-more, statements-none, two-more, says, statements-stand, first-stands, others-stand, others-after, condition-stands, block-stands, else-stands, flow-on, flow-stop, flow-end, flow-empty}
use Rattle.flow.proofs.Walks.{came-to, both-fault, both-pass}
use Rattle.flow.proofs.flow.+check_flow_check_last.Goals as goal

pub check_flow-block_at-n-requires : goal.check_flow-block_at-n-requires
check_flow-block_at-n-requires t c = block-holds c.requires.1

pub check_flow-returns-then-n-eq0 : goal.check_flow-returns-then-n-eq0
check_flow-returns-then-n-eq0 t c s b j sp =
    let e = (statements-none (block-statements sp c.block_at-n.ensures) (omega (arith, c.if-n-eq0.true))).1 in
    ap Err c.new.ensures ∙ ap (λ l. Err (fault NoReturn l)) c.nowhere.ensures ∙ walked-err j (ap flow e ∙ flow-empty)

pub check_flow-overflow_add-at : goal.check_flow-overflow_add-at
check_flow-overflow_add-at t c = omega (arith, (block-holds c.requires.1).room)

pub check_flow-loop-init : goal.check_flow-loop-init
check_flow-loop-init t c =
    let p = c.requires in
    let n = c.block_at-n.result in
    let all : n + 1 - 1 ≡ n = omega arith in
    record {
      onward = omega arith;
      stand = (p.0, rw all (statements-stand p.1 c.block_at-n.ensures));
      spelled = λ s b j sp. (b, rw all (block-statements sp c.block_at-n.ensures), refl);
    }

pub check_flow-statement_at-line-requires : goal.check_flow-statement_at-line-requires
check_flow-statement_at-line-requires t c = let l = c.loop in statement-holds (first-stands l.invariant.stand.1 (omega (arith, c.loop-test.true)))

pub check_flow-skip_statement-at-requires : goal.check_flow-skip_statement-at-requires
check_flow-skip_statement-at-requires t c = let l = c.loop in (l.invariant.stand.0, first-stands l.invariant.stand.1 (omega (arith, c.loop-test.true)))

pub check_flow-statement_at-after-requires : goal.check_flow-statement_at-after-requires
check_flow-statement_at-after-requires t c =
    let l = c.loop in
    let o = others-stand l.invariant.stand.1 (omega (arith, c.loop-test.true)) (c.skip_statement-at.ensures l.invariant.stand.0) in
    statement-holds (first-stands o (omega (arith, c.loop-test.true)))

pub check_flow-returns-then-not-goes_on : goal.check_flow-returns-then-not-goes_on
check_flow-returns-then-not-goes_on t c s b j sp =
    let (f, sf, p) = c.loop.invariant.spelled s b j sp in
    let (x, z, d, k, m, u, v, r, q) = two-more sf (omega (arith, c.loop-test.true)) in
    let stop = (says u c.statement_at-line.ensures).0 ∙ sym c.goes_on.ensures ∙ c.if-not-goes_on.true in
    let there = (says (at_row (SpellsStatement _ s) (c.skip_statement-at.ensures _ _ _ u) v) c.statement_at-after.ensures).1 in
    ap Err c.new-then-not-goes_on.ensures ∙ ap (λ l. Err (fault UnreachableCode l)) (c.place_of.ensures ∙ sym there) ∙ walked-err j (p ∙ ap flow q ∙ flow-stop x z d stop)

pub check_flow-loop-preserved : goal.check_flow-loop-preserved
check_flow-loop-preserved t c =
    let l = c.loop in
    let n = c.block_at-n.result in
    let (s, st) = l.invariant.stand in
    let h : 0 < n + 1 - l.counter = omega (arith, c.loop-test.true) in
    let fewer : n + 1 - (l.counter + 1) ≡ n + 1 - l.counter - 1 = omega arith in
    let e = c.skip_statement-at.ensures s in
    record {
      onward = omega (arith, l.invariant.onward, others-after st h e);
      stand = (s, rw fewer (others-stand st h e));
      spelled = λ s b j sp.
          let (f, sf, p) = l.invariant.spelled s b j sp in
          let (x, z, d, k, m, u, v, r, q) = two-more sf (omega (arith, c.loop-test.true)) in
          let goes = (says u c.statement_at-line.ensures).0 ∙ sym c.goes_on.ensures ∙ c.if-not-goes_on.false in
          (z ∷ᵇ d, subst (λ m. SpellsStatements (line_in c.args.table.now) s m c.skip_statement-at.result (z ∷ᵇ d) j) (sym fewer) (at_row (SpellsStatements (line_in c.args.table.now) s (n + 1 - l.counter - 1)) (c.skip_statement-at.ensures _ _ _ u) r), p ∙ ap flow q ∙ flow-on x z d goes);
    }

pub check_flow-check_last-requires : goal.check_flow-check_last-requires
check_flow-check_last-requires t c =
    let l = c.loop in
    let p = c.requires in
    (omega (arith, (block-holds p.1).room, l.invariant.onward), (l.invariant.stand.0, first-stands l.invariant.stand.1 (omega (arith, c.if-n-eq0.false, l.auto.counter-end))))

pub check_flow-returns : goal.check_flow-returns
check_flow-returns t c s b j sp =
    let l = c.loop in
    let (f, sf, p) = l.invariant.spelled s b j sp in
    let (x, d, k, u, v, q) = statements-more sf (omega (arith, c.if-n-eq0.false, l.auto.counter-end)) in
    let (e, z) = statements-none v (omega (arith, c.loop-test.false)) in
    rw (p ∙ ap flow (q ∙ ap (λ d. x ∷ᵇ d) z) ∙ flow-end x) (c.check_last.ensures s x j (subst (SpellsStatement _ s l.at x) e u))

pub check_last-statement_at-line-requires : goal.check_last-statement_at-line-requires
check_last-statement_at-line-requires t c = statement-holds c.requires.1

pub check_last-overflow_add-first : goal.check_last-overflow_add-first
check_last-overflow_add-first t c = omega (arith, (statement-holds c.requires.1).room)

pub check_last-returns-then-not-has_else : goal.check_last-returns-then-not-has_else
unfolding flow_last flow
check_last-returns-then-not-has_else t c s x j sp =
    let r = after-if sp c.statement_at-line.ensures c.in-IfStatement.is c.if-not-has_else.true in
    ap Err c.new.ensures ∙ walked-err j (ap flow_last r.7.1)

pub check_last-skip_expression-block-requires : goal.check_last-skip_expression-block-requires
check_last-skip_expression-block-requires t c =
    let p = c.requires in
    (p.0, condition-stands p.1 c.statement_at-line.ensures c.in-IfStatement.is)

pub check_last-check_flow-requires : goal.check_last-check_flow-requires
check_last-check_flow-requires t c =
    let p = c.requires in
    let (on, st) = block-stands p.1 c.statement_at-line.ensures c.in-IfStatement.is (c.skip_expression-block.ensures p.0) in
    (omega (arith, (statement-holds p.1).room), (p.0, st))

pub check_last-returns-in_err-other-in-IfStatement : goal.check_last-returns-in_err-other-in-IfStatement
unfolding flow_last flow
check_last-returns-in_err-other-in-IfStatement t c s x j sp =
    let (a, b, k, m, u, v, le, r) = after-if sp c.statement_at-line.ensures c.in-IfStatement.is c.if-not-has_else.false in
    let first = c.check_flow.ensures s b m (at_row (SpellsBlock _ s) (c.skip_expression-block.ensures _ _ _ u) v) in
    let q = c.in_err-other-in-IfStatement.was in
    let same : c.from_residual.result ≡ c.check_flow.result = search rules in
    same ∙ rw (ap flow_last r.2) (both-fault (flow b) m first (flow r.0) j q)

pub check_last-check_flow-requires-in-IfStatement : goal.check_last-check_flow-requires-in-IfStatement
check_last-check_flow-requires-in-IfStatement t c =
    let p = c.requires in
    let s = p.0 in
    let (on, st) = else-stands p.1 c.statement_at-line.ensures c.in-IfStatement.is (c.skip_expression-block.ensures s) (λ b j sp. came-to (flow b) j (c.check_flow.ensures s b j sp) c.in_ok-other-in-IfStatement.was) c.if-not-has_else.false in
    (omega (arith, (statement-holds p.1).room), (s, st))

pub check_last-skip_expression-requires : goal.check_last-skip_expression-requires
check_last-skip_expression-requires t c =
    let p = c.requires in
    (p.0, below (SpellsExpression _ p.0) p.1 (after_is p.1.spells c.statement_at-line.ensures c.in-ExpressionStatement.is).1 (omega arith))

pub check_last-returns-in_ok-other-in-IfStatement : goal.check_last-returns-in_ok-other-in-IfStatement
unfolding flow_last flow
check_last-returns-in_ok-other-in-IfStatement t c s x j sp =
    let (a, b, k, m, u, v, le, r) = after-if sp c.statement_at-line.ensures c.in-IfStatement.is c.if-not-has_else.false in
    let first = c.check_flow.ensures s b m (at_row (SpellsBlock _ s) (c.skip_expression-block.ensures _ _ _ u) v) in
    let q = c.in_ok-other-in-IfStatement.was in
    rw (ap flow_last r.2) (both-pass (flow b) m first (flow r.0) j q (c.check_flow-in-IfStatement.ensures s r.0 j (at_row (SpellsBlock _ s) (came-to (flow b) m first q) r.1)))

pub check_last-returns-in-ExpressionStatement : goal.check_last-returns-in-ExpressionStatement
unfolding flow_last flow
check_last-returns-in-ExpressionStatement t c s x j sp =
    let (a, u, p) = after_is sp c.statement_at-line.ensures c.in-ExpressionStatement.is in
    walked-ok (ap flow_last p) (c.skip_expression.ensures s a j u)

pub check_last-returns-in-LocktimeStatement : goal.check_last-returns-in-LocktimeStatement
unfolding flow_last flow
check_last-returns-in-LocktimeStatement t c s x j sp =
    let line = c.statement_at-line.ensures in
    let ends : flow_last x ≡ refused NoReturn c.in-LocktimeStatement.loc = elim c.in-LocktimeStatement.is [ inl (o, v, is) ↦ ap flow_last (after_is sp line is).1 | inr is ↦ ap flow_last (after_is sp line is).2 ] in
    ap Err c.new-in-LocktimeStatement.ensures ∙ walked-err j ends

-- count_paths and the count of a statement meet their contracts. The measure is the rows left.
use Prim.Native.Nat.{ℕ, ◌-◌}
use native.Mathlib.Omega.{arith}
use mathlib.Core.List.{List}
use mathlib.Core.Path.{◌≡◌, refl, sym, ap, ◌∙◌}
use Rattle.ast.specs.Tree.{Statement}
use Rattle.rows.specs.Rows.{line_in}
use Rattle.reader.specs.Spells.{SpellsExpression, SpellsStatement, SpellsBlock, SpellsStatements}
use Rattle.rules.specs.Paths.{count_through, count}
use Rattle.nodes.proofs.Laws.{statement-holds, block-holds, below, at_row}
use Rattle.flow.proofs.Statements.{after_is, after-if, block-statements, statements-more, statements-none, says, statements-stand, first-stands, others-stand, others-after, condition-stands, block-stands, else-stands}
use Rattle.flow.proofs.Counts.{counted_is, count-on, count-stop, count-empty, count-rows}
use Rattle.flow.proofs.necessity.+count_paths_count_through.Goals as goal
use Rattle.flow.proofs.necessity.+count_paths_count_through.Goals.{count_paths-After-count_through-counted}

-- the row to which the count of any statement at this row comes
came-to : (t : ℕ) (c : count_paths-After-count_through-counted t) (s : List ℕ) (x : Statement) (k : ℕ) → SpellsStatement (line_in c.args.table.now) s c.loop-left.at x k → c.count_through-counted.result.next ≡ k
came-to t c s x k u = ap (λ r. r.next) (c.count_through-counted.ensures s x k u)

pub count_paths-block_at-n-requires : goal.count_paths-block_at-n-requires
count_paths-block_at-n-requires t c = block-holds c.requires.1

pub count_paths-overflow_add-at : goal.count_paths-overflow_add-at
count_paths-overflow_add-at t c = omega (arith, (block-holds c.requires.1).room)

pub count_paths-loop-left-init : goal.count_paths-loop-left-init
count_paths-loop-left-init t c =
    let p = c.requires in
    record {
      onward = omega arith;
      stand = (p.0, statements-stand p.1 c.block_at-n.ensures);
      spelled = λ s b j sp. (b, block-statements sp c.block_at-n.ensures, refl);
    }

pub count_paths-statement_at-line-requires : goal.count_paths-statement_at-line-requires
count_paths-statement_at-line-requires t c = statement-holds (first-stands c.loop-left.invariant.stand.1 c.loop-left-test.true)

pub count_paths-count_through-counted-requires : goal.count_paths-count_through-counted-requires
count_paths-count_through-counted-requires t c =
    let l = c.loop-left in
    let p = c.requires in
    (omega (arith, (block-holds p.1).room, l.invariant.onward), (l.invariant.stand.0, first-stands l.invariant.stand.1 c.loop-left-test.true))

pub count_paths-skip_statements-next-requires : goal.count_paths-skip_statements-next-requires
count_paths-skip_statements-next-requires t c =
    let i = c.loop-left.invariant.stand in
    (i.0, others-stand i.1 c.loop-left-test.true (came-to t (goal.at.count_paths-skip_statements-next-requires t c).After-count_through-counted i.0))

pub count_paths-returns-then-not-goes_on : goal.count_paths-returns-then-not-goes_on
count_paths-returns-then-not-goes_on t c s b j sp =
    let l = c.loop-left in
    let (f, sf, p) = l.invariant.spelled s b j sp in
    let (x, d, k, u, v, q) = statements-more sf c.loop-left-test.true in
    let stop = (says u c.statement_at-line.ensures).0 ∙ sym c.goes_on.ensures ∙ c.if-not-goes_on.true in
    counted_is (ap (λ r. r.count) (c.count_through-counted.ensures s x k u) ∙ sym (p ∙ ap count q ∙ count-stop x d stop)) (c.skip_statements-next.ensures s d j (at_row (SpellsStatements _ s (l.left - 1)) (came-to t (goal.at.count_paths-returns-then-not-goes_on t c).After-count_through-counted s x k u) v))

pub count_paths-loop-left-preserved : goal.count_paths-loop-left-preserved
count_paths-loop-left-preserved t c =
    let l = c.loop-left in
    let (s, st) = l.invariant.stand in
    let h = c.loop-left-test.true in
    record {
      onward = omega (arith, l.invariant.onward, others-after st h (came-to t (goal.at.count_paths-loop-left-preserved t c).After-count_through-counted s));
      stand = (s, others-stand st h (came-to t (goal.at.count_paths-loop-left-preserved t c).After-count_through-counted s));
      spelled = λ s b j sp.
          let (f, sf, p) = l.invariant.spelled s b j sp in
          let (x, d, k, u, v, q) = statements-more sf h in
          let goes = (says u c.statement_at-line.ensures).0 ∙ sym c.goes_on.ensures ∙ c.if-not-goes_on.false in
          (d, at_row (SpellsStatements _ s (l.left - 1)) (came-to t (goal.at.count_paths-loop-left-preserved t c).After-count_through-counted s x k u) v, p ∙ ap count q ∙ count-on x d goes);
    }

pub count_paths-returns : goal.count_paths-returns
count_paths-returns t c s b j sp =
    let (f, sf, p) = c.loop-left.invariant.spelled s b j sp in
    let (e, z) = statements-none sf c.loop-left-test.false in
    counted_is (sym (p ∙ ap count z ∙ count-empty)) e

pub count_through-statement_at-line-requires : goal.count_through-statement_at-line-requires
count_through-statement_at-line-requires t c = statement-holds c.requires.1

pub count_through-overflow_add-first : goal.count_through-overflow_add-first
count_through-overflow_add-first t c = omega (arith, (statement-holds c.requires.1).room)

pub count_through-skip_expression-block-requires : goal.count_through-skip_expression-block-requires
count_through-skip_expression-block-requires t c =
    let p = c.requires in
    (p.0, condition-stands p.1 c.statement_at-line.ensures c.in-IfStatement.is)

pub count_through-count_paths-one-requires : goal.count_through-count_paths-one-requires
count_through-count_paths-one-requires t c =
    let p = c.requires in
    let (on, st) = block-stands p.1 c.statement_at-line.ensures c.in-IfStatement.is (c.skip_expression-block.ensures p.0) in
    (omega (arith, (statement-holds p.1).room), (p.0, st))

pub count_through-returns-then-not-has_else : goal.count_through-returns-then-not-has_else
unfolding count_through count
count_through-returns-then-not-has_else t c s x j sp =
    let (a, b, k, m, u, v, le, r) = after-if sp c.statement_at-line.ensures c.in-IfStatement.is c.if-not-has_else.true in
    let one = c.count_paths-one.ensures s b m (at_row (SpellsBlock _ s) (c.skip_expression-block.ensures _ _ _ u) v) in
    one ∙ counted_is (sym (ap (λ x. count_through x 0) r.1)) r.0

pub count_through-count_paths-other-requires : goal.count_through-count_paths-other-requires
count_through-count_paths-other-requires t c =
    let p = c.requires in
    let s = p.0 in
    let (on, st) = else-stands p.1 c.statement_at-line.ensures c.in-IfStatement.is (c.skip_expression-block.ensures s) (λ b j sp. ap (λ r. r.next) (c.count_paths-one.ensures s b j sp)) c.if-not-has_else.false in
    (omega (arith, (statement-holds p.1).room), (s, st))

pub count_through-overflow_add-result : goal.count_through-overflow_add-result
count_through-overflow_add-result t c =
    let p = c.requires in
    let s = p.0 in
    let st = p.1 in
    let (a, b, k, m, u, v, le, r) = after-if st.spells c.statement_at-line.ensures c.in-IfStatement.is c.if-not-has_else.false in
    let one = c.count_paths-one.ensures s b m (at_row (SpellsBlock _ s) (c.skip_expression-block.ensures _ _ _ u) v) in
    let other = c.count_paths-other.ensures s r.0 _ (at_row (SpellsBlock _ s) (ap (λ r. r.next) one) r.1) in
    omega (arith, ap (λ r. r.count) one, ap (λ r. r.count) other, count-rows _ s v, count-rows _ s r.1, st.within, st.rows.few)

pub count_through-skip_expression-requires : goal.count_through-skip_expression-requires
count_through-skip_expression-requires t c =
    let p = c.requires in
    (p.0, below (SpellsExpression _ p.0) p.1 (after_is p.1.spells c.statement_at-line.ensures c.in-VerifyStatement.is).1 (omega arith))

pub count_through-skip_expression-requires-in-ExpressionStatement : goal.count_through-skip_expression-requires-in-ExpressionStatement
count_through-skip_expression-requires-in-ExpressionStatement t c =
    let p = c.requires in
    (p.0, below (SpellsExpression _ p.0) p.1 (after_is p.1.spells c.statement_at-line.ensures c.in-ExpressionStatement.is).1 (omega arith))

pub count_through-returns-else-not-has_else : goal.count_through-returns-else-not-has_else
unfolding count_through count
count_through-returns-else-not-has_else t c s x j sp =
    let (a, b, k, m, u, v, le, r) = after-if sp c.statement_at-line.ensures c.in-IfStatement.is c.if-not-has_else.false in
    let one = c.count_paths-one.ensures s b m (at_row (SpellsBlock _ s) (c.skip_expression-block.ensures _ _ _ u) v) in
    let other = c.count_paths-other.ensures s r.0 j (at_row (SpellsBlock _ s) (ap (λ r. r.next) one) r.1) in
    counted_is (omega (arith, ap (λ r. r.count) one, ap (λ r. r.count) other, ap (λ x. count_through x 0) r.2)) (ap (λ r. r.next) other)

pub count_through-returns-in-LocktimeStatement : goal.count_through-returns-in-LocktimeStatement
unfolding count_through count
count_through-returns-in-LocktimeStatement t c s x j sp =
    let (n, p) = after_is sp c.statement_at-line.ensures c.in-LocktimeStatement.is in
    counted_is (sym (ap (λ x. count_through x 0) p)) n

pub count_through-returns-in-VerifyStatement : goal.count_through-returns-in-VerifyStatement
unfolding count_through count
count_through-returns-in-VerifyStatement t c s x j sp =
    let (a, u, p) = after_is sp c.statement_at-line.ensures c.in-VerifyStatement.is in
    counted_is (sym (ap (λ x. count_through x 0) p)) (c.skip_expression.ensures s a j u)

pub count_through-returns-in-ExpressionStatement : goal.count_through-returns-in-ExpressionStatement
unfolding count_through count
count_through-returns-in-ExpressionStatement t c s x j sp =
    let (a, u, p) = after_is sp c.statement_at-line.ensures c.in-ExpressionStatement.is in
    counted_is (sym (ap (λ x. count_through x 0) p)) (c.skip_expression-in-ExpressionStatement.ensures s a j u)

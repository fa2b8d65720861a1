-- The walk over the names of expressions and factors meets its contracts. The measure is the rows left; the factors of a multi-signature begin at
-- the row of the first.
use Prim.Native.Nat.{ℕ, ◌+◌, ◌-◌}
use native.Mathlib.Omega.{arith}
use mathlib.Core.Path.{◌≡◌, refl, ap, subst}
use Rattle.rows.specs.Rows.{line_in}
use Rattle.ast.specs.declared.Location.{Location}
use Rattle.ast.specs.Tree.{Expression}
use Rattle.text.specs.declared.Place.{Place}
use Rattle.listing.specs.declared.ExpressionLine.{ExpressionLine}
use Rattle.listing.specs.declared.Line.{Line}
use Rattle.reader.specs.Spells.{SpellsExpression}
use Rattle.reader.proofs.Agree.{expression-on}
use Rattle.nodes.specs.Stands.{ExpressionAt}
use Rattle.usage.specs.declared.Parts.{Parts}
use Rattle.usage.specs.declared.Parts.TheVariants.{Named}
use Rattle.paths.specs.Path.{table_of}
use Rattle.usage.specs.Walk.{SpellsExpressions, PartsAre}
use Rattle.nodes.proofs.Laws.{expression-holds, factor-holds, below}
use Rattle.paths.proofs.Walks.{same-items}
use Rattle.usage.proofs.Walks.{at_next, to-is, to-pass}
use Rattle.usage.proofs.Trees.{factor-parts, factors-series, expressions-series, rest_all, rest-done, rest-first, rest-fault, rest_more, rest-on, rest-few, rest_below, named-walk, named-inside, signed-walk, signed-stands}
use Rattle.usage.proofs.+check_factors_check_inner_check_variables.Goals as goal
use Rattle.usage.proofs.+check_factors_check_inner_check_variables.Goals.{check_variables-After-parts_at}

-- what was read of the row at hand
parts-of : (t : ℕ) (c : check_variables-After-parts_at t) (o : Parts) → c.parts_at.result ≡ o → let a = c.args in (e : Expression) (j : ℕ) → SpellsExpression (line_in a.rows.now.table.now) a.rows.now.listing.now c.loop-due.used.next e j → PartsAre (line_in a.rows.now.table.now) a.rows.now.listing.now c.loop-due.used.next e j o
parts-of t c o h e j sp =
    let a = c.args in
    subst (PartsAre (line_in a.rows.now.table.now) a.rows.now.listing.now c.loop-due.used.next e j) h (c.parts_at.ensures a.rows.now.listing.now e j sp)

-- the expression at hand
at-hand : (t : ℕ) (c : check_variables-After-parts_at t) → let a = c.args in ExpressionAt a.rows.now.listing.now a.rows.now.table.now c.loop-due.used.next
at-hand t c =
    let a = c.args in
    rest-first (expressions-series (line_in a.rows.now.table.now) a.rows.now.listing.now) c.loop-due.invariant c.loop-due-test.true

-- the line of a variable at hand
named : (t : ℕ) (c : check_variables-After-parts_at t) (w : Location) (x : Place) → c.parts_at.result ≡ Named w x → let a = c.args in line_in a.rows.now.table.now c.loop-due.used.next ≡ Line.Expression (ExpressionLine.Variable w x)
named t c w x h = let st = at-hand t c in parts-of t c (Named w x) h st.tree st.next st.spells

pub check_factors-loop-init : goal.check_factors-loop-init
check_factors-loop-init t c = let e : c.args.n - 0 ≡ c.args.n = omega arith in rw e (rest_all c.requires.1 c.requires.0)

pub check_factors-check_inner-requires : goal.check_factors-check_inner-requires
check_factors-check_inner-requires t c =
    let r = c.loop.invariant in
    (omega (arith, r.on), (rest-first (factors-series (line_in c.args.rows.now.table.now) c.args.rows.now.listing.now) r (omega arith), r.sound))

pub check_factors-returns-in_err-used : goal.check_factors-returns-in_err-used
check_factors-returns-in_err-used t c = rest-fault (factors-series (line_in c.args.rows.now.table.now) c.args.rows.now.listing.now) c.loop.invariant (omega arith) c.check_inner.ensures c.in_err-used.was c.from_residual.ensures.1

pub check_factors-loop-preserved : goal.check_factors-loop-preserved
check_factors-loop-preserved t c = let e : c.args.n - (c.loop.counter + 1) ≡ c.args.n - c.loop.counter - 1 = omega arith in rw e (rest_more (factors-series (line_in c.args.rows.now.table.now) c.args.rows.now.listing.now) c.loop.invariant (omega arith) c.check_inner.ensures c.in_ok-used.was)

pub check_factors-returns : goal.check_factors-returns
check_factors-returns t c = rest-done (factors-series (line_in c.args.rows.now.table.now) c.args.rows.now.listing.now) c.loop.invariant (omega arith)

pub check_inner-factor_at-requires : goal.check_inner-factor_at-requires
check_inner-factor_at-requires t c = factor-holds c.requires.0

pub check_inner-overflow_add-i : goal.check_inner-overflow_add-i
check_inner-overflow_add-i t c = omega (arith, (factor-holds c.requires.0).room)

pub check_inner-check_variables-requires : goal.check_inner-check_variables-requires
check_inner-check_variables-requires t c =
    let lis = c.args.rows.now.listing.now in
    let tab = c.args.rows.now.table.now in
    let st = c.requires.0 in
    let p = factor-parts (line_in tab) lis st.spells c.factor_at.ensures c.in-SingleSigFactor.is in
    (omega (arith, (factor-holds st).room), (below (SpellsExpressions (line_in tab) lis 2) st {b = p.0} p.1 (omega arith), c.requires.1))

pub check_inner-returns-in-SingleSigFactor : goal.check_inner-returns-in-SingleSigFactor
check_inner-returns-in-SingleSigFactor t c f j sp =
    let lis = c.args.rows.now.listing.now in
    let tab = c.args.rows.now.table.now in
    let p = factor-parts (line_in tab) lis sp c.factor_at.ensures c.in-SingleSigFactor.is in
    to-is (c.check_variables.ensures p.0 j p.1) (p.3 (table_of lis tab c.args.path))

pub check_inner-returns-in-MultiSigFactor : goal.check_inner-returns-in-MultiSigFactor
check_inner-returns-in-MultiSigFactor t c f j sp =
    let lis = c.args.rows.now.listing.now in
    let tab = c.args.rows.now.table.now in
    let p = factor-parts (line_in tab) lis sp c.factor_at.ensures c.in-MultiSigFactor.is in
    to-pass refl (p.3 (table_of lis tab c.args.path)) (c.skip_factor.ensures lis f j sp) c.requires.1 (same-items c.args.path)

pub check_variables-parts_at-requires : goal.check_variables-parts_at-requires
check_variables-parts_at-requires t c = (c.args.rows.now.listing.now, rest-first (expressions-series (line_in c.args.rows.now.table.now) c.args.rows.now.listing.now) c.loop-due.invariant c.loop-due-test.true)

pub check_variables-overflow_add-due : goal.check_variables-overflow_add-due
check_variables-overflow_add-due t c =
    let r = rest_below c.loop-due.invariant c.loop-due-test.true _ _ (parts-of t (goal.at.check_variables-overflow_add-due t c).After-parts_at _ c.in-Expressions.is) in
    omega (arith, rest-few r)

pub check_variables-loop-due-smaller-in-Expressions : goal.check_variables-loop-due-smaller-in-Expressions
check_variables-loop-due-smaller-in-Expressions t c =
    let st = at-hand t (goal.at.check_variables-loop-due-smaller-in-Expressions t c).After-parts_at in
    let b = parts-of t (goal.at.check_variables-loop-due-smaller-in-Expressions t c).After-parts_at _ c.in-Expressions.is st.tree st.next st.spells in
    omega (arith, (expression-holds st).room, b.0)

pub check_variables-loop-due-preserved-in-Expressions : goal.check_variables-loop-due-preserved-in-Expressions
check_variables-loop-due-preserved-in-Expressions t c = rest_below c.loop-due.invariant c.loop-due-test.true _ _ (parts-of t (goal.at.check_variables-loop-due-preserved-in-Expressions t c).After-parts_at _ c.in-Expressions.is)

pub check_variables-take-requires : goal.check_variables-take-requires
check_variables-take-requires t c =
    let a = c.args in
    let st = at-hand t (goal.at.check_variables-take-requires t c).After-parts_at in
    (named-inside a.rows.now.listing.now a.rows.now.table.now c.loop-due.used.next _ _ (named t (goal.at.check_variables-take-requires t c).After-parts_at _ _ c.in-Named.is) st, c.loop-due.invariant.sound, omega (arith, expression-on (line_in a.rows.now.table.now) a.rows.now.listing.now st.spells, st.within, st.rows.few))

pub check_variables-returns-in_err-used-in-Named : goal.check_variables-returns-in_err-used-in-Named
check_variables-returns-in_err-used-in-Named t c = rest-fault (expressions-series (line_in c.args.rows.now.table.now) c.args.rows.now.listing.now) c.loop-due.invariant c.loop-due-test.true (named-walk c.args.rows.now.listing.now c.args.rows.now.table.now c.loop-due.used.next _ _ (named t (goal.at.check_variables-returns-in_err-used-in-Named t c).After-parts_at _ _ c.in-Named.is) c.take.ensures) (ap (at_next (c.loop-due.used.next + 1)) c.in_err-used-in-Named.was) c.from_residual.ensures.1

pub check_variables-overflow_add-used : goal.check_variables-overflow_add-used
check_variables-overflow_add-used t c = let st = at-hand t (goal.at.check_variables-overflow_add-used t c).After-parts_at in omega (arith, (expression-holds st).room)

pub check_variables-loop-due-smaller-in-Named : goal.check_variables-loop-due-smaller-in-Named
check_variables-loop-due-smaller-in-Named t c = let st = at-hand t (goal.at.check_variables-loop-due-smaller-in-Named t c).After-parts_at in omega (arith, (expression-holds st).room)

pub check_variables-loop-due-preserved-in-Named : goal.check_variables-loop-due-preserved-in-Named
check_variables-loop-due-preserved-in-Named t c = rest_more (expressions-series (line_in c.args.rows.now.table.now) c.args.rows.now.listing.now) c.loop-due.invariant c.loop-due-test.true (named-walk c.args.rows.now.listing.now c.args.rows.now.table.now c.loop-due.used.next _ _ (named t (goal.at.check_variables-loop-due-preserved-in-Named t c).After-parts_at _ _ c.in-Named.is) c.take.ensures) (ap (at_next (c.loop-due.used.next + 1)) c.in_ok-used-in-Named.was)

pub check_variables-check_factors-requires : goal.check_variables-check_factors-requires
check_variables-check_factors-requires t c =
    let st = at-hand t (goal.at.check_variables-check_factors-requires t c).After-parts_at in
    let f = signed-stands c.args.rows.now.listing.now c.args.rows.now.table.now c.loop-due.used.next _ _ (parts-of t (goal.at.check_variables-check_factors-requires t c).After-parts_at _ c.in-Factors.is) st in
    (omega (arith, c.loop-due.invariant.on, (expression-holds st).room, f.0), (f.1, c.loop-due.invariant.sound))

pub check_variables-returns-in_err-used-in-Factors : goal.check_variables-returns-in_err-used-in-Factors
check_variables-returns-in_err-used-in-Factors t c = rest-fault (expressions-series (line_in c.args.rows.now.table.now) c.args.rows.now.listing.now) c.loop-due.invariant c.loop-due-test.true (signed-walk c.args.rows.now.listing.now c.args.rows.now.table.now c.loop-due.used.next _ _ (parts-of t (goal.at.check_variables-returns-in_err-used-in-Factors t c).After-parts_at _ c.in-Factors.is) c.check_factors.ensures) c.in_err-used-in-Factors.was c.from_residual-in_err-used-in-Factors.ensures.1

pub check_variables-loop-due-smaller : goal.check_variables-loop-due-smaller
check_variables-loop-due-smaller t c =
    let st = at-hand t (goal.at.check_variables-loop-due-smaller t c).After-parts_at in
    omega (arith, (expression-holds st).room, rest-on (expressions-series (line_in c.args.rows.now.table.now) c.args.rows.now.listing.now) c.loop-due.invariant c.loop-due-test.true (signed-walk c.args.rows.now.listing.now c.args.rows.now.table.now c.loop-due.used.next _ _ (parts-of t (goal.at.check_variables-loop-due-smaller t c).After-parts_at _ c.in-Factors.is) c.check_factors.ensures) c.in_ok-used-in-Factors.was)

pub check_variables-loop-due-preserved : goal.check_variables-loop-due-preserved
check_variables-loop-due-preserved t c = rest_more (expressions-series (line_in c.args.rows.now.table.now) c.args.rows.now.listing.now) c.loop-due.invariant c.loop-due-test.true (signed-walk c.args.rows.now.listing.now c.args.rows.now.table.now c.loop-due.used.next _ _ (parts-of t (goal.at.check_variables-loop-due-preserved t c).After-parts_at _ c.in-Factors.is) c.check_factors.ensures) c.in_ok-used-in-Factors.was

pub check_variables-returns : goal.check_variables-returns
check_variables-returns t c = rest-done (expressions-series (line_in c.args.rows.now.table.now) c.args.rows.now.listing.now) c.loop-due.invariant c.loop-due-test.false

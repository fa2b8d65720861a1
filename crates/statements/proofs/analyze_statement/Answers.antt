use Rattle.std.proofs.Common.{◌+◌, arith, sym, ap, ◌∙◌}
use mathlib.Core.Logic.{inl, inr}
use Rattle.std.specs.Prelude.{Ok}
use Rattle.listing.specs.declared.Line.{Line}
use Rattle.rows.specs.Rows.{line_in}
use Rattle.reader.specs.Spells.{SpellsExpression}
use Rattle.reader.proofs.Agree.{statement-on}
use Rattle.nodes.proofs.Laws.{below, statement-is, statement-holds}
use Rattle.statements.proofs.Walking.{at_next, told-wait, told-refused, told-verify, told-return}
use Rattle.statements.proofs.analyze_statement.Goals as goal

pub statement_at-requires : goal.statement_at-requires
statement_at-requires c = statement-holds c.requires.0

pub overflow_add-i : goal.overflow_add-i
overflow_add-i c =
    let st = c.requires.0 in
    omega (arith, statement-on _ _ st.spells, st.within, st.rows.few)

pub expression_step-requires : goal.expression_step-requires
expression_step-requires c =
    let st = c.requires.0 in
    let R = SpellsExpression (line_in c.args.rows.now.table.now) c.args.rows.now.listing.now in
    elim c.in-VerifyStatement.is [
      | inl is ↦ let f = statement-is st.spells (c.statement_at.ensures ∙ ap Line.Statement is) in (below R st (at_next f.1) (omega arith), c.requires.1, c.requires.2)
      | inr is ↦ let f = statement-is st.spells (c.statement_at.ensures ∙ ap Line.Statement is) in (below R st (at_next f.1) (omega arith), c.requires.1, c.requires.2)
    ]

pub returns-in_err-check_wait-in-LocktimeStatement : goal.returns-in_err-check_wait-in-LocktimeStatement
returns-in_err-check_wait-in-LocktimeStatement c = λ x j sp.
    let a = c.args in
    let f = statement-is sp (c.statement_at.ensures ∙ ap Line.Statement c.in-LocktimeStatement.is) in
    told-refused a.rows.now.listing.now a.rows.now.table.now a.d a.branch x a.i j _ f.0 _ (sym c.check_wait.ensures ∙ c.in_err-check_wait-in-LocktimeStatement.was) c.from_residual.ensures.1

pub returns-in_ok-check_wait-in-LocktimeStatement : goal.returns-in_ok-check_wait-in-LocktimeStatement
returns-in_ok-check_wait-in-LocktimeStatement c = λ x j sp.
    let a = c.args in
    let f = statement-is sp (c.statement_at.ensures ∙ ap Line.Statement c.in-LocktimeStatement.is) in
    told-wait a.rows.now.listing.now a.rows.now.table.now a.d a.branch x a.i j _ f.0 f.1 (sym c.check_wait.ensures ∙ c.in_ok-check_wait-in-LocktimeStatement.was)

pub returns-in-VerifyStatement : goal.returns-in-VerifyStatement
returns-in-VerifyStatement c = λ x j sp.
    let a = c.args in
    elim c.in-VerifyStatement.is [
      | inl is ↦
          let f = statement-is sp (c.statement_at.ensures ∙ ap Line.Statement is) in
          told-verify a.rows.now.listing.now a.rows.now.table.now a.d a.branch x a.i j _ f.1 c.expression_step.result (c.expression_step.ensures _ j (at_next f.1)) f.2
      | inr is ↦
          let f = statement-is sp (c.statement_at.ensures ∙ ap Line.Statement is) in
          told-return a.rows.now.listing.now a.rows.now.table.now a.d a.branch x a.i j _ f.1 c.expression_step.result (c.expression_step.ensures _ j (at_next f.1)) f.2
    ]

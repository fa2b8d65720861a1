use borrow.Enum.Refused.{opened}
use native.Mathlib.Omega.{arith}
use Rattle.rows.specs.Rows.{line_in}
use Rattle.reader.specs.Spells.{SpellsFactor}
use Rattle.nodes.proofs.Laws.{expression-holds, below}
use Rattle.usage.proofs.Trees.{parts_are, parts-counted, signed_parts}
use Rattle.usage.proofs.parts_at.Goals as goal

pub expression_at-line-requires : goal.expression_at-line-requires
expression_at-line-requires c = expression-holds c.requires.1

pub overflow_add-first : goal.overflow_add-first
overflow_add-first c = omega (arith, (expression-holds c.requires.1).room)

pub signatures_at-requires : goal.signatures_at-requires
signatures_at-requires c =
    let st = c.requires.1 in
    let p = parts_are (line_in c.args.table.now) c.requires.0 st.spells c.expression_at-line.ensures c.in-CheckSigExpression.is in
    (c.requires.0, below (SpellsFactor (line_in c.args.table.now) c.requires.0) st p.1 (omega arith))

pub returns-in-CheckSigExpression : goal.returns-in-CheckSigExpression
returns-in-CheckSigExpression c s e j sp =
    let p = parts_are (line_in c.args.table.now) s sp c.expression_at-line.ensures c.in-CheckSigExpression.is in
    signed_parts (line_in c.args.table.now) s c.args.i j e p.0 p.2 c.signatures_at.result (c.signatures_at.ensures s p.0 j p.1)

pub returns-in_default : goal.returns-in_default
returns-in_default c s e j sp =
    parts-counted (line_in c.args.table.now) s c.expression_at-line.result (opened c.in_default.in_default-own.keys3) sp c.expression_at-line.ensures c.operand_count.ensures

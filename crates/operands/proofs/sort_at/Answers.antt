use Rattle.std.proofs.Common.{rules}
use Rattle.ast.specs.Tree.{from_top}
use Rattle.nodes.proofs.Laws.{expression-holds}
use Rattle.operands.proofs.Laws.{name-under}
use Rattle.operands.proofs.Leaves.{unary_not, unary-other, sorted-as}
use Rattle.operands.proofs.sort_at.Goals as goal

pub expression_at-requires : goal.expression_at-requires
expression_at-requires c = expression-holds c.requires.node

pub type_of-requires : goal.type_of-requires
type_of-requires c = name-under c.requires c.in-Variable.ensures

pub returns-in-Variable : goal.returns-in-Variable
returns-in-Variable c e j d sp q = sorted-as _ _ (from_top d) sp c.in-Variable.ensures (c.type_of.ensures d q)

pub returns-in-StringLiteral : goal.returns-in-StringLiteral
returns-in-StringLiteral c e j d sp q = sorted-as _ _ (from_top d) sp c.expression_at.ensures (search rules)

pub returns-in-BooleanLiteral : goal.returns-in-BooleanLiteral
returns-in-BooleanLiteral c e j d sp q = sorted-as _ _ (from_top d) sp c.expression_at.ensures (search rules)

pub returns-in-NumberLiteral : goal.returns-in-NumberLiteral
returns-in-NumberLiteral c e j d sp q = sorted-as _ _ (from_top d) sp c.expression_at.ensures (search rules)

pub returns-in-Not : goal.returns-in-Not
returns-in-Not c e j d sp q = sorted-as _ _ (from_top d) sp c.in-UnaryMathExpression.ensures (let n = unary_not c.in-Not.is in search rules)

pub returns-in_default : goal.returns-in_default
returns-in_default c e j d sp q = sorted-as _ _ (from_top d) sp c.in-UnaryMathExpression.ensures (let n = unary-other _ c.in_default.not-Not in search rules)

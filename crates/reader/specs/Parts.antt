-- The parts of a line: a node is a line and its parts, the nodes that follow it. How many, and of which kinds.
use Rattle.std.specs.Prelude.{ℕ, zero, suc, true, false}
use Rattle.reader.specs.Ast.{StatementLine, ExpressionLine, FactorLine, Line}

-- the kinds of line, by where they may stand, in such an order that a part's kind is below its line's or stands a level deeper
abbrev pub expression_kind : ℕ
expression_kind = 0

abbrev pub factor_kind : ℕ
factor_kind = 1

abbrev pub block_kind : ℕ
block_kind = 2

abbrev pub statement_kind : ℕ
statement_kind = 3

abbrev pub item_kind : ℕ
item_kind = 4

abbrev pub declaration_kind : ℕ
declaration_kind = 5

abbrev pub contract_kind : ℕ
contract_kind = 6

abbrev pub kind_of : Line → ℕ
kind_of (Line.Contract g n) = contract_kind
kind_of (Line.Declaration n) = declaration_kind
kind_of (Line.StackParam w t x) = item_kind
kind_of (Line.Block n) = block_kind
kind_of (Line.Statement l) = statement_kind
kind_of (Line.Expression l) = expression_kind
kind_of (Line.Factor l) = factor_kind

-- how many parts a line has; a T line, its declarations
abbrev pub count_of : Line → ℕ
count_of (Line.Contract g n) = n
count_of (Line.Declaration n) = n
count_of (Line.StackParam w t x) = 0
count_of (Line.Block n) = n
count_of (Line.Statement (StatementLine.IfStatement w false)) = 2
count_of (Line.Statement (StatementLine.IfStatement w true)) = 3
count_of (Line.Statement (StatementLine.LocktimeStatement w o v)) = 0
count_of (Line.Statement (StatementLine.VerifyStatement w)) = 1
count_of (Line.Statement (StatementLine.ExpressionStatement w)) = 1
count_of (Line.Expression (ExpressionLine.Variable w x)) = 0
count_of (Line.Expression (ExpressionLine.NumberLiteral w v)) = 0
count_of (Line.Expression (ExpressionLine.BooleanLiteral w b)) = 0
count_of (Line.Expression (ExpressionLine.StringLiteral w x m)) = 0
count_of (Line.Expression (ExpressionLine.LogicalExpression w o)) = 2
count_of (Line.Expression (ExpressionLine.CompareExpression w o)) = 2
count_of (Line.Expression (ExpressionLine.BinaryMathExpression w o)) = 2
count_of (Line.Expression (ExpressionLine.UnaryMathExpression w o)) = 1
count_of (Line.Expression (ExpressionLine.UnaryCryptoExpression w o)) = 1
count_of (Line.Expression (ExpressionLine.ByteExpression w)) = 1
count_of (Line.Expression (ExpressionLine.CheckSigExpression w)) = 1
count_of (Line.Factor (FactorLine.SingleSigFactor w)) = 2
count_of (Line.Factor (FactorLine.MultiSigFactor w m n)) = n

-- the kinds of its parts: of a statement, the condition and then blocks
abbrev pub statement_part : ℕ → ℕ
statement_part zero = expression_kind
statement_part (suc k) = block_kind

abbrev pub expression_part : ExpressionLine → ℕ
expression_part (ExpressionLine.Variable w x) = expression_kind
expression_part (ExpressionLine.NumberLiteral w v) = expression_kind
expression_part (ExpressionLine.BooleanLiteral w b) = expression_kind
expression_part (ExpressionLine.StringLiteral w x m) = expression_kind
expression_part (ExpressionLine.LogicalExpression w o) = expression_kind
expression_part (ExpressionLine.CompareExpression w o) = expression_kind
expression_part (ExpressionLine.BinaryMathExpression w o) = expression_kind
expression_part (ExpressionLine.UnaryMathExpression w o) = expression_kind
expression_part (ExpressionLine.UnaryCryptoExpression w o) = expression_kind
expression_part (ExpressionLine.ByteExpression w) = expression_kind
expression_part (ExpressionLine.CheckSigExpression w) = factor_kind

abbrev pub factor_part : FactorLine → ℕ
factor_part (FactorLine.SingleSigFactor w) = expression_kind
factor_part (FactorLine.MultiSigFactor w m n) = factor_kind

-- the kind of the part numbered k, from 0
abbrev pub part_kind : Line → ℕ → ℕ
part_kind (Line.Contract g n) k = declaration_kind
part_kind (Line.Declaration n) k = item_kind
part_kind (Line.StackParam w t x) k = expression_kind
part_kind (Line.Block n) k = statement_kind
part_kind (Line.Statement l) k = statement_part k
part_kind (Line.Expression l) k = expression_part l
part_kind (Line.Factor l) k = factor_part l

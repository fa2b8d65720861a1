use Rattle.std.proofs.Common.{[], ◌∷◌, true, false, refl, sym, ◌∙◌}
use Rattle.ast.specs.declared.BinaryLogicalOp.TheVariants.{BoolAnd}
use Rattle.ast.specs.declared.BinaryCompareOp.TheVariants.{NumNotEqual}
use Rattle.ast.specs.declared.BinaryMathOp.TheVariants.{Min}
use Rattle.ast.specs.declared.UnaryMathOp.TheVariants.{Not}
use Rattle.ast.specs.declared.UnaryCryptoOp.TheVariants.{Ripemd160}
use Rattle.ast.specs.Numbers.{types, logical_ops, compare_ops, math_ops, unary_ops, crypto_ops, locktime_ops, logical_number, compare_number, math_number, unary_number, crypto_number}
use Rattle.listing.specs.declared.Line.{Line}
use Rattle.listing.specs.declared.StatementLine.{StatementLine}
use Rattle.listing.specs.declared.ExpressionLine.{ExpressionLine}
use Rattle.listing.specs.declared.FactorLine.{FactorLine}
use Rattle.text.specs.Text.{◌>>=◌, ◌<∘>◌, yield, word, choice, bit, signed, name, literal}
use Rattle.listing.specs.Forms.{with, with₂, fields_of}
use Rattle.rows.specs.Rows.{bit_number, statement_row, expression_row, factor_row, row_of}
use Rattle.forms.specs.Rowed.{both, item_fields, wait_fields, number_fields, name_fields, literal_fields, multi_fields}
use Rattle.lines.proofs.Located.{bare, mapped, operator, no_form, letter_row}
use Rattle.lines.proofs.fields_row.Goals as goal

pub returns-in_default : goal.returns-in_default
returns-in_default c d h =
    let other = c.requires.located in
    sym (no_form c.args.letter d other.0 other.1 other.2 c.in_default.in_default-own.rest)

pub returns-in-80 : goal.returns-in-80
unfolding fields_of with₂ both item_fields
returns-in-80 c d h = letter_row c.args.letter 80 d c.in-80.is (c.item_row.ensures ∙ sym (bare d c.args.w c.args.c h (λ w. (choice types) >>= λ a. name >>= λ b. yield (Line.StackParam w a b))))

pub returns-in-73 : goal.returns-in-73
unfolding fields_of bit statement_row row_of with
returns-in-73 c d h = letter_row c.args.letter 73 d c.in-73.is (operator d c.args.w c.args.c h Line.Statement StatementLine.IfStatement bit_number (false ∷ true ∷ []) (refl, (refl, tt)) false 73 (λ b. refl) c.operator_row.ensures)

pub returns-in-76 : goal.returns-in-76
unfolding fields_of with₂ both wait_fields
returns-in-76 c d h = letter_row c.args.letter 76 d c.in-76.is (c.wait_row.ensures ∙ sym (mapped d c.args.w c.args.c h Line.Statement (λ w. (choice locktime_ops) >>= λ a. signed >>= λ b. yield (StatementLine.LocktimeStatement w a b))))

pub returns-in-86 : goal.returns-in-86
unfolding fields_of statement_row row_of ◌<∘>◌ ◌>>=◌ yield
returns-in-86 c d h = letter_row c.args.letter 86 d c.in-86.is (c.plain_row.ensures _ refl ∙ sym (mapped d c.args.w c.args.c h Line.Statement (λ w. yield (StatementLine.VerifyStatement w))))

pub returns-in-69 : goal.returns-in-69
unfolding fields_of statement_row row_of ◌<∘>◌ ◌>>=◌ yield
returns-in-69 c d h = letter_row c.args.letter 69 d c.in-69.is (c.plain_row-in-69.ensures _ refl ∙ sym (mapped d c.args.w c.args.c h Line.Statement (λ w. yield (StatementLine.ExpressionStatement w))))

pub returns-in-118 : goal.returns-in-118
unfolding fields_of with ◌<∘>◌ name_fields
returns-in-118 c d h = letter_row c.args.letter 118 d c.in-118.is (c.name_row.ensures ∙ sym (mapped d c.args.w c.args.c h Line.Expression (λ w. name >>= λ a. yield (ExpressionLine.Variable w a))))

pub returns-in-110 : goal.returns-in-110
unfolding fields_of with ◌<∘>◌ number_fields
returns-in-110 c d h = letter_row c.args.letter 110 d c.in-110.is (c.number_row.ensures ∙ sym (mapped d c.args.w c.args.c h Line.Expression (λ w. signed >>= λ a. yield (ExpressionLine.NumberLiteral w a))))

pub returns-in-98 : goal.returns-in-98
unfolding fields_of bit expression_row row_of with
returns-in-98 c d h = letter_row c.args.letter 98 d c.in-98.is (operator d c.args.w c.args.c h Line.Expression ExpressionLine.BooleanLiteral bit_number (false ∷ true ∷ []) (refl, (refl, tt)) false 98 (λ b. refl) c.operator_row-in-98.ensures)

pub returns-in-115 : goal.returns-in-115
unfolding fields_of with₂ both literal_fields
returns-in-115 c d h = letter_row c.args.letter 115 d c.in-115.is (c.literal_row.ensures ∙ sym (mapped d c.args.w c.args.c h Line.Expression (λ w. literal >>= λ a. bit >>= λ b. yield (ExpressionLine.StringLiteral w a b))))

pub returns-in-108 : goal.returns-in-108
unfolding fields_of expression_row row_of with
returns-in-108 c d h = letter_row c.args.letter 108 d c.in-108.is (operator d c.args.w c.args.c h Line.Expression ExpressionLine.LogicalExpression logical_number logical_ops (refl, (refl, tt)) BoolAnd 108 (λ b. refl) c.operator_row-in-108.ensures)

pub returns-in-99 : goal.returns-in-99
unfolding fields_of expression_row row_of with
returns-in-99 c d h = letter_row c.args.letter 99 d c.in-99.is (operator d c.args.w c.args.c h Line.Expression ExpressionLine.CompareExpression compare_number compare_ops (refl, (refl, (refl, (refl, (refl, (refl, (refl, (refl, tt)))))))) NumNotEqual 99 (λ b. refl) c.operator_row-in-99.ensures)

pub returns-in-109 : goal.returns-in-109
unfolding fields_of expression_row row_of with
returns-in-109 c d h = letter_row c.args.letter 109 d c.in-109.is (operator d c.args.w c.args.c h Line.Expression ExpressionLine.BinaryMathExpression math_number math_ops (refl, (refl, (refl, (refl, tt)))) Min 109 (λ b. refl) c.operator_row-in-109.ensures)

pub returns-in-117 : goal.returns-in-117
unfolding fields_of expression_row row_of with
returns-in-117 c d h = letter_row c.args.letter 117 d c.in-117.is (operator d c.args.w c.args.c h Line.Expression ExpressionLine.UnaryMathExpression unary_number unary_ops (refl, (refl, (refl, (refl, (refl, tt))))) Not 117 (λ b. refl) c.operator_row-in-117.ensures)

pub returns-in-104 : goal.returns-in-104
unfolding fields_of expression_row row_of with
returns-in-104 c d h = letter_row c.args.letter 104 d c.in-104.is (operator d c.args.w c.args.c h Line.Expression ExpressionLine.UnaryCryptoExpression crypto_number crypto_ops (refl, (refl, tt)) Ripemd160 104 (λ b. refl) c.operator_row-in-104.ensures)

pub returns-in-122 : goal.returns-in-122
unfolding fields_of expression_row row_of ◌<∘>◌ ◌>>=◌ yield
returns-in-122 c d h = letter_row c.args.letter 122 d c.in-122.is (c.plain_row-in-122.ensures _ refl ∙ sym (mapped d c.args.w c.args.c h Line.Expression (λ w. yield (ExpressionLine.ByteExpression w))))

pub returns-in-103 : goal.returns-in-103
unfolding fields_of expression_row row_of ◌<∘>◌ ◌>>=◌ yield
returns-in-103 c d h = letter_row c.args.letter 103 d c.in-103.is (c.plain_row-in-103.ensures _ refl ∙ sym (mapped d c.args.w c.args.c h Line.Expression (λ w. yield (ExpressionLine.CheckSigExpression w))))

pub returns-in-83 : goal.returns-in-83
unfolding fields_of factor_row row_of ◌<∘>◌ ◌>>=◌ yield
returns-in-83 c d h = letter_row c.args.letter 83 d c.in-83.is (c.plain_row-in-83.ensures _ refl ∙ sym (mapped d c.args.w c.args.c h Line.Factor (λ w. yield (FactorLine.SingleSigFactor w))))

pub returns-in-77 : goal.returns-in-77
unfolding fields_of with₂ both multi_fields
returns-in-77 c d h = letter_row c.args.letter 77 d c.in-77.is (c.multi_row.ensures ∙ sym (mapped d c.args.w c.args.c h Line.Factor (λ w. word >>= λ a. word >>= λ b. yield (FactorLine.MultiSigFactor w a b))))

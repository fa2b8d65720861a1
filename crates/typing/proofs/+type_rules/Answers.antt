-- The five type rules and their operands meet their contracts. The measure of each pairs the rows that are left with the rank of the rule:
-- a rule goes to a row below, or on the same row to a rule of lower rank.
use native.Mathlib.Omega.{arith}
use mathlib.Core.Logic.{inl, inr}
use mathlib.Core.Path.{refl, sym, ap, ◌∙◌}
use Rattle.std.proofs.Common.{Err}
use Rattle.std.proofs.lemmas.Grind.{common_steps}
use Rattle.std.proofs.lemmas.Result.{err_from_is_err_and}
use Rattle.std.proofs.Common.{rules}
use Rattle.ast.specs.declared.Type.TheVariants.{Number, Boolean}
use Rattle.ast.specs.declared.ErrorKind.TheVariants.{InvalidOperation}
use Rattle.ast.specs.Tree.{from_top}
use Rattle.listing.specs.declared.Line.{Line}
use Rattle.reader.specs.Spells.{SpellsExpression, SpellsFactor}
use Rattle.nodes.specs.Stands.{walked}
use Rattle.nodes.proofs.Laws.{expression-is, expression-holds}
use Rattle.rules.specs.Result.{both, refused}
use Rattle.rules.specs.Types.{is_string, is_number, is_boolean, not_signature, ascii, factor, unary, string, number, truth, hashed, general}
use Rattle.operands.specs.Typed.{rule_of, compare_two}
use Rattle.operands.proofs.Leaves.{unary_not, unary-other}
use Rattle.operands.proofs.Laws.{row_low, name-under, operand, operands, left-under, right-under, two-fault, two-pass, then-fault, then-pass, turn, leaf, by-operand, by_two}
use Rattle.nodes.proofs.Others.{others}
use Rattle.typing.proofs.Compare.{compare-unknown, compare-sorted}
use Rattle.typing.proofs.Others.{Refuses, ByGeneral, untrue-unary, untrue-math, refused-here, not-strings, string-refuses, not-numbers, number-refuses, not-truths, truth-refuses, no-hashes, hashed-general}
use Rattle.typing.proofs.+type_rules.Goals as goal

pub check_both-check_operand-requires : goal.check_both-check_operand-requires
check_both-check_operand-requires t c = let a = c.requires in (omega (arith), left-under a)

pub check_both-returns-in_err-n : goal.check_both-returns-in_err-n
check_both-returns-in_err-n t c =
    let p = err_from_is_err_and c.from_residual.result c.from_residual.ensures.1 in
    rw (p.1, p.2, ← c.in_err-n.was) (two-fault _ _ _ _ _ (rule_of c.args.ty) (rule_of c.args.ty) _ c.in_err-n.was c.check_operand.ensures)

pub check_both-check_operand-requires-2 : goal.check_both-check_operand-requires-2
check_both-check_operand-requires-2 t c =
    let a = c.requires in
    let n = right-under _ _ _ _ _ (rule_of c.args.ty) _ c.in_ok-n.was c.check_operand.ensures a in
    (omega (arith, n.1), n.0)

pub check_both-returns : goal.check_both-returns
check_both-returns t c = two-pass _ _ _ _ _ (rule_of c.args.ty) _ c.in_ok-n.was c.check_operand.ensures (rule_of c.args.ty) _ c.check_operand-2.ensures

pub check_compare-sort_at-requires : goal.check_compare-sort_at-requires
check_compare-sort_at-requires t c = left-under c.requires

pub check_compare-returns-in-None : goal.check_compare-returns-in-None
check_compare-returns-in-None t c e j d v q = rw (← compare-unknown _ _ e _ (from_top d) (sym (c.in-None.ensures e.left v.mid d v.first q))) (ap Err c.new.ensures)

pub check_compare-returns-in-Some : goal.check_compare-returns-in-Some
check_compare-returns-in-Some t c e j d v q =
    let a = c.args in
    let ty = c.in-Some.ty in
    rw (← compare-sorted a.loc a.op e a.context.target (from_top d) ty (sym (c.in-Some.ensures e.left v.mid d v.first q))) (c.judge_compare.ensures _ j (c.check_both.ensures e j d v q))

pub check_type-expression_at-requires : goal.check_type-expression_at-requires
check_type-expression_at-requires t c = expression-holds c.requires.node

pub check_type-overflow_add-next : goal.check_type-overflow_add-next
check_type-overflow_add-next t c = omega (arith, row_low c.requires)

pub check_type-check_both-requires : goal.check_type-check_both-requires
check_type-check_both-requires t c =
    let a = c.requires in
    let f = expression-is a.node.spells c.in-LogicalExpression.ensures in
    (omega (arith, row_low a), operands a f.3 f.4)

pub check_type-check_compare-requires : goal.check_type-check_compare-requires
check_type-check_compare-requires t c =
    let a = c.requires in
    let f = expression-is a.node.spells c.in-CompareExpression.ensures in
    (omega (arith, row_low a), operands a f.3 f.4)

pub check_type-check_both-requires-in-BinaryMathExpression : goal.check_type-check_both-requires-in-BinaryMathExpression
check_type-check_both-requires-in-BinaryMathExpression t c =
    let a = c.requires in
    let f = expression-is a.node.spells c.in-BinaryMathExpression.ensures in
    (omega (arith, row_low a), operands a f.3 f.4)

pub check_type-check_type_boolean-requires : goal.check_type-check_type_boolean-requires
check_type-check_type_boolean-requires t c =
    let a = c.requires in
    (omega (arith, row_low a), operand (SpellsExpression _ _) a (expression-is a.node.spells c.in-UnaryMathExpression.ensures).1)

pub check_type-returns-in-Not : goal.check_type-returns-in-Not
unfolding general unary
check_type-returns-in-Not t c e j d sp q = by-operand _ _ _ _ _ d _ q (λ e. general e c.args.context.target (from_top d)) (SpellsExpression _ _) truth (expression-is sp c.in-UnaryMathExpression.ensures) c.check_type_boolean.ensures (λ a. rw (unary_not c.in-Not.is))

pub check_type-check_type_numeric-requires : goal.check_type-check_type_numeric-requires
check_type-check_type_numeric-requires t c =
    let a = c.requires in
    (omega (arith, row_low a), operand (SpellsExpression _ _) a (expression-is a.node.spells c.in-UnaryMathExpression.ensures).1)

pub check_type-check_type_crypto_operand-requires : goal.check_type-check_type_crypto_operand-requires
check_type-check_type_crypto_operand-requires t c =
    let a = c.requires in
    (omega (arith, row_low a), operand (SpellsExpression _ _) a (expression-is a.node.spells c.in-UnaryCryptoExpression.ensures).1)

pub check_type-check_type_string-requires : goal.check_type-check_type_string-requires
check_type-check_type_string-requires t c =
    let a = c.requires in
    (omega (arith, row_low a), operand (SpellsExpression _ _) a (expression-is a.node.spells c.in-ByteExpression.ensures).1)

pub check_type-check_ascii-requires : goal.check_type-check_ascii-requires
check_type-check_ascii-requires t c =
    let a = c.requires in
    (operand (SpellsExpression _ _) a (expression-is a.node.spells c.in-ByteExpression.ensures).1).node

pub check_type-check_factor-requires : goal.check_type-check_factor-requires
check_type-check_factor-requires t c =
    let a = c.requires in
    operand (SpellsFactor _ _) a (expression-is a.node.spells c.in-CheckSigExpression.ensures).1

pub check_type-returns-in-Variable : goal.check_type-returns-in-Variable
unfolding general
check_type-returns-in-Variable t c e j d sp q = elim c.in-Variable.is [
  | inl (l, x, h) ↦ let f = expression-is sp (c.expression_at.ensures ∙ ap Line.Expression h) in leaf (λ e. general e c.args.context.target (from_top d)) f.0 f.1 refl
  | inr (inl (l, v, h)) ↦ let f = expression-is sp (c.expression_at.ensures ∙ ap Line.Expression h) in leaf (λ e. general e c.args.context.target (from_top d)) f.0 f.1 refl
  | inr (inr (inl (l, v, h))) ↦ let f = expression-is sp (c.expression_at.ensures ∙ ap Line.Expression h) in leaf (λ e. general e c.args.context.target (from_top d)) f.0 f.1 refl
  | inr (inr (inr (l, x, m, h))) ↦ let f = expression-is sp (c.expression_at.ensures ∙ ap Line.Expression h) in leaf (λ e. general e c.args.context.target (from_top d)) f.0 f.1 refl
]

pub check_type-returns-in-LogicalExpression : goal.check_type-returns-in-LogicalExpression
unfolding general rule_of
check_type-returns-in-LogicalExpression t c e j d sp q = by_two _ _ _ _ _ d _ q (λ e. general e c.args.context.target (from_top d)) (λ e g ps. both (rule_of Boolean e.left g ps) (rule_of Boolean e.right g ps)) (expression-is sp c.in-LogicalExpression.ensures) c.check_both.ensures (λ a b. refl)

pub check_type-returns-in-CompareExpression : goal.check_type-returns-in-CompareExpression
unfolding general compare_two
check_type-returns-in-CompareExpression t c e j d sp q = by_two _ _ _ _ _ d _ q (λ e. general e c.args.context.target (from_top d)) (compare_two c.in-CompareExpression.l c.in-CompareExpression.op) (expression-is sp c.in-CompareExpression.ensures) c.check_compare.ensures (λ a b. refl)

pub check_type-returns-in-BinaryMathExpression : goal.check_type-returns-in-BinaryMathExpression
unfolding general rule_of
check_type-returns-in-BinaryMathExpression t c e j d sp q = by_two _ _ _ _ _ d _ q (λ e. general e c.args.context.target (from_top d)) (λ e g ps. both (rule_of Number e.left g ps) (rule_of Number e.right g ps)) (expression-is sp c.in-BinaryMathExpression.ensures) c.check_both-in-BinaryMathExpression.ensures (λ a b. refl)

pub check_type-returns-in_default : goal.check_type-returns-in_default
unfolding general unary
check_type-returns-in_default t c e j d sp q = by-operand _ _ _ _ _ d _ q (λ e. general e c.args.context.target (from_top d)) (SpellsExpression _ _) number (expression-is sp c.in-UnaryMathExpression.ensures) c.check_type_numeric.ensures (λ a. rw (unary-other _ c.in_default.not-Not))

pub check_type-returns-in-UnaryCryptoExpression : goal.check_type-returns-in-UnaryCryptoExpression
unfolding general
check_type-returns-in-UnaryCryptoExpression t c e j d sp q = by-operand _ _ _ _ _ d _ q (λ e. general e c.args.context.target (from_top d)) (SpellsExpression _ _) hashed (expression-is sp c.in-UnaryCryptoExpression.ensures) c.check_type_crypto_operand.ensures (λ a. refl)

pub check_type-returns-in_err-n-in-ByteExpression : goal.check_type-returns-in_err-n-in-ByteExpression
unfolding general
check_type-returns-in_err-n-in-ByteExpression t c e j d sp q =
    let p = err_from_is_err_and c.from_residual.result c.from_residual.ensures.1 in
    let w = c.in_err-n-in-ByteExpression.was in
    by-operand _ _ _ _ _ d _ q (λ e. general e c.args.context.target (from_top d)) (SpellsExpression _ _) (λ a g ps. both (string a g ps) (ascii a)) (expression-is sp c.in-ByteExpression.ensures) (λ b k x u v. rw (p.1, p.2, ← w) (then-fault (string b c.args.context.target (from_top x)) (ascii b) refl k (c.check_type_string.ensures b k x u v) w)) (λ a. refl)

pub check_type-returns-in_ok-n-in-ByteExpression : goal.check_type-returns-in_ok-n-in-ByteExpression
unfolding general
check_type-returns-in_ok-n-in-ByteExpression t c e j d sp q = by-operand _ _ _ _ _ d _ q (λ e. general e c.args.context.target (from_top d)) (SpellsExpression _ _) (λ a g ps. both (string a g ps) (ascii a)) (expression-is sp c.in-ByteExpression.ensures) (λ b k x u v. then-pass (string b c.args.context.target (from_top x)) (ascii b) refl k (c.check_type_string.ensures b k x u v) c.in_ok-n-in-ByteExpression.was (c.check_ascii.ensures b k u)) (λ a. refl)

pub check_type-returns-in-CheckSigExpression : goal.check_type-returns-in-CheckSigExpression
unfolding general
check_type-returns-in-CheckSigExpression t c e j d sp q = by-operand _ _ _ _ _ d _ q (λ e. general e c.args.context.target (from_top d)) (SpellsFactor _ _) (λ f g ps. factor g ps f) (expression-is sp c.in-CheckSigExpression.ensures) c.check_factor.ensures (λ a. refl)

pub check_type_boolean-expression_at-requires : goal.check_type_boolean-expression_at-requires
check_type_boolean-expression_at-requires t c = expression-holds c.requires.node

pub check_type_boolean-overflow_add-next : goal.check_type_boolean-overflow_add-next
check_type_boolean-overflow_add-next t c = omega (arith, row_low c.requires)

pub check_type_boolean-check_variable_type-requires-clause-stands : goal.check_type_boolean-check_variable_type-requires-clause-stands
check_type_boolean-check_variable_type-requires-clause-stands t c = name-under c.requires c.in-Variable.ensures

pub check_type_boolean-check_both-requires : goal.check_type_boolean-check_both-requires
check_type_boolean-check_both-requires t c =
    let a = c.requires in
    let f = expression-is a.node.spells c.in-LogicalExpression.ensures in
    (omega (arith, row_low a), operands a f.3 f.4)

pub check_type_boolean-check_type_boolean-requires : goal.check_type_boolean-check_type_boolean-requires
check_type_boolean-check_type_boolean-requires t c =
    let a = c.requires in
    (omega (arith, row_low a), operand (SpellsExpression _ _) a (expression-is a.node.spells c.in-UnaryMathExpression.ensures).1)

pub check_type_boolean-returns-in-Not : goal.check_type_boolean-returns-in-Not
unfolding truth unary
check_type_boolean-returns-in-Not t c e j d sp q = by-operand _ _ _ _ _ d _ q (λ e. truth e c.args.context.target (from_top d)) (SpellsExpression _ _) truth (expression-is sp c.in-UnaryMathExpression.ensures) c.check_type_boolean.ensures (λ a. rw (unary_not c.in-Not.is))

pub check_type_boolean-loc_at-requires : goal.check_type_boolean-loc_at-requires
check_type_boolean-loc_at-requires t c = (expression-holds c.requires.node).room

pub check_type_boolean-returns-in-Variable : goal.check_type_boolean-returns-in-Variable
unfolding truth is_boolean
check_type_boolean-returns-in-Variable t c e j d sp q =
    let f = expression-is sp c.in-Variable.ensures in
    leaf (λ e. truth e c.args.context.target (from_top d)) f.0 f.1 (c.check_variable_type.ensures d is_boolean q (λ ty b h. grind (arith, common_steps)))

pub check_type_boolean-returns-in-BooleanLiteral : goal.check_type_boolean-returns-in-BooleanLiteral
unfolding truth
check_type_boolean-returns-in-BooleanLiteral t c e j d sp q =
    let f = expression-is sp c.in-BooleanLiteral.ensures in
    leaf (λ e. truth e c.args.context.target (from_top d)) f.0 f.1 refl

pub check_type_boolean-returns-in-LogicalExpression : goal.check_type_boolean-returns-in-LogicalExpression
unfolding truth rule_of
check_type_boolean-returns-in-LogicalExpression t c e j d sp q = by_two _ _ _ _ _ d _ q (λ e. truth e c.args.context.target (from_top d)) (λ e g ps. both (rule_of Boolean e.left g ps) (rule_of Boolean e.right g ps)) (expression-is sp c.in-LogicalExpression.ensures) c.check_both.ensures (λ a b. refl)

pub check_type_boolean-returns-in-CompareExpression : goal.check_type_boolean-returns-in-CompareExpression
unfolding truth general
check_type_boolean-returns-in-CompareExpression t c e j d sp q =
    let g = c.args.context.target in
    elim c.in-CompareExpression.is [
      | inl (l, o, h) ↦ turn (λ e. general e g (from_top d)) (λ e. truth e g (from_top d)) j (expression-is sp (c.expression_at.ensures ∙ ap Line.Expression h)).5 refl (c.check_type.ensures e j d sp q)
      | inr (l, h) ↦ turn (λ e. general e g (from_top d)) (λ e. truth e g (from_top d)) j (expression-is sp (c.expression_at.ensures ∙ ap Line.Expression h)).2 refl (c.check_type.ensures e j d sp q)
    ]

pub check_type_boolean-returns-in_err-check_type_numeric-in_default-op : goal.check_type_boolean-returns-in_err-check_type_numeric-in_default-op
check_type_boolean-returns-in_err-check_type_numeric-in_default-op t c e j d sp q =
    let p = err_from_is_err_and c.from_residual.result c.from_residual.ensures.1 in
    let w = c.in_err-check_type_numeric-in_default-op.was in
    rw (p.1, p.2, ← w) (then-fault (number e c.args.context.target (from_top d)) (refused InvalidOperation c.in-UnaryMathExpression.l) (untrue-unary _ _ _ sp c.in-UnaryMathExpression.ensures (unary-other _ c.in_default-op.not-Not)) j (c.check_type_numeric.ensures e j d sp q) w)

pub check_type_boolean-returns-in_ok-check_type_numeric-in_default-op : goal.check_type_boolean-returns-in_ok-check_type_numeric-in_default-op
check_type_boolean-returns-in_ok-check_type_numeric-in_default-op t c e j d sp q = then-pass (number e c.args.context.target (from_top d)) (refused InvalidOperation c.in-UnaryMathExpression.l) (untrue-unary _ _ _ sp c.in-UnaryMathExpression.ensures (unary-other _ c.in_default-op.not-Not)) j (c.check_type_numeric.ensures e j d sp q) c.in_ok-check_type_numeric-in_default-op.was (ap Err c.new.ensures)

pub check_type_boolean-returns-in_err-check_type_numeric-in-BinaryMathExpression : goal.check_type_boolean-returns-in_err-check_type_numeric-in-BinaryMathExpression
check_type_boolean-returns-in_err-check_type_numeric-in-BinaryMathExpression t c e j d sp q =
    let p = err_from_is_err_and c.from_residual-in_err-check_type_numeric-in-BinaryMathExpression.result c.from_residual-in_err-check_type_numeric-in-BinaryMathExpression.ensures.1 in
    let w = c.in_err-check_type_numeric-in-BinaryMathExpression.was in
    rw (p.1, p.2, ← w) (then-fault (number e c.args.context.target (from_top d)) (refused InvalidOperation c.in-BinaryMathExpression.l) (untrue-math _ _ _ sp c.expression_at.ensures c.in-BinaryMathExpression.is) j (c.check_type_numeric-in-BinaryMathExpression.ensures e j d sp q) w)

pub check_type_boolean-returns-in_ok-check_type_numeric-in-BinaryMathExpression : goal.check_type_boolean-returns-in_ok-check_type_numeric-in-BinaryMathExpression
check_type_boolean-returns-in_ok-check_type_numeric-in-BinaryMathExpression t c e j d sp q = then-pass (number e c.args.context.target (from_top d)) (refused InvalidOperation c.in-BinaryMathExpression.l) (untrue-math _ _ _ sp c.expression_at.ensures c.in-BinaryMathExpression.is) j (c.check_type_numeric-in-BinaryMathExpression.ensures e j d sp q) c.in_ok-check_type_numeric-in-BinaryMathExpression.was (ap Err c.new-in-BinaryMathExpression.ensures)

pub check_type_boolean-returns-in_default : goal.check_type_boolean-returns-in_default
check_type_boolean-returns-in_default t c e j d sp q = refused-here e j (c.loc_at.ensures _ e j sp) (ap Err c.new-in_default.ensures) (others (Refuses truth) not-truths truth-refuses _ (search rules) sp c.expression_at.ensures _ _)

pub check_type_crypto_operand-expression_at-requires : goal.check_type_crypto_operand-expression_at-requires
check_type_crypto_operand-expression_at-requires t c = expression-holds c.requires.node

pub check_type_crypto_operand-overflow_add-next : goal.check_type_crypto_operand-overflow_add-next
check_type_crypto_operand-overflow_add-next t c = omega (arith, row_low c.requires)

pub check_type_crypto_operand-check_variable_type-requires-clause-stands : goal.check_type_crypto_operand-check_variable_type-requires-clause-stands
check_type_crypto_operand-check_variable_type-requires-clause-stands t c = name-under c.requires c.in-Variable.ensures

pub check_type_crypto_operand-check_type_crypto_operand-requires : goal.check_type_crypto_operand-check_type_crypto_operand-requires
check_type_crypto_operand-check_type_crypto_operand-requires t c =
    let a = c.requires in
    (omega (arith, row_low a), operand (SpellsExpression _ _) a (expression-is a.node.spells c.in-UnaryCryptoExpression.ensures).1)

pub check_type_crypto_operand-returns-in-Variable : goal.check_type_crypto_operand-returns-in-Variable
unfolding hashed not_signature
check_type_crypto_operand-returns-in-Variable t c e j d sp q =
    let f = expression-is sp c.in-Variable.ensures in
    leaf (λ e. hashed e c.args.context.target (from_top d)) f.0 f.1 (c.check_variable_type.ensures d not_signature q (λ ty b h. grind (arith, common_steps)))

pub check_type_crypto_operand-returns-in-UnaryCryptoExpression : goal.check_type_crypto_operand-returns-in-UnaryCryptoExpression
unfolding hashed
check_type_crypto_operand-returns-in-UnaryCryptoExpression t c e j d sp q = by-operand _ _ _ _ _ d _ q (λ e. hashed e c.args.context.target (from_top d)) (SpellsExpression _ _) hashed (expression-is sp c.in-UnaryCryptoExpression.ensures) c.check_type_crypto_operand.ensures (λ a. refl)

pub check_type_crypto_operand-returns-in_default : goal.check_type_crypto_operand-returns-in_default
check_type_crypto_operand-returns-in_default t c e j d sp q = c.check_type.ensures e j d sp q ∙ ap (λ o. walked o j) (others ByGeneral no-hashes hashed-general _ (search rules) sp c.expression_at.ensures _ _)

pub check_type_numeric-expression_at-requires : goal.check_type_numeric-expression_at-requires
check_type_numeric-expression_at-requires t c = expression-holds c.requires.node

pub check_type_numeric-overflow_add-next : goal.check_type_numeric-overflow_add-next
check_type_numeric-overflow_add-next t c = omega (arith, row_low c.requires)

pub check_type_numeric-check_variable_type-requires-clause-stands : goal.check_type_numeric-check_variable_type-requires-clause-stands
check_type_numeric-check_variable_type-requires-clause-stands t c = name-under c.requires c.in-Variable.ensures

pub check_type_numeric-check_both-requires : goal.check_type_numeric-check_both-requires
check_type_numeric-check_both-requires t c =
    let a = c.requires in
    let f = expression-is a.node.spells c.in-BinaryMathExpression.ensures in
    (omega (arith, row_low a), operands a f.3 f.4)

pub check_type_numeric-returns-in-Not : goal.check_type_numeric-returns-in-Not
unfolding number unary
check_type_numeric-returns-in-Not t c e j d sp q = rw ((expression-is sp c.in-UnaryMathExpression.ensures).2, unary_not c.in-Not.is) (ap Err c.new.ensures)

pub check_type_numeric-check_type_numeric-requires : goal.check_type_numeric-check_type_numeric-requires
check_type_numeric-check_type_numeric-requires t c =
    let a = c.requires in
    (omega (arith, row_low a), operand (SpellsExpression _ _) a (expression-is a.node.spells c.in-UnaryMathExpression.ensures).1)

pub check_type_numeric-loc_at-requires : goal.check_type_numeric-loc_at-requires
check_type_numeric-loc_at-requires t c = (expression-holds c.requires.node).room

pub check_type_numeric-returns-in-Variable : goal.check_type_numeric-returns-in-Variable
unfolding number is_number
check_type_numeric-returns-in-Variable t c e j d sp q =
    let f = expression-is sp c.in-Variable.ensures in
    leaf (λ e. number e c.args.context.target (from_top d)) f.0 f.1 (c.check_variable_type.ensures d is_number q (λ ty b h. grind (arith, common_steps)))

pub check_type_numeric-returns-in-NumberLiteral : goal.check_type_numeric-returns-in-NumberLiteral
unfolding number
check_type_numeric-returns-in-NumberLiteral t c e j d sp q =
    let f = expression-is sp c.in-NumberLiteral.ensures in
    leaf (λ e. number e c.args.context.target (from_top d)) f.0 f.1 refl

pub check_type_numeric-returns-in-BinaryMathExpression : goal.check_type_numeric-returns-in-BinaryMathExpression
unfolding number rule_of
check_type_numeric-returns-in-BinaryMathExpression t c e j d sp q = by_two _ _ _ _ _ d _ q (λ e. number e c.args.context.target (from_top d)) (λ e g ps. both (rule_of Number e.left g ps) (rule_of Number e.right g ps)) (expression-is sp c.in-BinaryMathExpression.ensures) c.check_both.ensures (λ a b. refl)

pub check_type_numeric-returns-in_default-op : goal.check_type_numeric-returns-in_default-op
unfolding number unary
check_type_numeric-returns-in_default-op t c e j d sp q = by-operand _ _ _ _ _ d _ q (λ e. number e c.args.context.target (from_top d)) (SpellsExpression _ _) number (expression-is sp c.in-UnaryMathExpression.ensures) c.check_type_numeric.ensures (λ a. rw (unary-other _ c.in_default-op.not-Not))

pub check_type_numeric-returns-in-ByteExpression : goal.check_type_numeric-returns-in-ByteExpression
unfolding number general
check_type_numeric-returns-in-ByteExpression t c e j d sp q = turn (λ e. general e c.args.context.target (from_top d)) (λ e. number e c.args.context.target (from_top d)) j (expression-is sp c.in-ByteExpression.ensures).2 refl (c.check_type.ensures e j d sp q)

pub check_type_numeric-returns-in_default : goal.check_type_numeric-returns-in_default
check_type_numeric-returns-in_default t c e j d sp q = refused-here e j (c.loc_at.ensures _ e j sp) (ap Err c.new-in_default.ensures) (others (Refuses number) not-numbers number-refuses _ (search rules) sp c.expression_at.ensures _ _)

pub check_type_string-expression_at-requires : goal.check_type_string-expression_at-requires
check_type_string-expression_at-requires t c = expression-holds c.requires.node

pub check_type_string-overflow_add-next : goal.check_type_string-overflow_add-next
check_type_string-overflow_add-next t c = omega (arith, row_low c.requires)

pub check_type_string-check_variable_type-requires-clause-stands : goal.check_type_string-check_variable_type-requires-clause-stands
check_type_string-check_variable_type-requires-clause-stands t c = name-under c.requires c.in-Variable.ensures

pub check_type_string-check_type_crypto_operand-requires : goal.check_type_string-check_type_crypto_operand-requires
check_type_string-check_type_crypto_operand-requires t c =
    let a = c.requires in
    (omega (arith, row_low a), operand (SpellsExpression _ _) a (expression-is a.node.spells c.in-UnaryCryptoExpression.ensures).1)

pub check_type_string-loc_at-requires : goal.check_type_string-loc_at-requires
check_type_string-loc_at-requires t c = (expression-holds c.requires.node).room

pub check_type_string-returns-in-Variable : goal.check_type_string-returns-in-Variable
unfolding string is_string
check_type_string-returns-in-Variable t c e j d sp q =
    let f = expression-is sp c.in-Variable.ensures in
    leaf (λ e. string e c.args.context.target (from_top d)) f.0 f.1 (c.check_variable_type.ensures d is_string q (λ ty b h. grind (arith, common_steps)))

pub check_type_string-returns-in-StringLiteral : goal.check_type_string-returns-in-StringLiteral
unfolding string
check_type_string-returns-in-StringLiteral t c e j d sp q =
    let f = expression-is sp c.in-StringLiteral.ensures in
    leaf (λ e. string e c.args.context.target (from_top d)) f.0 f.1 refl

pub check_type_string-returns-in-UnaryCryptoExpression : goal.check_type_string-returns-in-UnaryCryptoExpression
unfolding string
check_type_string-returns-in-UnaryCryptoExpression t c e j d sp q = by-operand _ _ _ _ _ d _ q (λ e. string e c.args.context.target (from_top d)) (SpellsExpression _ _) hashed (expression-is sp c.in-UnaryCryptoExpression.ensures) c.check_type_crypto_operand.ensures (λ a. refl)

pub check_type_string-returns-in_default : goal.check_type_string-returns-in_default
check_type_string-returns-in_default t c e j d sp q = refused-here e j (c.loc_at.ensures _ e j sp) (ap Err c.new.ensures) (others (Refuses string) not-strings string-refuses _ (search rules) sp c.expression_at.ensures _ _)

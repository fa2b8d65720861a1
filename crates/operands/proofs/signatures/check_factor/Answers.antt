use native.Mathlib.Omega.{arith}
use mathlib.Core.Path.{refl, ap, ◌∙◌}
use Rattle.listing.specs.declared.Line.{Line}
use Rattle.ast.specs.Tree.{from_top}
use Rattle.nodes.proofs.Laws.{factor-is, factor-holds}
use Rattle.rules.specs.Types.{sig_key, factor}
use Rattle.operands.proofs.Laws.{operand, operands, by-operand, by_two, factor-low}
use Rattle.reader.specs.Spells.{SpellsFactors}
use Rattle.operands.specs.Typed.{counted}
use Rattle.operands.proofs.signatures.check_factor.Goals as goal

pub factor_at-requires : goal.factor_at-requires
factor_at-requires c = factor-holds c.requires.node

pub overflow_add-i : goal.overflow_add-i
overflow_add-i c = omega (arith, factor-low c.requires)

pub check_type_sig_pubkey-requires : goal.check_type_sig_pubkey-requires
check_type_sig_pubkey-requires c =
    let a = c.requires in
    let f = factor-is a.node.spells (c.factor_at.ensures ∙ ap Line.Factor c.in-SingleSigFactor.is) in
    operands a f.3 f.4

pub overflow_add-i-in-MultiSigFactor : goal.overflow_add-i-in-MultiSigFactor
overflow_add-i-in-MultiSigFactor c = omega (arith, factor-low c.requires)

pub check_multi-requires : goal.check_multi-requires
check_multi-requires c =
    let a = c.requires in
    operand (SpellsFactors _ _ _) a (factor-is a.node.spells (c.factor_at.ensures ∙ ap Line.Factor c.in-MultiSigFactor.is)).1

pub returns-in-SingleSigFactor : goal.returns-in-SingleSigFactor
unfolding factor sig_key
returns-in-SingleSigFactor c e j d sp q = let f = factor-is sp (c.factor_at.ensures ∙ ap Line.Factor c.in-SingleSigFactor.is) in
    by_two _ _ _ _ _ d _ q (λ f. factor c.args.context.target (from_top d) f) (λ e g ps. sig_key g ps e.left e.right) f c.check_type_sig_pubkey.ensures (λ a b. refl)

pub returns-in-MultiSigFactor : goal.returns-in-MultiSigFactor
unfolding factor counted
returns-in-MultiSigFactor c e j d sp q = let f = factor-is sp (c.factor_at.ensures ∙ ap Line.Factor c.in-MultiSigFactor.is) in
    by-operand _ _ _ _ _ d _ q (λ f. factor c.args.context.target (from_top d) f) (SpellsFactors _ _ _) (counted _ _) f c.check_multi.ensures (λ a. refl)

use native.Mathlib.Omega.{arith}
use mathlib.Core.Path.{refl, ap, ◌∙◌}
use Rattle.listing.specs.declared.Line.{Line}
use Rattle.ast.specs.Tree.{from_top}
use Rattle.nodes.proofs.Laws.{factor-is, factor-holds}
use Rattle.rules.specs.Types.{sig_key, inner}
use Rattle.operands.proofs.Laws.{operands, by_two, factor-low}
use Rattle.operands.proofs.signatures.check_inner.Goals as goal

pub factor_at-requires : goal.factor_at-requires
factor_at-requires c = factor-holds c.requires.node

pub overflow_add-i : goal.overflow_add-i
overflow_add-i c = omega (arith, factor-low c.requires)

pub check_type_sig_pubkey-requires : goal.check_type_sig_pubkey-requires
check_type_sig_pubkey-requires c =
    let a = c.requires in
    let f = factor-is a.node.spells (c.factor_at.ensures ∙ ap Line.Factor c.in-SingleSigFactor.is) in
    operands a f.3 f.4

pub skip_factor-requires : goal.skip_factor-requires
skip_factor-requires c = (_, c.requires.node)

pub returns-in-SingleSigFactor : goal.returns-in-SingleSigFactor
unfolding inner sig_key
returns-in-SingleSigFactor c e j d sp q = let f = factor-is sp (c.factor_at.ensures ∙ ap Line.Factor c.in-SingleSigFactor.is) in
    by_two _ _ _ _ _ d _ q (λ f. inner c.args.context.target (from_top d) f) (λ e g ps. sig_key g ps e.left e.right) f c.check_type_sig_pubkey.ensures (λ a b. refl)

pub returns-in-MultiSigFactor : goal.returns-in-MultiSigFactor
unfolding inner
returns-in-MultiSigFactor c e j d sp q = rw ((factor-is sp (c.factor_at.ensures ∙ ap Line.Factor c.in-MultiSigFactor.is)).2, c.skip_factor.ensures _ e j sp)

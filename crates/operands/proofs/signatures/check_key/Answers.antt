use native.Mathlib.Omega.{arith}
use mathlib.Core.Logic.{inl, inr}
use mathlib.Core.Path.{sym, ap, ◌∙◌}
use Rattle.std.proofs.Common.{Err}
use Rattle.ast.specs.Tree.{loc}
use Rattle.text.specs.Text.{unhex, bytes_of}
use Rattle.rules.specs.Keys.{is_key}
use Rattle.rules.specs.Types.{literal_of, key}
use Rattle.operands.proofs.Laws.{row_low, leaf}
use Rattle.operands.proofs.Leaves.{leaf-named, leaf-other, no-literal}
use Rattle.operands.specs.Typed.{LeafIs}
use Rattle.operands.proofs.signatures.check_key.Goals as goal

pub leaf_at-requires : goal.leaf_at-requires
leaf_at-requires c = c.requires.node

pub of-requires : goal.of-requires
unfolding LeafIs
of-requires c = let a = c.requires in (c.in-Bytes.ensures a.node.tree a.node.next a.node.spells).2

pub overflow_add-result : goal.overflow_add-result
overflow_add-result c = omega (arith, row_low c.requires)

pub returns-then-is_key : goal.returns-then-is_key
unfolding key literal_of loc LeafIs bytes_of
returns-then-is_key c e j d sp q = let f = c.in-Bytes.ensures e j sp in
    leaf (key _) f.0 f.1 (rw (sym (c.is_key.ensures ∙ ap (λ d. is_key c.args.context.target (unhex d) c.in-Bytes.mark) c.of.ensures) ∙ c.if-is_key.true))

pub returns-in-Named : goal.returns-in-Named
unfolding key literal_of loc
returns-in-Named c e j d sp q = elim c.in-Named.is [
  | inl (x, h) ↦ rw (leaf-named _ _ _ _ _ (c.leaf_at.ensures e j sp) h).0 (ap Err c.new-in-Named.ensures)
  | inr h ↦ let f = leaf-other _ _ _ _ _ (c.leaf_at.ensures e j sp) h in rw (no-literal c.args.context.target e f.1 f.2) (ap Err c.new-in-Named.ensures)
]

pub returns-else-is_key : goal.returns-else-is_key
unfolding key literal_of loc LeafIs bytes_of
returns-else-is_key c e j d sp q = let f = c.in-Bytes.ensures e j sp in
    rw (f.0, sym (c.is_key.ensures ∙ ap (λ d. is_key c.args.context.target (unhex d) c.in-Bytes.mark) c.of.ensures) ∙ c.if-is_key.false) (ap Err c.new.ensures)

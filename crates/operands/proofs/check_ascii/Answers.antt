use mathlib.Core.Logic.{inl, inr}
use mathlib.Core.Path.{sym, ap, ◌∙◌}
use Rattle.std.proofs.Common.{Err}
use Rattle.ast.specs.Tree.{loc}
use Rattle.text.specs.Text.{unhex, bytes_of}
use Rattle.rules.specs.Keys.{is_ascii}
use Rattle.rules.specs.Types.{literal_of, ascii, or17}
use Rattle.operands.proofs.Leaves.{leaf-named, leaf-bytes, leaf-other, no-ascii}
use Rattle.operands.proofs.check_ascii.Goals as goal

pub of-requires : goal.of-requires
of-requires c = let a = c.requires in (leaf-bytes _ _ _ _ _ (c.leaf_at.ensures a.tree a.next a.spells) c.in-Bytes.is).2

pub returns-then-is_ascii_literal : goal.returns-then-is_ascii_literal
unfolding ascii literal_of loc or17 bytes_of
returns-then-is_ascii_literal c e j sp =
    let f = leaf-bytes _ _ _ _ _ (c.leaf_at.ensures e j sp) c.in-Bytes.is in
    rw (f.0, sym (c.is_ascii_literal.ensures ∙ ap (λ d. is_ascii (unhex d)) c.of.ensures) ∙ c.if-is_ascii_literal.true)

pub returns-else-is_ascii_literal : goal.returns-else-is_ascii_literal
unfolding ascii literal_of loc or17 bytes_of
returns-else-is_ascii_literal c e j sp =
    let f = leaf-bytes _ _ _ _ _ (c.leaf_at.ensures e j sp) c.in-Bytes.is in
    rw (f.0, sym (c.is_ascii_literal.ensures ∙ ap (λ d. is_ascii (unhex d)) c.of.ensures) ∙ c.if-is_ascii_literal.false) (ap Err c.new.ensures)

pub returns-in-Named : goal.returns-in-Named
unfolding literal_of
returns-in-Named c e j sp = elim c.in-Named.is [
  | inl (l, x, q) ↦ rw (no-ascii e (ap literal_of (leaf-named _ _ _ _ _ (c.leaf_at.ensures e j sp) q).0))
  | inr (l, q) ↦ rw (no-ascii e (leaf-other _ _ _ _ _ (c.leaf_at.ensures e j sp) q).1)
]

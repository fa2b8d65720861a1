use native.Mathlib.Omega.{arith}
use mathlib.Core.Logic.{inl, inr}
use mathlib.Core.Path.{ap}
use Rattle.std.proofs.Common.{Err}
use Rattle.std.proofs.lemmas.Grind.{common_steps}
use Rattle.ast.specs.Tree.{from_top, loc}
use Rattle.rules.specs.Types.{name_of, signature, is_signature}
use Rattle.operands.specs.Typed.{LeafIs}
use Rattle.operands.proofs.Laws.{row_low, leaf}
use Rattle.operands.proofs.Leaves.{leaf-bytes, leaf-other, no_name}
use Rattle.operands.proofs.signatures.check_signature.Goals as goal

pub leaf_at-requires : goal.leaf_at-requires
leaf_at-requires c = c.requires.node

pub overflow_add-i : goal.overflow_add-i
overflow_add-i c = omega (arith, row_low c.requires)

pub check_variable_type-requires-clause-stands : goal.check_variable_type-requires-clause-stands
unfolding LeafIs
check_variable_type-requires-clause-stands c = let a = c.requires in (a.items, (c.in-Named.ensures a.node.tree a.node.next a.node.spells).2)

pub returns-in-Named : goal.returns-in-Named
unfolding signature name_of loc LeafIs is_signature
returns-in-Named c e j d sp q = let f = c.in-Named.ensures e j sp in
    leaf (signature (from_top d)) f.0 f.1 (c.check_variable_type.ensures d is_signature q (λ ty b h. grind (arith, common_steps)))

pub returns-in-Bytes : goal.returns-in-Bytes
unfolding signature name_of loc
returns-in-Bytes c e j d sp q = elim c.in-Bytes.is [
  | inl (x, m, h) ↦ rw (leaf-bytes _ _ _ _ _ (c.leaf_at.ensures e j sp) h).0 (ap Err c.new.ensures)
  | inr h ↦ let f = leaf-other _ _ _ _ _ (c.leaf_at.ensures e j sp) h in rw (no_name (from_top d) e f.0 f.2) (ap Err c.new.ensures)
]

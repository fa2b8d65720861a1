use mathlib.Core.Path.{refl, sym}
use Rattle.listing.specs.Kinds.{part_of}
use Rattle.reader.proofs.Agree.{expression-on}
use Rattle.nodes.proofs.Laws.{expression-is, expression-holds, row-part}
use Rattle.operands.specs.Typed.{LeafIs}
use Rattle.operands.proofs.Leaves.{leaf-none}
use Rattle.operands.proofs.leaf_at.Goals as goal

pub expression_at-requires : goal.expression_at-requires
expression_at-requires c = expression-holds c.requires

pub loc_at-requires : goal.loc_at-requires
loc_at-requires c = (expression-holds c.requires).room

pub returns-in-Variable : goal.returns-in-Variable
unfolding LeafIs part_of
returns-in-Variable c e j sp = let n = c.in-Variable.ensures in
    let f = expression-is sp n in
    (f.0, f.1, row-part c.requires (expression-on _ _ c.requires.spells) _ n _ refl)

pub returns-in-StringLiteral : goal.returns-in-StringLiteral
unfolding LeafIs part_of
returns-in-StringLiteral c e j sp = let n = c.in-StringLiteral.ensures in
    let f = expression-is sp n in
    (f.0, f.1, row-part c.requires (expression-on _ _ c.requires.spells) _ n _ refl)

pub returns-in_default : goal.returns-in_default
unfolding LeafIs
returns-in_default c e j sp =
    let q = leaf-none _ _ sp c.expression_at.ensures c.in_default.not-Variable c.in_default.not-StringLiteral in
    (q.0, q.1, sym (c.loc_at.ensures _ e j sp))

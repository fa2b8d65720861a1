-- Whether any name stands in an expression meets its contract. The measure is the rows left.
use Prim.Native.Nat.{◌+◌, ◌-◌}
use native.Mathlib.Omega.{arith}
use mathlib.Core.Bool.{◌||◌, or-false}
use mathlib.Core.List.{[], ◌∷◌}
use mathlib.Core.Path.{sym, ap, ◌∙◌}
use Rattle.rows.specs.Rows.{line_in}
use Rattle.nodes.specs.Nodes.{expression, SpellsNodes}
use Rattle.nodes.proofs.Nodes.{opened, nodes-more, nodes-none, one-expression, nodes-room, nodes-kind, nodes-on, nodes-few}
use Rattle.usage.specs.Names.{has_names}
use Rattle.usage.proofs.Names.{any_names, first-name}
use Rattle.usage.proofs.has_names.Goals as goal

pub loop-due-init : goal.loop-due-init
unfolding any_names
loop-due-init c =
    let p = c.requires in
    ((p.0, one-expression p.1), λ s e j sp. (expression e ∷ [], SpellsNodes.expression sp SpellsNodes.nil, sym (or-false (has_names e))))

pub is_name-requires : goal.is_name-requires
is_name-requires c = nodes-room c.loop-due.invariant.0.1 c.loop-due-test.true

pub returns-then-is_name : goal.returns-then-is_name
returns-then-is_name c s e j sp =
    let l = c.loop-due in
    let (ns, v, q) = l.invariant.1 s e j sp in
    let L = line_in c.args.table.now in
    sym (q ∙ first-name L s v c.loop-due-test.true ∙ ap (λ b. b || any_names (opened ns)) (sym c.is_name.ensures ∙ c.if-is_name.true))

pub operands_below-requires : goal.operands_below-requires
operands_below-requires c =
    let h = c.loop-due-test.true in
    let st = c.loop-due.invariant.0.1 in
    (nodes-room st h, nodes-kind st h)

pub overflow_add-due : goal.overflow_add-due
overflow_add-due c = let l = c.loop-due in omega (arith, nodes-few l.invariant.0.1 c.loop-due-test.true (ap (λ m. l.due - 1 + m) c.operands_below.ensures))

pub overflow_add-next : goal.overflow_add-next
overflow_add-next c = omega (arith, nodes-room c.loop-due.invariant.0.1 c.loop-due-test.true)

pub loop-due-smaller : goal.loop-due-smaller
loop-due-smaller c = omega (arith, nodes-room c.loop-due.invariant.0.1 c.loop-due-test.true)

pub loop-due-preserved : goal.loop-due-preserved
loop-due-preserved c =
    let l = c.loop-due in
    let h = c.loop-due-test.true in
    let d = ap (λ m. l.due - 1 + m) c.operands_below.ensures in
    let L = line_in c.args.table.now in (
      (l.invariant.0.0, nodes-on l.invariant.0.1 h d),
      λ s e j sp.
          let (ns, v, q) = l.invariant.1 s e j sp in
          (opened ns, nodes-more L s v h d, q ∙ first-name L s v h ∙ ap (λ b. b || any_names (opened ns)) (sym c.is_name.ensures ∙ c.if-is_name.false)),
    )

pub returns : goal.returns
unfolding any_names
returns c s e j sp =
    let (ns, v, q) = c.loop-due.invariant.1 s e j sp in
    sym (q ∙ ap any_names (nodes-none (line_in c.args.table.now) s v c.loop-due-test.false).0)

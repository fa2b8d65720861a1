use native.Mathlib.Omega.{arith}
use mathlib.Core.List.{[], ◌∷◌}
use Rattle.rows.specs.Rows.{line_in}
use Rattle.nodes.proofs.Laws.{below}
use Rattle.paths.specs.Path.{table_of}
use Rattle.usage.specs.Walk.{SpellsExpressions}
use Rattle.usage.proofs.Walks.{to-is}
use Rattle.usage.proofs.Trees.{one-all, spells_one}
use Rattle.usage.proofs.check_variable.Goals as goal

pub check_variables-requires : goal.check_variables-requires
check_variables-requires c =
    let L = line_in c.args.rows.now.table.now in
    let st = c.requires.0 in
    (below (SpellsExpressions L c.args.rows.now.listing.now 1) st {b = st.tree ∷ []} (spells_one L c.args.rows.now.listing.now st.spells) (omega arith), c.requires.1)

pub returns : goal.returns
returns c e j sp =
    let s = c.args.rows.now.listing.now in
    let t = c.args.rows.now.table.now in
    to-is (c.check_variables.ensures (e ∷ []) j (spells_one (line_in t) s sp)) (one-all e (table_of s t c.args.path))

-- count_paths and the count of a statement meet their contracts. The measure is the rows left.
use Prim.Native.Nat.{ℕ, ◌-◌, ◌<◌}
use mathlib.Core.List.{List}
use mathlib.Core.Path.{◌≡◌}
use lib.ListN.{length}
use Rattle.ast.specs.Tree.{Block}
use Rattle.rows.specs.Rows.{line_in}
use Rattle.reader.specs.Spells.{SpellsBlock, SpellsStatements}
use Rattle.rules.specs.Paths.{count}
use Rattle.nodes.specs.Stands.{StatementsAt}
use Rattle.nodes.specs.Somewhere.{Somewhere}
use Rattle.flow.proofs.necessity.+count_paths_count_through.Given as goal

abbrev pub decreases-count_paths : goal.decreases-count_paths
decreases-count_paths l = length l.table.now - l.i

abbrev pub decreases-count_through : goal.decreases-count_through
decreases-count_through l = length l.table.now - l.i

abbrev pub invariant-count_paths-loop-left : goal.invariant-count_paths-loop-left
invariant-count_paths-loop-left l = record {
  onward : l.i < l.at;
  stand : Somewhere (λ s. StatementsAt s l.table l.left l.at);
  spelled : (s : List ℕ) (b : Block) (j : ℕ) → SpellsBlock (line_in l.table) s l.i b j → (d : Block) × SpellsStatements (line_in l.table) s l.left l.at d j × (count b ≡ count d);
}

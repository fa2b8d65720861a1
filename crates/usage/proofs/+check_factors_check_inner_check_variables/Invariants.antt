-- The walk over the names of expressions and factors meets its contracts. The measure is the rows left; the factors of a multi-signature begin at
-- the row of the first.
use Prim.Native.Nat.{suc, ◌*◌, ◌-◌}
use lib.ListN.{length}
use Rattle.rows.specs.Rows.{line_in}
use Rattle.reader.specs.Spells.{SpellsFactors}
use Rattle.rules.specs.Usage.{usage_factors}
use Rattle.usage.specs.Walk.{SpellsExpressions, usage_all}
use Rattle.usage.proofs.Trees.{Rest}
use Rattle.usage.proofs.+check_factors_check_inner_check_variables.Given as goal

abbrev pub decreases-check_factors : goal.decreases-check_factors
decreases-check_factors l = suc (2 * (length l.rows.now.table.now - l.i))

abbrev pub decreases-check_inner : goal.decreases-check_inner
decreases-check_inner l = 2 * (length l.rows.now.table.now - l.i)

abbrev pub decreases-check_variables : goal.decreases-check_variables
decreases-check_variables l = 2 * (length l.rows.now.table.now - l.i)

abbrev pub invariant-check_factors-loop : goal.invariant-check_factors-loop
invariant-check_factors-loop l = Rest (SpellsFactors (line_in l.rows.table.now) l.rows.listing.now) usage_factors l.rows.listing.now l.rows.table.now l.n l.i l.initial.used.path (l.n - l.counter) l.used

abbrev pub invariant-check_variables-loop-due : goal.invariant-check_variables-loop-due
invariant-check_variables-loop-due l = Rest (SpellsExpressions (line_in l.rows.table.now) l.rows.listing.now) usage_all l.rows.listing.now l.rows.table.now l.n l.i l.initial.used.path l.due l.used

abbrev pub decreases-check_variables-loop-due : goal.decreases-check_variables-loop-due
decreases-check_variables-loop-due l = length l.rows.table.now - l.used.next

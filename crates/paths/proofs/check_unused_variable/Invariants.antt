use mathlib.Core.List.{List}
use mathlib.Core.Path.{◌≡◌}
use Prim.Native.Nat.{ℕ}
use lib.ListN.{drop}
use Rattle.std.specs.Prelude.{Ok}
use Rattle.rules.specs.Unused.{unused}
use Rattle.paths.specs.Path.{table_of, WellFormed}
use Rattle.paths.proofs.check_unused_variable.Given as goal

abbrev pub invariant-loop-k : goal.invariant-loop-k
invariant-loop-k l = (s : List ℕ) → WellFormed s l.table l.path → unused (drop l.k (table_of s l.table l.path)) ≡ Ok tt

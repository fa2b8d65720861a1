use Rattle.std.proofs.Common.{List, ℕ, ◌≡◌}
use lib.ListN.{drop}
use Rattle.rules.specs.Unused.{unused_all}
use Rattle.tables.specs.State.{tables_of, Ready}
use Rattle.tables.proofs.unused.check_unused.Given as goal

-- what is left to ask is what was to be asked
abbrev pub invariant-loop-path : goal.invariant-loop-path
invariant-loop-path l = (s : List ℕ) → Ready s l.table l.fn.d l.paths → unused_all (drop l.path-index (tables_of s l.table l.fn.d l.paths)) ≡ unused_all (tables_of s l.table l.fn.d l.paths)

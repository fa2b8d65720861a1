-- A path built from a declaration.
use Rattle.std.specs.Prelude.{ℕ, List, ◌≡◌, Ok}
use Rattle.ast.specs.Tree.{Declaration}
use Rattle.rules.specs.Result.{Result}
use Rattle.rules.specs.Table.{build}
use Rattle.paths.specs.declared.Path.{Path}
use Rattle.paths.specs.Path.{WellFormed, Placed, result_of}
pub use Rattle.paths.specs.Path.{no_place}

-- what is built from a declaration: the rule's result; after a pass the path is well formed, and its places are those of the rows before j
pub record Built (s t : List ℕ) (d : Declaration) (j : ℕ) (r : Result Path) : Type 0 where
  pub result : result_of s t r ≡ build d
  pub onward : (q : Path) → r ≡ Ok q → WellFormed s t q × Placed j q

-- Paths that can be read.
use Rattle.std.specs.Prelude.{ℕ, ◌<◌, List}
use Rattle.paths.specs.declared.Path.{Path}
use Rattle.paths.specs.Path.{WellFormed}
use Rattle.declarations.specs.declared.Declared.{Declared}
use Rattle.tables.specs.State.{path_at}

-- each path of a declaration can be read
abbrev pub Formed : List ℕ → List ℕ → Declared → List Path → Type 0
Formed s t d paths = (p : ℕ) → p < d.count → WellFormed s t (path_at paths p)

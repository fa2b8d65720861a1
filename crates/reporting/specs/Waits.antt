-- The waits that stand in rows, and what is reported from rows.
use Rattle.std.specs.Prelude.{ℕ, zero, suc, ◌-◌, ◌≤◌, Option, None, Some, List, [], ◌∷◌, ◌++◌}
use Rattle.listing.specs.declared.Line.{Line}
use Rattle.rows.specs.Rows.{line_in, HasRows}
use Rattle.reader.specs.Ceilings.{max_lines}
use Rattle.rules.specs.Walk.{Wait}
use Rattle.rules.specs.Analyze.{Analysis}
use Rattle.limits.specs.Waits.{found_in}
use Rattle.paths.specs.declared.Path.{Path}
use Rattle.declarations.specs.declared.Declared.{Declared}
use Rattle.tables.specs.State.{tables_of}

-- the wait that was found in row i, on listing line i + 1
abbrev pub wait_at : ℕ → Option ℕ → List Wait
wait_at i (Some k) = record { line = suc i; number = k } ∷ []
wait_at i None = []

-- those in n rows from row i on
unfoldable pub waits_from : (ℕ → Line) → ℕ → ℕ → List Wait
waits_from L i zero = []
waits_from L i (suc n) = wait_at i (found_in (L i)) ++ waits_from L (suc i) n

-- those in the rows from row i up to j
abbrev pub waits_between : List ℕ → ℕ → ℕ → List Wait
waits_between t i j = waits_from (line_in t) i (j - i)

-- the rows from row i up to j can be read
abbrev pub RowsBetween : List ℕ → ℕ → ℕ → Type 0
RowsBetween t i j = (i ≤ j) × HasRows t j × (j ≤ max_lines)

-- what the tables and n rows say: the tables of all paths, the waits of the block
abbrev pub analysis_in : List ℕ → List ℕ → ℕ → Declared → List Path → Analysis
analysis_in s t n d paths = record { tables = tables_of s t d paths; waits = waits_between t d.block n }

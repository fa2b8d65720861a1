-- The items of a path's report lines.
use Rattle.std.specs.Prelude.{ℕ, List, [], map, get_or, drop, Ok, Err}
use Rattle.rules.specs.Result.{Result}
use Rattle.rules.specs.Table.{Table, params}
use Rattle.rules.specs.Analyze.{Analysis}
use Rattle.reporting.specs.Text.{WitnessItem, item_of}
use Rattle.examiner.specs.Check.{examine}
use Rattle.turns.specs.State.{beginning}

-- the tables from which Report prints; none of a listing that Check refuses
unfoldable pub tables_of : Result Analysis → List Table
tables_of (Ok a) = a.tables
tables_of (Err x) = []

-- a path's report lines from the beginning on
unfoldable pub report_lines : List ℕ → ℕ → ℕ → List WitnessItem
report_lines s words path = drop (beginning s) (map item_of (params (get_or (tables_of (examine s words)) path [])))

-- The fields of a line, as the code puts them.
use Rattle.std.specs.Prelude.{ℕ, Bool, true, false, List, [], ◌∷◌, ◌++◌, map}
use Rattle.std.proofs.Math.Option.{Option, some, none}
use Rattle.rules.specs.Table.{Entry}
use Rattle.names.specs.Items.{item_in}
use Rattle.paths.specs.declared.NamePlace.{NamePlace}
use Rattle.output.specs.Decimal.{decimal}
use Rattle.reporting.specs.Text.{fields}

-- a field for each number
abbrev pub number_fields : List ℕ → List ℕ
number_fields [] = []
number_fields (x ∷ xs) = (44 ∷ decimal x) ++ number_fields xs

-- a line whose fields are numbers: its letter and comma, and the first number without one
unfoldable pub number_line : List ℕ → ℕ → List ℕ → List ℕ
number_line opening x xs = opening ++ (decimal x ++ fields (map decimal xs))

-- the line that takes an item, if one does
abbrev pub taken_if : Bool → ℕ → Option ℕ
taken_if true n = some n
taken_if false n = none

-- the item in a place, taken or not by the place's line
abbrev pub entry_in : List ℕ → List ℕ → NamePlace → Bool → Entry
entry_in s t q taken = record { param = item_in s t q.row; taken = taken_if taken q.line }

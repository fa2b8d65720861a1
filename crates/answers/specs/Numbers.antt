-- Answers in numbers.
use Rattle.std.specs.Prelude.{ℕ, List, [], ◌∷◌, Ok, Err}
use Rattle.std.proofs.Math.Option.{Option, some, none}
use Rattle.ast.specs.Tree.{number}
use Rattle.text.specs.declared.Place.{Place}
use Rattle.rules.specs.Result.{Checked}

-- 0 and no location, or the number of the refusal with its start, end, line and column
unfoldable pub numbers_of : Checked → List ℕ
numbers_of (Ok _) = 0 ∷ 0 ∷ 0 ∷ 0 ∷ 0 ∷ []
numbers_of (Err x) = number x.kind ∷ x.loc.start ∷ x.loc.end ∷ x.loc.line ∷ x.loc.column ∷ []

-- where a name stands, and how long it is; zeros if there is none
unfoldable pub place_numbers : Option Place → List ℕ
place_numbers none = 0 ∷ 0 ∷ []
place_numbers (some x) = x.at ∷ x.len ∷ []

-- What a walk that reads no part of the listing asks for.
use Rattle.std.specs.Prelude.{ℕ, List}

-- for some listing: where a tree's rows end does not depend on the parts that they name
abbrev pub Somewhere : (List ℕ → Type 0) → Type 0
Somewhere P = (s : List ℕ) × P s

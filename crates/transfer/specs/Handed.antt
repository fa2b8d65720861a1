-- What is taken on one path, taken on another.
use Rattle.std.specs.Prelude.{ℕ, zero, suc, get_or}
use Rattle.paths.specs.declared.Path.{Path}
use Rattle.paths.specs.Path.{no_place, marked}

-- the first n items of the second path taken by the lines that took those of the first
unfoldable pub handed : Path → Path → ℕ → Path
handed p q zero = q
handed p q (suc n) = marked (handed p q n) n (get_or p.places n no_place).line

-- Words of work memory that are not what is due.
use Rattle.std.specs.Prelude.{ℕ, List, not, ◌==◌, count_by}

-- how many of the words are not d
abbrev pub wrong_in : ℕ → List ℕ → ℕ
wrong_in d words = count_by (λ word. not (word == d)) words

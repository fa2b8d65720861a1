-- Work memory: how much is asked, and what is left of it.
use Rattle.std.specs.Prelude.{ℕ, List, ◌++◌, drop, replicate}

-- what work must have, in words of 32 bits
abbrev pub work_words : ℕ
work_words = 16384

-- the first 16384 words zero, the rest unchanged
unfoldable pub cleared : List ℕ → List ℕ
cleared w = replicate work_words 0 ++ drop work_words w

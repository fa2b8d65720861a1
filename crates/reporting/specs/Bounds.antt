-- How long the texts of a report can be.
use Rattle.std.specs.Prelude.{ℕ}

-- R, a number and four fields
abbrev pub refusal_bound : ℕ
refusal_bound = 57

-- P, four fields, a name of a listing's bytes
abbrev pub item_bound : ℕ
item_bound = 32815

-- 32 items
abbrev pub items_bound : ℕ
items_bound = 1050080

-- D, two fields and the items
abbrev pub path_bound : ℕ
path_bound = 1050104

-- 32 paths
abbrev pub paths_bound : ℕ
paths_bound = 33603328

-- A, a number, the paths, and 1024 waits of at most 24 bytes
abbrev pub acceptance_bound : ℕ
acceptance_bound = 33627917

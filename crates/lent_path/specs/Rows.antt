-- What stands in a row, and whether a path is one of these rows.
use Rattle.std.specs.Prelude.{ℕ, suc, ◌+◌, ◌/◌, ◌^◌, Bool, false, cond, ◌&&◌, Option, Some, None, List, take, ltb, length}
use Rattle.std.specs.List.{list_all}
use Rattle.ast.specs.declared.Location.{Location}
use Rattle.text.specs.declared.Place.{Place}
use Rattle.listing.specs.declared.Line.{Line}
use Rattle.listing.specs.declared.Line.TheVariants.{StackParam, Statement, Expression}
use Rattle.listing.specs.declared.StatementLine.TheVariants.{IfStatement}
use Rattle.listing.specs.declared.ExpressionLine.TheVariants.{Variable}
use Rattle.rows.specs.Rows.{line_in, row_words}
use Rattle.paths.specs.declared.Path.{Path}
use Rattle.taken.specs.Taken.{is_run}

-- a part that lies in the listing
unfoldable pub is_inside : List ℕ → Place → Bool
is_inside s x = ltb (x.at + x.len) (suc (length s))

-- row i is there
unfoldable pub is_row : List ℕ → ℕ → Bool
is_row t i = ltb i (length t / row_words)

-- an item's line whose name lies in the listing
unfoldable pub is_named : List ℕ → Line → Bool
is_named s = elim [ StackParam w y x ↦ is_inside s x | _ ↦ false ]

-- row i is there, and is such a line
unfoldable pub is_item : List ℕ → List ℕ → ℕ → Bool
is_item s t i = is_row t i && is_named s (line_in t i)

-- the taken positions run from the top and are below n
unfoldable pub is_own : ℕ → ℕ → Bool
is_own taken n = is_run taken && ltb taken (2 ^ n)

-- at most 32 rows, which are such lines; the taken positions are ones that the path has, and run from the top
unfoldable pub is_path : List ℕ → List ℕ → Path → Bool
is_path s t p = ltb p.count 33 && (is_own p.taken p.count && list_all (λ q. is_item s t q.row) (take p.count p.places))

-- where a variable stands, and its name, if the line is a variable's and the name lies in the listing
unfoldable pub variable_of : List ℕ → Line → Option (Location × Place)
variable_of s = elim [ Expression (Variable w x) ↦ cond (is_inside s x) (Some (w, x)) None | _ ↦ None ]

-- the variable of row i, whose listing line is a number of 16 bits
unfoldable pub variable_in : List ℕ → List ℕ → ℕ → Option (Location × Place)
variable_in s t i = cond (ltb i 65535 && is_row t i) (variable_of s (line_in t i)) None

-- where an if stands, if the line is an if's
unfoldable pub if_of : Line → Option Location
if_of = elim [ Statement (IfStatement w e) ↦ Some w | _ ↦ None ]

-- the location of row i's if
unfoldable pub if_in : List ℕ → ℕ → Option Location
if_in t i = cond (is_row t i) (if_of (line_in t i)) None

-- A path of the code as a table of document 01, and what a walk over it answers.
use Rattle.std.specs.Prelude.{ℕ, zero, suc, ◌+◌, ◌/◌, ◌%◌, ◌^◌, ◌≤◌, ◌<◌, List, [], ◌∷◌, map, true, false, ◌≡◌, length, get_or, set, replicate, Ok, Err}
use Rattle.std.proofs.Math.Option.{Option, some, none}
use Rattle.rules.specs.Result.{Result}
use Rattle.rules.specs.Table.{Table}
use Rattle.names.specs.Items.{NamedRow, item_in}
use Rattle.paths.specs.declared.NamePlace.{NamePlace}
use Rattle.paths.specs.declared.Path.{Path}
use Rattle.taken.specs.Taken.{is_taken, with_bit, is_run}

-- the line that took an item, if its bit is 1
unfoldable pub taken_by : ℕ → ℕ → Option ℕ
taken_by zero n = none
taken_by (suc b) n = some n

-- n entries, x being the set of those taken
unfoldable pub table_from : List ℕ → List ℕ → List NamePlace → ℕ → ℕ → Table
table_from s t [] x n = []
table_from s t (q ∷ qs) x zero = []
table_from s t (q ∷ qs) x (suc n) = record { param = item_in s t q.row; taken = taken_by (x % 2) q.line } ∷ table_from s t qs (x / 2) n

unfoldable pub table_of : List ℕ → List ℕ → Path → Table
table_of s t p = table_from s t p.places p.taken p.count

-- the place of what stands nowhere
abbrev pub no_place : NamePlace
no_place = record { row = 0; line = 0 }

-- a path without items
abbrev pub no_path : Path
no_path = record { places = replicate 32 no_place; count = 0; taken = 0 }

-- the rows of a path's items
abbrev pub rows_of : Path → List ℕ
rows_of p = map (λ q. q.row) p.places

-- each of a path's rows is an item's line, and the taken positions are ones that it has and run from the top
pub record WellFormed (s t : List ℕ) (p : Path) : Type 0 where
  pub full : length p.places ≡ 32
  pub few : p.count ≤ 32
  pub within : p.taken < 2 ^ p.count
  pub run : is_run p.taken ≡ true
  pub rows : (k : ℕ) → k < p.count → NamedRow s t (get_or (rows_of p) k 0)

-- q has the items of p: what is taken in p is taken in q, and a position that is not taken in q is as it was
pub record SameItems (p q : Path) : Type 0 where
  pub rows : rows_of q ≡ rows_of p
  pub count : q.count ≡ p.count
  pub more : (k : ℕ) → is_taken p.taken k ≡ true → is_taken q.taken k ≡ true
  pub rest : (k : ℕ) → is_taken q.taken k ≡ false → get_or q.places k no_place ≡ get_or p.places k no_place

-- the places of a path whose items stand in the rows before j, the last of them at position 0: a position that is not taken has line 0, and past the items there is nothing
pub record Placed (j : ℕ) (p : Path) : Type 0 where
  pub row : (k : ℕ) → k < p.count → (get_or p.places k no_place).row + suc k ≡ j
  pub line : (k : ℕ) → is_taken p.taken k ≡ false → (get_or p.places k no_place).line ≡ 0
  pub past : (k : ℕ) → p.count ≤ k → get_or p.places k no_place ≡ no_place

-- position k taken by a line
abbrev pub marked : Path → ℕ → ℕ → Path
marked p k n = record {
  places = set p.places k (record { row = (get_or p.places k no_place).row; line = n });
  count = p.count;
  taken = with_bit p.taken k;
}

-- a path, or a fault, as the rules have it
abbrev pub result_of : List ℕ → List ℕ → Result Path → Result Table
result_of s t (Ok q) = Ok (table_of s t q)
result_of s t (Err x) = Err x

-- after a pass: the path q, which was p, is well formed and has the same items
pub record Onward (s t : List ℕ) (p q : Path) : Type 0 where
  pub sound : WellFormed s t q
  pub items : SameItems p q

-- what is answered from the path p: a rule's result, and after a pass the path goes on
pub record Walked (s t : List ℕ) (p : Path) (w : Result Table) (r : Result Path) : Type 0 where
  pub result : result_of s t r ≡ w
  pub onward : (q : Path) → r ≡ Ok q → Onward s t p q

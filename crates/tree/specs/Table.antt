-- The table of rows that stands for a listing: how many rows it has, and whether the listing ends after the last.
use Rattle.std.specs.Prelude.{ℕ, ◌≤◌, true, false, List, ◌≡◌, Result, Ok, Err, ltb}
use Rattle.rows.specs.Rows.{line_in}
use Rattle.tree.specs.declared.Lines.{Lines}
use Rattle.reader.specs.Ast.{CompileError, Line, Next, found, malformed, ended}
use Rattle.reader.specs.Source.{Read, read, refused}
use Rattle.reader.specs.Ceilings.{max_lines}
use Rattle.reader.specs.Spells.{nth}

-- what stands as a line: its form, no form, or the end of the listing
pub data Asked : Type 0 where
  Found : Line → Asked
  Malformed : Asked
  End : Asked

-- what a table says of the line numbered k, from 0
unfoldable pub asked : List ℕ → Lines → ℕ → Asked
asked t n k = elim (ltb k n.count) [ true ↦ Found (line_in t k) | false ↦ elim n.ended [ true ↦ End | false ↦ Malformed ] ]

-- what the listing says of it
unfoldable pub standing : Next → Asked
standing (found l n t) = Found l
standing malformed = Malformed
standing ended = End

-- the table says of each line that may be asked what the listing says
abbrev pub Holds : List ℕ → List ℕ → Lines → Type 0
Holds s t n = (k : ℕ) → k ≤ max_lines → asked t n k ≡ standing (nth k 0 s)

-- a reading as the code has it: the number of the next line, or the refusal
unfoldable pub stepped : {A : Type 0} → Read A → Result ℕ CompileError
stepped (read a q) = Ok q.index
stepped (refused x) = Err x

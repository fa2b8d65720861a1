-- Trees that stand in a table of rows, and what a walk over one answers.
use Rattle.std.specs.Prelude.{ℕ, ◌+◌, ◌≤◌, ◌<◌, List, ◌≡◌, length, Ok}
use Rattle.std.proofs.Math.Option.{some}
use Rattle.rules.specs.Result.{Result, Checked, ◌>>◌}
use Rattle.text.specs.declared.Place.{Place}
use Rattle.listing.specs.declared.Line.{Line}
use Rattle.listing.specs.Kinds.{part_of}
use Rattle.rows.specs.Rows.{line_in, HasRow, HasRows}
use Rattle.reader.specs.Ceilings.{max_bytes, max_lines}
use Rattle.reader.specs.Spells.{SpellsExpression, SpellsFactor, SpellsFactors, SpellsStatement, SpellsBlock, SpellsStatements}

-- n rows that can be read: there is room for them, and the parts they name lie in the listing
pub record Rows (s t : List ℕ) (n : ℕ) : Type 0 where
  pub short : length s ≤ max_bytes
  pub few : n ≤ max_lines
  pub room : HasRows t n
  pub parts : (k : ℕ) → k < n → (x : Place) → part_of (line_in t k) ≡ some x → x.at + x.len ≤ length s

-- a tree stands at row i; `R i e j`: the rows from i up to j spell e
pub record Stands {A : Type 0} (R : ℕ → A → ℕ → Type 0) (s t : List ℕ) (i : ℕ) : Type 0 where
  pub tree : A
  pub next : ℕ
  pub spells : R i tree next
  pub count : ℕ
  pub within : next ≤ count
  pub rows : Rows s t count

abbrev pub ExpressionAt : List ℕ → List ℕ → ℕ → Type 0
ExpressionAt s t i = Stands (SpellsExpression (line_in t) s) s t i

abbrev pub FactorAt : List ℕ → List ℕ → ℕ → Type 0
FactorAt s t i = Stands (SpellsFactor (line_in t) s) s t i

-- n factors from row i on
abbrev pub FactorsAt : List ℕ → List ℕ → ℕ → ℕ → Type 0
FactorsAt s t n i = Stands (SpellsFactors (line_in t) s n) s t i

abbrev pub StatementAt : List ℕ → List ℕ → ℕ → Type 0
StatementAt s t i = Stands (SpellsStatement (line_in t) s) s t i

abbrev pub BlockAt : List ℕ → List ℕ → ℕ → Type 0
BlockAt s t i = Stands (SpellsBlock (line_in t) s) s t i

-- n statements from row i on
abbrev pub StatementsAt : List ℕ → List ℕ → ℕ → ℕ → Type 0
StatementsAt s t n i = Stands (SpellsStatements (line_in t) s n) s t i

-- row i is there, and is a line of a kind: `make` makes the line of what it holds
pub record Holds {X : Type 0} (make : X → Line) (t : List ℕ) (i : ℕ) : Type 0 where
  pub held : X
  pub is : line_in t i ≡ make held
  pub room : HasRow t i

-- a check that ends before row j, as a walk answers it: the next row, or the fault
abbrev pub walked : Checked → ℕ → Result ℕ
walked c j = c >> Ok j

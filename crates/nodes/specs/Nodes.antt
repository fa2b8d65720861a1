-- Nodes, one after the other: by their lines alone, and as trees.
use Rattle.std.specs.Prelude.{ℕ, zero, suc, ◌+◌, ◌≤◌, List, [], ◌∷◌}
use Rattle.ast.specs.Tree.{Expression, Factor}
use Rattle.listing.specs.declared.Line.{Line}
use Rattle.rows.specs.Rows.{line_in, HasRows}
use Rattle.reader.specs.Ceilings.{max_lines}
use Rattle.reader.specs.Parts.{count_of}
use Rattle.reader.specs.Spells.{SpellsExpression, SpellsFactor}
use Rattle.nodes.specs.Stands.{Stands}

-- how many parts an expression or a factor has by its line; no other line counts
abbrev pub operands_of : Line → ℕ
operands_of (Line.Contract g n) = 0
operands_of (Line.Declaration n) = 0
operands_of (Line.StackParam w t x) = 0
operands_of (Line.Block n) = 0
operands_of (Line.Statement l) = 0
operands_of (Line.Expression l) = count_of (Line.Expression l)
operands_of (Line.Factor l) = count_of (Line.Factor l)

-- n nodes of any kind from row i up to j: below a line stand as many as it has parts
pub data Spans (L : ℕ → Line) : ℕ → ℕ → ℕ → Type 0 where
  nil : {i : ℕ} → Spans L zero i i
  cons : {i j n : ℕ} → Spans L (count_of (L i) + n) (suc i) j → Spans L (suc n) i j

-- n nodes stand at row i
pub record Spanned (t : List ℕ) (n i : ℕ) : Type 0 where
  pub next : ℕ
  pub spans : Spans (line_in t) n i next
  pub few : next ≤ max_lines
  pub room : HasRows t next

-- an expression or a factor
pub data Node : Type 0 where
  expression : Expression → Node
  factor : Factor → Node

-- n of them from row i up to j
pub data SpellsNodes (L : ℕ → Line) (s : List ℕ) : ℕ → ℕ → List Node → ℕ → Type 0 where
  nil : {i : ℕ} → SpellsNodes L s zero i [] i
  expression : {i j k n : ℕ} {e : Expression} {ns : List Node} → SpellsExpression L s i e j → SpellsNodes L s n j ns k → SpellsNodes L s (suc n) i (Node.expression e ∷ ns) k
  factor : {i j k n : ℕ} {f : Factor} {ns : List Node} → SpellsFactor L s i f j → SpellsNodes L s n j ns k → SpellsNodes L s (suc n) i (Node.factor f ∷ ns) k

abbrev pub NodesAt : List ℕ → List ℕ → ℕ → ℕ → Type 0
NodesAt s t n i = Stands (SpellsNodes (line_in t) s n) s t i

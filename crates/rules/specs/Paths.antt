-- The paths through a block, if-block before else-block, and their number.
use Rattle.std.specs.Prelude.{ℕ, ◌+◌, List, [], ◌∷◌, ◌++◌, map}
use Rattle.rules.specs.Ast.{Expression, Statement, Block, IfStatement, IfElseStatement, LocktimeStatement, VerifyStatement, ExpressionStatement, []ᵇ, ◌∷ᵇ◌}

-- a path: the expressions of the verifies, conditions and the return that it goes through, in order
abbrev pub Path : Type 0
Path = List Expression

-- the paths of a block: its statements in order; at an if on into one of the two blocks; the end at a return.
-- `through s ps`: the paths that begin with s, ps being those of the statements after it
unfoldable mutual
  pub through : Statement → List Path → List Path
  through (IfStatement l e b) ps = map (e ∷◌) (paths b)
  through (IfElseStatement l e b c) ps = map (e ∷◌) (paths b ++ paths c)
  through (LocktimeStatement l n o v) ps = ps
  through (VerifyStatement l e) ps = map (e ∷◌) ps
  through (ExpressionStatement l e) ps = (e ∷ []) ∷ []

  pub paths : Block → List Path
  paths []ᵇ = []
  paths (s ∷ᵇ b) = through s (paths b)

-- count_paths: how many paths a block has
unfoldable mutual
  pub count_through : Statement → ℕ → ℕ
  count_through (IfStatement l e b) n = count b
  count_through (IfElseStatement l e b c) n = count b + count c
  count_through (LocktimeStatement l m o v) n = n
  count_through (VerifyStatement l e) n = n
  count_through (ExpressionStatement l e) n = 1

  pub count : Block → ℕ
  count []ᵇ = 0
  count (s ∷ᵇ b) = count_through s (count b)

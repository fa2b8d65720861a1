-- What stands below an expression's line, and what a walk over trees that may take items answers.
use Rattle.std.specs.Prelude.{ℕ, zero, suc, ◌<◌, List, [], ◌∷◌, ◌≡◌, Ok, Err}
use Rattle.ast.specs.Tree.{Expression, Factor, Factors}
use Rattle.listing.specs.declared.ExpressionLine.{ExpressionLine}
use Rattle.listing.specs.declared.Line.{Line}
use Rattle.rows.specs.Rows.{line_in}
use Rattle.reader.specs.Spells.{SpellsExpression, SpellsFactors}
use Rattle.rules.specs.Result.{Result, ◌>>=◌}
use Rattle.rules.specs.Table.{Table}
use Rattle.rules.specs.Usage.{usage, usage_factor, usage_factors}
use Rattle.nodes.specs.Stands.{Stands}
use Rattle.usage.specs.declared.Parts.{Parts}
use Rattle.usage.specs.declared.Parts.TheVariants.{Named, Expressions, Factors as Signed}
use Rattle.paths.specs.declared.Path.{Path}
use Rattle.usage.specs.declared.Used.{Used}
use Rattle.paths.specs.Path.{table_of, Walked}

-- n expressions, one after the other
pub data SpellsExpressions (L : ℕ → Line) (s : List ℕ) : ℕ → ℕ → List Expression → ℕ → Type 0 where
  nil : {i : ℕ} → SpellsExpressions L s zero i [] i
  cons : {i j k n : ℕ} {e : Expression} {es : List Expression} → SpellsExpression L s i e j → SpellsExpressions L s n j es k → SpellsExpressions L s (suc n) i (e ∷ es) k

abbrev pub ExpressionsAt : List ℕ → List ℕ → ℕ → ℕ → Type 0
ExpressionsAt s t n i = Stands (SpellsExpressions (line_in t) s n) s t i

unfoldable pub usage_all : List Expression → Table → Result Table
usage_all [] t = Ok t
usage_all (e ∷ es) t = usage e t >>= λ t'. usage_all es t'

module _ (L : ℕ → Line) (s : List ℕ) where
  -- what stands below row i: from row k up to j, and a rule of it
  abbrev Below : ℕ → ℕ → (Table → Result Table) → Parts → Type 0
  Below i j rule (Named w x) = ⊥
  Below i j rule (Expressions n k) = (i < k) × ((es : List Expression) × SpellsExpressions L s n k es j × ((t : Table) → rule t ≡ usage_all es t))
  Below i j rule (Signed n k) = (i < k) × ((fs : Factors) × SpellsFactors L s n k fs j × ((t : Table) → rule t ≡ usage_factors fs t))

  -- the parts of a factor, and of an expression, that stands from row i up to j
  abbrev pub FactorParts : ℕ → Factor → ℕ → Parts → Type 0
  FactorParts i f j p = Below i j (usage_factor f) p

  abbrev pub PartsAre : ℕ → Expression → ℕ → Parts → Type 0
  PartsAre i e j (Named w x) = L i ≡ Line.Expression (ExpressionLine.Variable w x)
  PartsAre i e j (Expressions n k) = Below i j (usage e) (Expressions n k)
  PartsAre i e j (Signed n k) = Below i j (usage e) (Signed n k)

-- the path of a walk's answer
abbrev pub path_of : Result Used → Result Path
path_of (Ok u) = Ok u.path
path_of (Err x) = Err x

-- what a walk from the path p answers: a rule's result, and after a pass it is at row j
pub record WalkedTo (s t : List ℕ) (p : Path) (w : Result Table) (j : ℕ) (r : Result Used) : Type 0 where
  pub walked : Walked s t p w (path_of r)
  pub next : (u : Used) → r ≡ Ok u → u.next ≡ j

-- a walk from row i and the path p: for every tree that stands there, the rule's answer, and a pass ends where the tree does
abbrev pub Walks : {A : Type 0} → (ℕ → A → ℕ → Type 0) → (A → Table → Result Table) → List ℕ → List ℕ → ℕ → Path → Result Used → Type 0
Walks {A} R rule s t i p r = (e : A) (j : ℕ) → R i e j → WalkedTo s t p (rule e (table_of s t p)) j r

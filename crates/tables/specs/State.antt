-- The tables of all paths, as the walk over the statements holds them: a path for each declaration.
use Rattle.std.specs.Prelude.{ℕ, ◌+◌, ◌≤◌, ◌<◌, List, [], map, take, ◌≡◌, length, get_or, Ok, Err}
use Rattle.rules.specs.Result.{Result}
use Rattle.rules.specs.Table.{Table, params}
use Rattle.names.specs.Items.{ItemsAt, items_down}
use Rattle.paths.specs.declared.Path.{Path}
use Rattle.paths.specs.Path.{table_of, no_path, WellFormed, Placed}
use Rattle.declarations.specs.declared.Declared.{Declared}
use Rattle.declarations.specs.Items.{item_rows}

-- the path p
abbrev pub path_at : List Path → ℕ → Path
path_at paths p = get_or paths p (record { places = []; count = 0; taken = 0 })

-- the tables of all paths
abbrev pub tables_of : List ℕ → List ℕ → Declared → List Path → List Table
tables_of s t d paths = map (table_of s t) (take d.count paths)

-- a path that is used with the items of a declaration: `count` of them, the first at row `first`; its places are those of these rows
pub record PathReady (s t : List ℕ) (first count : ℕ) (p : Path) : Type 0 where
  pub formed : WellFormed s t p
  pub items : ItemsAt s t count first
  pub same : params (table_of s t p) ≡ items_down s t first count
  pub placed : Placed (first + count) p

-- path n is used with the items of declaration n
abbrev pub ReadyAt : List ℕ → List ℕ → Declared → ℕ → Path → Type 0
ReadyAt s t d n p = PathReady s t (item_rows d n).first (item_rows d n).count p

-- path n, if it is declared, can be used, whatever the others are
abbrev pub InUse : List ℕ → List ℕ → Declared → ℕ → List Path → Type 0
InUse s t d n paths = (d.count ≤ length paths) × (n < d.count → ReadyAt s t d n (path_at paths n))

-- every path of a declaration is, and those past the last declaration are empty
pub record Ready (s t : List ℕ) (d : Declared) (paths : List Path) : Type 0 where
  pub few : d.count ≤ 32
  pub full : length paths ≡ 32
  pub each : (p : ℕ) → p < d.count → ReadyAt s t d p (path_at paths p)
  pub past : (p : ℕ) → d.count ≤ p → p < 32 → path_at paths p ≡ no_path

-- the tables of all paths, or a fault, as the rules have them
abbrev pub tables_in : List ℕ → List ℕ → Declared → Result (List Path) → Result (List Table)
tables_in s t d (Ok paths) = Ok (tables_of s t d paths)
tables_in s t d (Err x) = Err x

-- what is answered with all paths: a rule's result, and after a pass every path can be used
pub record Answered (s t : List ℕ) (d : Declared) (w : Result (List Table)) (r : Result (List Path)) : Type 0 where
  pub result : tables_in s t d r ≡ w
  pub ready : (paths : List Path) → r ≡ Ok paths → Ready s t d paths

-- Where the walk over the statements stands, and what a step of it says.
use Rattle.std.specs.Prelude.{ℕ, suc, ◌<◌, List, ◌≡◌, set, replicate, Ok, Err}
use Rattle.rules.specs.Result.{Result, Checked, ◌>>=◌, ◌>>◌}
use Rattle.paths.specs.declared.Path.{Path}
use Rattle.paths.specs.Path.{no_path}
use Rattle.usage.specs.declared.Used.{Used}
use Rattle.declarations.specs.declared.Declared.{Declared}
use Rattle.tables.specs.Held.{Held}
use Rattle.tables.specs.State.{tables_of, ReadyAt, Ready}
use Rattle.statements.specs.declared.Walk.{Walk}

-- a walk that stands nowhere: no path has items
abbrev pub no_walk : Walk
no_walk = record { paths = replicate 32 no_path; branch = 0; next = 0 }

-- on after an expression on the path in use
abbrev pub resumed : Walk → Used → Walk
resumed w u = record { paths = set w.paths w.branch u.path; branch = w.branch; next = u.next }

-- on with the next path
abbrev pub turned : Walk → Path → Walk
turned w p = record { paths = set w.paths (suc w.branch) p; branch = suc w.branch; next = w.next }

-- what the walk holds
abbrev pub held_of : List ℕ → List ℕ → Declared → Walk → Held
held_of s t d w = record { tables = tables_of s t d w.paths; branch = w.branch }

-- a walk, or a fault, as the rules have it
abbrev pub held_in : List ℕ → List ℕ → Declared → Result Walk → Result Held
held_in s t d (Ok w) = Ok (held_of s t d w)
held_in s t d (Err x) = Err x

-- what a call leaves, if it passes
abbrev pub leaving : {A : Type 0} → Checked → A → Result A
leaving r a = r >> Ok a

-- a step of the walk: a rule's result; after a pass the next row is j, and every path can still be used
pub record Moved (s t : List ℕ) (d : Declared) (w : Result Held) (j : ℕ) (r : Result Walk) : Type 0 where
  pub result : held_in s t d r ≡ w
  pub onward : (v : Walk) → r ≡ Ok v → (v.next ≡ j) × Ready s t d v.paths

-- an expression on the path in use: a rule's result; after a pass the next row is j, and the path, which is declared, can still be used
pub record Tried (s t : List ℕ) (d : Declared) (w : Result Held) (j : ℕ) (v : Walk) (r : Result Used) : Type 0 where
  pub result : held_in s t d (r >>= λ u. Ok (resumed v u)) ≡ w
  pub onward : (u : Used) → r ≡ Ok u → (u.next ≡ j) × ReadyAt s t d v.branch u.path × (v.branch < d.count)

-- a step that `go` makes on the walk of what is answered; after a pass path n is declared
pub record Stepped {A : Type 0} (s t : List ℕ) (d : Declared) (w : Result Held) (j n : ℕ) (go : A → Walk) (r : Result A) : Type 0 where
  pub moved : Moved s t d w j (r >>= λ a. Ok (go a))
  pub within : (a : A) → r ≡ Ok a → n < d.count

-- build_symbol_table: a path's table from the top of its stack.
use Rattle.std.specs.Prelude.{ℕ, Bool, true, false, ◌||◌, List, [], ◌∷◌, map, Ok}
use Rattle.std.proofs.Math.Option.{Option, none}
use Rattle.rules.specs.Ast.{Name, same, StackParam, Declaration, from_top, DuplicateVariable}
use Rattle.rules.specs.Result.{Result, ◌>>=◌, refuse}

-- an item of a path's table: what was declared, and the listing line that took it, if any
pub record Entry : Type 0 where
  pub param : StackParam
  pub taken : Option ℕ

-- position 0, the stack's top, stands first
abbrev pub Table : Type 0
Table = List Entry

-- what a table was built from, from the top
abbrev pub params : Table → List StackParam
params t = map (λ e. e.param) t

-- whether a name is among those met
unfoldable pub among : Name → List Name → Bool
among x [] = false
among x (y ∷ ys) = same x y || among x ys

-- the items from last declared to first, `met` being the names of those before; a name already met is 11 at the one met now
unfoldable pub enter : List Name → List StackParam → Result Table
enter met [] = Ok []
enter met (p ∷ ps) = elim (among p.identifier met) [
  | true ↦ refuse DuplicateVariable p.loc
  | false ↦ enter (p.identifier ∷ met) ps >>= λ t. Ok (record { param = p; taken = none } ∷ t)
]

unfoldable pub build : Declaration → Result Table
build d = enter [] (from_top d)

-- one table for each declaration, in order
unfoldable pub build_all : List Declaration → Result (List Table)
build_all [] = Ok []
build_all (d ∷ ds) = build d >>= λ t. build_all ds >>= λ ts. Ok (t ∷ ts)

-- check_unused_variable: 14.
use Rattle.std.specs.Prelude.{ℕ, List, [], ◌∷◌, Ok}
use Rattle.std.proofs.Math.Option.{Option, some, none}
use Rattle.rules.specs.Ast.{Location, UnusedVariable}
use Rattle.rules.specs.Result.{Checked, both, refused}
use Rattle.rules.specs.Table.{Table}

-- an item that no line took is 14 at it
unfoldable pub used : Location → Option ℕ → Checked
used l none = refused UnusedVariable l
used l (some n) = Ok tt

-- first declared first: from the bottom of the table up
unfoldable pub unused : Table → Checked
unused [] = Ok tt
unused (e ∷ t) = both (unused t) (used e.param.loc e.taken)

-- by path
unfoldable pub unused_all : List Table → Checked
unused_all [] = Ok tt
unused_all (t ∷ ts) = both (unused t) (unused_all ts)

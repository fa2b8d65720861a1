-- transfer_prefix_consumption, before an else-block: 20.
use Rattle.std.specs.Prelude.{ℕ, Bool, true, false, ◌&&◌, ◌||◌, [], ◌∷◌, Ok}
use Rattle.std.proofs.Math.Option.{Option, some, none}
use Rattle.rules.specs.Ast.{Location, same, DeclarationPathMismatch}
use Rattle.rules.specs.Result.{Result, refuse}
use Rattle.rules.specs.Table.{Entry, Table}
use Rattle.rules.specs.Usage.{free}

-- each item taken in the first table exists in the second at the same position
unfoldable pub placed : Table → Table → Bool
placed [] n = true
placed (e ∷ t) [] = free e.taken && placed t []
placed (e ∷ t) (c ∷ n) = (free e.taken || same e.param.identifier c.param.identifier) && placed t n

-- no item is taken
unfoldable pub untaken : Table → Bool
untaken [] = true
untaken (e ∷ t) = free e.taken && untaken t

-- the items taken are a run from position 0
unfoldable pub run : Table → Bool
run [] = true
run (e ∷ t) = elim e.taken [ none ↦ untaken t | some m ↦ run t ]

-- an item is taken by the line, if any, that took it in the first table
unfoldable pub hand_one : Option ℕ → Entry → Entry
hand_one none c = c
hand_one (some m) c = record { param = c.param; taken = some m }

-- what is taken in the first table is taken in the second too
unfoldable pub hand : Table → Table → Table
hand [] n = n
hand (e ∷ t) [] = []
hand (e ∷ t) (c ∷ n) = hand_one e.taken c ∷ hand t n

-- from the table after the condition into the next path's table; 20 at the if
unfoldable pub transfer : Location → Table → Table → Result Table
transfer l t n = elim (placed t n && run t) [
  | true ↦ Ok (hand t n)
  | false ↦ refuse DeclarationPathMismatch l
]

-- The three operations in one, as the code has them.
use Rattle.std.specs.Prelude.{ℕ, List}
use Rattle.ast.specs.Tree.{StackParam}
use Rattle.turns.specs.declared.Rehearsal.{Rehearsal}
use Rattle.turns.specs.declared.Rehearsed.{Rehearsed}
use Rattle.turns.specs.declared.Turn.{Turn}
use Rattle.turns.specs.declared.Turn.TheVariants.{Open, Lay, TakeBack}
use Rattle.turns.specs.State.{onward, beginning, lowered}
use Rattle.rehearsal.specs.Rehearse.{shown, lay_on, on_path}

-- a turn on a path's items
unfoldable pub act : List ℕ → Rehearsal → Turn → List StackParam → Rehearsed
act s r Open ps = shown s (onward r.path (beginning s)) ps
act s r (Lay x t) ps = lay_on s r (record { name = x.now; ty = t }) ps
act s r TakeBack ps = shown s (onward r.path (lowered (beginning s) r.due)) ps

-- an operation as a turn: `opened`, `laid` or `taken_back`
abbrev pub turned : List ℕ → ℕ → Rehearsal → Turn → Rehearsed
turned s words r turn = on_path s words r.path (act s r turn)

-- An ended rehearsal's names are the stack of demand 3 of its path, and the path empties it.
use Prim.Native.Nat.{ℕ, ◌<◌}
use native.Mathlib.Omega.{arith}
use mathlib.Core.List.{List, map}
use mathlib.Core.Path.{◌≡◌, sym, ◌∙◌, ap}
use Rattle.std.proofs.lemmas.Simd.{map-map}
use Rattle.ast.specs.Tree.{StackParam, Contract}
use Rattle.rules.specs.Paths.{count}
use Rattle.rules.specs.Table.{params}
use Rattle.rules.specs.Stack.{stack, declaration_of}
use Rattle.rules.proofs.State.{idents}
use Rattle.rules.proofs.Flowing.{count-paths}
use Rattle.rules.proofs.Demand3.{accepted-in-order}
use Rattle.reader.proofs.Complete.{readable-reads}
use Rattle.rules.proofs.Theorem.{check as check_tree}
use Rattle.examiner.specs.Check.{check}
use Rattle.rules.specs.Result.{answer}
use Rattle.examiner.proofs.Demand3.{Holds, accepts, examined}
use Rattle.reporting.specs.Text.{item_of}
use Rattle.rehearsal.specs.Items.{report_lines}
use Rattle.turns.specs.State.{beginning}
use Rattle.rehearsal.specs.Theorem.{EndsOnStack}
use Rattle.rehearsal.proofs.Tables.{OnTable, opens-on, accepted, lines_are, items-are, path-below}
use Rattle.rehearsal.proofs.Sequences.{ends-exactly}

-- the names of report lines are those of the items
names_of : (ps : List StackParam) → map (λ x. x.name) (map item_of ps) ≡ idents ps
names_of ps = map-map (λ x. x.name) item_of ps

-- the names of a path's report lines, from the top, are its stack
pub names-stack : (s : List ℕ) (words path : ℕ) (c : Contract) → Holds s c → OnTable s words path → map (λ x. x.name) (report_lines s words path) ≡ stack (declaration_of c path)
unfolding beginning
names-stack s words path c k o = ap (map (λ x. x.name)) (lines_are s words path o) ∙ names_of (params o.table) ∙ ap idents (items-are s words path o c k)

-- AN ENDED REHEARSAL LAYS THE STACK OF ITS PATH
pub ends-on-stack : EndsOnStack
unfolding check check_tree
ends-on-stack s words path r calls c m l h e =
    let o = opens-on s words path h in
    let q = readable-reads s c m l in
    let k : Holds s c = (q.0, q.1) in
    let a = accepted s words path o in
    let w = (accepts s words a).work in
    let i : path < count c.block = omega (arith, path-below s words path o c k, count-paths c.block) in (
      ap (map (λ x. x.name)) ((ends-exactly s words path r calls h).0 e) ∙ names-stack s words path c k o,
      i,
      (accepted-in-order c (sym (ap answer (examined s words c w k)) ∙ a)).1 path i,
    )

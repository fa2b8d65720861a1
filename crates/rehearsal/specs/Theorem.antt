-- What is promised over sequences of calls from open on, for every listing, every path and every work memory.
use Rattle.std.specs.Prelude.{ℕ, ◌<◌, List, [], map, ◌↔◌, ◌≡◌}
use Rattle.ast.specs.Tree.{Contract}
use Rattle.rules.specs.Paths.{count}
use Rattle.rules.specs.Stack.{stack, declaration_of, Empties}
use Rattle.reader.specs.Readable.{Readable}
use Rattle.turns.specs.declared.Rehearsal.{Rehearsal}
use Rattle.turns.specs.declared.Rehearsed.{Rehearsed}
use Rattle.turns.specs.declared.Rehearsed.TheVariants.{Due, Ended, Refused}
use Rattle.reporting.specs.Text.{WitnessItem}
use Rattle.rehearsal.specs.Items.{report_lines}
use Rattle.rehearsal.specs.Rehearse.{opened}
use Rattle.rehearsal.specs.Plain.{Said, ended, next, lay}
use Rattle.rehearsal.specs.Calls.{Call, kept, answers, said_by, sayings, items_after, standing}

-- an answer that leaves a rehearsal to go on with
abbrev pub Goes : Rehearsed → Type 0
Goes (Due p t r) = Unit {0}
Goes (Ended r) = Unit {0}
Goes (Refused x) = ⊥

-- open gives one
abbrev pub Opens : List ℕ → ℕ → ℕ → Type 0
Opens s words path = Goes (opened s words path)

-- all that is said to the calls after open, r being whatever rehearsal stood before it
abbrev pub all_said : List ℕ → ℕ → ℕ → Rehearsal → List Call → List Said
all_said s words path r calls = map (said_by s) (answers s (kept r (opened s words path)) calls)

-- the rehearsal has ended: that is what stands after the calls
abbrev pub HasEnded : List ℕ → ℕ → ℕ → Rehearsal → List Call → Type 0
HasEnded s words path r calls = standing (said_by s (opened s words path)) (all_said s words path r calls) ≡ ended

-- the items laid, taken back ones and refused ones aside
abbrev pub items_laid : List ℕ → ℕ → ℕ → List Call → List WitnessItem
items_laid s words path calls = items_after (report_lines s words path) [] calls

-- the counted state and the list agree, answer for answer
abbrev pub Agrees : Type 0
Agrees = (s : List ℕ) (words path : ℕ) (r : Rehearsal) (calls : List Call) → Opens s words path →
    (said_by s (opened s words path) ≡ next (report_lines s words path) []) × (all_said s words path r calls ≡ sayings (report_lines s words path) [] calls)

-- it has ended exactly when the items laid are the path's report lines from the beginning on
abbrev pub EndsExactly : Type 0
EndsExactly = (s : List ℕ) (words path : ℕ) (r : Rehearsal) (calls : List Call) → Opens s words path →
    HasEnded s words path r calls ↔ (items_laid s words path calls ≡ report_lines s words path)

-- then the names laid, first laid first, are the stack of demand 3 for that path, c being the contract that the listing's lines
-- spell, and the path empties it
abbrev pub EndsOnStack : Type 0
EndsOnStack = (s : List ℕ) (words path : ℕ) (r : Rehearsal) (calls : List Call) (c : Contract) (m : ℕ) → Readable s c m → Opens s words path → HasEnded s words path r calls →
    (map (λ x. x.name) (items_laid s words path calls) ≡ stack (declaration_of c path)) × (path < count c.block) × Empties c path

-- and every rehearsal can be ended: by laying the path's report lines one after the other
abbrev pub CanEnd : Type 0
CanEnd = (s : List ℕ) (words path : ℕ) (r : Rehearsal) → Opens s words path →
    HasEnded s words path r (map (λ x. record { words = words; ask = lay x }) (report_lines s words path))

-- Sequences of calls on one listing, each with the rehearsal as the last one left it.
use Rattle.std.specs.Prelude.{ℕ, true, false, List, [], ◌∷◌, ltb}
use Rattle.ast.specs.declared.ErrorKind.TheVariants.{WorkTooShort}
use Rattle.ast.specs.Tree.{unplaced, fault}
use Rattle.ast.specs.Numbers.{type_number}
use Rattle.text.specs.Text.{part}
use Rattle.rows.specs.Work.{work_words}
use Rattle.reporting.specs.Text.{WitnessItem}
use Rattle.turns.specs.declared.Rehearsal.{Rehearsal}
use Rattle.turns.specs.declared.Rehearsed.{Rehearsed}
use Rattle.turns.specs.declared.Rehearsed.TheVariants.{Due, Ended, Refused}
use Rattle.rehearsal.specs.Rehearse.{laid, taken_back}
use Rattle.rehearsal.specs.Plain.{Said, due, ended, refused, Ask, lay, take_back, Step, stay, asked}

-- a call: how many words of work it is lent, and what it asks
pub record Call : Type 0 where
  pub words : ℕ
  pub ask : Ask

-- its answer
unfoldable pub answer_to : List ℕ → ℕ → Rehearsal → Ask → Rehearsed
answer_to s words r (lay x) = laid s words r x
answer_to s words r take_back = taken_back s words r

-- the rehearsal that an answer leaves; a refusal changes nothing
unfoldable pub kept : Rehearsal → Rehearsed → Rehearsal
kept r (Due p t q) = q
kept r (Ended q) = q
kept r (Refused x) = r

-- the answers to calls, one after the other
unfoldable pub answers : List ℕ → Rehearsal → List Call → List Rehearsed
answers s r [] = []
answers s r (c ∷ cs) = let a = answer_to s c.words r c.ask in a ∷ answers s (kept r a) cs

-- what an answer says to the owner, who reads the name at its place in the listing
unfoldable pub said_by : List ℕ → Rehearsed → Said
said_by s (Due p t r) = due (record { name = part s p; ty = type_number t })
said_by s (Ended r) = ended
said_by s (Refused x) = refused x

-- the same calls to the plain machine; one that is lent too little work changes nothing
unfoldable pub called : List WitnessItem → List WitnessItem → Call → Step
called lines xs c = elim (ltb c.words work_words) [
  | true ↦ stay xs (fault WorkTooShort unplaced)
  | false ↦ asked lines xs c.ask
]

-- what it says to calls, one after the other
unfoldable pub sayings : List WitnessItem → List WitnessItem → List Call → List Said
sayings lines xs [] = []
sayings lines xs (c ∷ cs) = let k = called lines xs c in k.said ∷ sayings lines k.items cs

-- and the items laid after them
unfoldable pub items_after : List WitnessItem → List WitnessItem → List Call → List WitnessItem
items_after lines xs [] = xs
items_after lines xs (c ∷ cs) = items_after lines (called lines xs c).items cs

-- what stands after all: what was said last, refusals aside
unfoldable pub standing : Said → List Said → Said
standing a [] = a
standing a (due y ∷ later) = standing (due y) later
standing a (ended ∷ later) = standing ended later
standing a (refused x ∷ later) = standing a later

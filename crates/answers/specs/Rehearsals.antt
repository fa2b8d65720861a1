-- A rehearsal, the item due and the answer in numbers.
use Rattle.std.specs.Prelude.{ℕ, List, [], ◌∷◌, ◌≡◌, get_or, Ok, Err}
use Rattle.ast.specs.Numbers.{type_number}
use Rattle.rules.specs.Result.{Checked}
use Rattle.turns.specs.declared.Rehearsal.{Rehearsal}
use Rattle.turns.specs.declared.Rehearsed.{Rehearsed}
use Rattle.turns.specs.declared.Rehearsed.TheVariants.{Due, Ended, Refused}
use Rattle.turns.specs.State.{onward}
use Rattle.answers.specs.Numbers.{numbers_of}

-- the answer: as Check's, acceptance unless it is a refusal
unfoldable pub checked_of : Rehearsed → Checked
checked_of (Due p t r) = Ok tt
checked_of (Ended r) = Ok tt
checked_of (Refused x) = Err x

abbrev pub answer_of : Rehearsed → List ℕ
answer_of a = numbers_of (checked_of a)

-- a rehearsal: its path, and the position due
abbrev pub rehearsal_in : List ℕ → Rehearsal
rehearsal_in w = onward (get_or w 0 0) (get_or w 1 0)

abbrev pub rehearsal_numbers : Rehearsal → List ℕ
rehearsal_numbers r = r.path ∷ r.due ∷ []

-- the rehearsal after a call; a refusal leaves it
unfoldable pub rehearsal_after : Rehearsed → List ℕ → List ℕ
rehearsal_after (Due p t r) w = rehearsal_numbers r
rehearsal_after (Ended r) w = rehearsal_numbers r
rehearsal_after (Refused x) w = w

-- the item due after a call: 1, the place of its name, its length, its type; zeros when ended; a refusal leaves it
unfoldable pub due_after : Rehearsed → List ℕ → List ℕ
due_after (Due p t r) w = 1 ∷ p.at ∷ p.len ∷ type_number t ∷ []
due_after (Ended r) w = 0 ∷ 0 ∷ 0 ∷ 0 ∷ []
due_after (Refused x) w = w

-- what is written of an answer a: w the rehearsal, d the item due, n the answer
abbrev pub Puts : Rehearsed → List ℕ → List ℕ → List ℕ → List ℕ → List ℕ → Type 0
Puts a w₀ d₀ w d n = (w ≡ rehearsal_after a w₀) × (d ≡ due_after a d₀) × (n ≡ answer_of a)

-- what a call returns and leaves: r the number, the rest as above
abbrev pub Leaves : Rehearsed → List ℕ → List ℕ → ℕ → List ℕ → List ℕ → List ℕ → Type 0
Leaves a w₀ d₀ r w d n = (r ≡ get_or (answer_of a) 0 0) × Puts a w₀ d₀ w d n

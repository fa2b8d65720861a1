-- What a rehearsal's call leaves, in numbers.
use Prim.Native.Nat.{ℕ}
use mathlib.Core.List.{List}
use mathlib.Core.Path.{◌≡◌, ap, ◌∙◌, subst}
use lib.ListN.{get_or}
use Rattle.rows.specs.Work.{work_words}
use Rattle.turns.specs.declared.Rehearsed.{Rehearsed}
use Rattle.answers.specs.Rehearsals.{Puts, Leaves}

-- what a call leaves, from what was put of its answer
pub leaves : (f : ℕ → Rehearsed) (w₀ d₀ : List ℕ) {a : Rehearsed} {w d n : List ℕ} {words : ℕ} → words ≡ work_words → a ≡ f words → Puts a w₀ d₀ w d n → Leaves (f work_words) w₀ d₀ (get_or n 0 0) w d n
leaves f w₀ d₀ {w = w} {d = d} {n = n} e g h =
    let q = subst (λ a. Puts a w₀ d₀ w d n) (g ∙ ap f e) h in
    (ap (λ n. get_or n 0 0) q.2, q)

-- What is written of a rehearsal's answer.
use Prim.Native.Nat.{ℕ}
use mathlib.Core.List.{List, [], ◌∷◌}
use mathlib.Core.Path.{◌≡◌, refl, sym, ap, subst}
use Rattle.ast.specs.declared.CompileError.{CompileError}
use Rattle.ast.specs.declared.Type.{«Type» as ItemType}
use Rattle.ast.specs.Numbers.{type_number}
use Rattle.text.specs.declared.Place.{Place}
use Rattle.std.specs.Prelude.{Ok, Err}
use Rattle.turns.specs.declared.Rehearsal.{Rehearsal}
use Rattle.turns.specs.declared.Rehearsed.{Rehearsed}
use Rattle.turns.specs.declared.Rehearsed.TheVariants.{Due, Ended, Refused}
use Rattle.answers.specs.Numbers.{numbers_of}
use Rattle.answers.specs.Rehearsals.{checked_of, rehearsal_numbers, rehearsal_after, due_after, Puts}

module _ (w₀ d₀ : List ℕ) {a : Rehearsed} {n : List ℕ} where
  pub puts-due : {w : List ℕ} {k : ℕ} {p : Place} {t : ItemType} {r : Rehearsal} → a ≡ Due p t r → w ≡ rehearsal_numbers r → k ≡ type_number t → n ≡ numbers_of (Ok tt) → Puts a w₀ d₀ w (1 ∷ p.at ∷ p.len ∷ k ∷ []) n
  unfolding rehearsal_after due_after checked_of
  puts-due {w} {k} {p} e f g h = subst (λ a. Puts a w₀ d₀ w (1 ∷ p.at ∷ p.len ∷ k ∷ []) n) (sym e) (f, ap (λ k. 1 ∷ p.at ∷ p.len ∷ k ∷ []) g, h)

  pub puts-ended : {w : List ℕ} {r : Rehearsal} → a ≡ Ended r → w ≡ rehearsal_numbers r → n ≡ numbers_of (Ok tt) → Puts a w₀ d₀ w (0 ∷ 0 ∷ 0 ∷ 0 ∷ []) n
  unfolding rehearsal_after due_after checked_of
  puts-ended {w} e f h = subst (λ a. Puts a w₀ d₀ w (0 ∷ 0 ∷ 0 ∷ 0 ∷ []) n) (sym e) (f, refl, h)

  pub puts-refusal : {x : CompileError} → a ≡ Refused x → n ≡ numbers_of (Err x) → Puts a w₀ d₀ w₀ d₀ n
  unfolding rehearsal_after due_after checked_of
  puts-refusal e h = subst (λ a. Puts a w₀ d₀ w₀ d₀ n) (sym e) (refl, refl, h)

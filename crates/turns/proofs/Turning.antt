-- What the code's parts do: a turn on the items of the rows, the tests before it.
use Prim.Native.Nat.{ℕ, ◌+◌}
use native.Mathlib.Numerals.{add-one}
use mathlib.Core.Bool.{true, false}
use mathlib.Core.List.{List}
use mathlib.Core.Path.{◌≡◌, sym, ◌∙◌, ap}
use Rattle.std.specs.Prelude.{Some, None}
use Rattle.std.specs.Borrow.{Bor}
use Rattle.ast.specs.declared.CompileError.{CompileError}
use Rattle.reporting.specs.Text.{WitnessItem, item_of}
use Rattle.names.specs.declared.Item.{Item}
use Rattle.declarations.specs.Noted.{item_at, found}
use Rattle.declarations.proofs.Looking.{found-is, found-not}
use Rattle.turns.specs.declared.Rehearsal.{Rehearsal}
use Rattle.turns.specs.declared.Rehearsed.{Rehearsed}
use Rattle.turns.specs.declared.Rehearsed.TheVariants.{Due, Ended, Refused}
use Rattle.turns.specs.declared.Turn.{Turn}
use Rattle.turns.specs.declared.Turn.TheVariants.{Open, Lay, TakeBack}
use Rattle.turns.specs.State.{same_item, beginning, not_due, onward, lowered}
use Rattle.turns.specs.Turns.{param_of, due_of, due_in, is_item, lay_in, turn_in}

-- ---- a turn on the items of the rows

module _ (s : List ℕ) (ps : List (List Item)) (r : Rehearsal) where
  pub shows-item : {q : Item} → Some q ≡ found (item_at ps r.path r.due) → Due q.name q.ty r ≡ due_in ps r
  unfolding due_of
  shows-item e = sym (ap (due_of r) (found-is (item_at ps r.path r.due) e))

  pub shows-end : None ≡ found (item_at ps r.path r.due) → Ended r ≡ due_in ps r
  unfolding due_of
  shows-end e = sym (ap (due_of r) (found-not (item_at ps r.path r.due) e))

  module _ (x : WitnessItem) where
    pub lay-none : {y : CompileError} → y ≡ not_due → None ≡ found (item_at ps r.path r.due) → Refused y ≡ lay_in s ps r x
    unfolding lay_in is_item
    lay-none n e = rw (found-not (item_at ps r.path r.due) e, lay_in) (ap Refused n)

    module _ {q : Item} (e : Some q ≡ found (item_at ps r.path r.due)) where
      pub lay-wrong : {y : CompileError} → y ≡ not_due → same_item x (item_of (param_of s q)) ≡ false → Refused y ≡ lay_in s ps r x
      unfolding lay_in is_item
      lay-wrong n f = rw (found-is (item_at ps r.path r.due) e, lay_in) (rw f (ap Refused n))

      pub lay-right : same_item x (item_of (param_of s q)) ≡ true → due_in ps (onward r.path (r.due + 1)) ≡ lay_in s ps r x
      unfolding lay_in is_item
      lay-right f = rw (found-is (item_at ps r.path r.due) e, lay_in) (rw f (ap (λ k. due_in ps (onward r.path k)) (add-one r.due)))

  module _ {turn : Turn} {a : Rehearsed} where
    pub turns-open : turn ≡ Open → a ≡ due_in ps (onward r.path 0) → a ≡ turn_in s ps r turn
    unfolding turn_in beginning
    turns-open e f = f ∙ sym (ap (turn_in s ps r) e)

    pub turns-lay : {x : Bor (List ℕ)} {k : ℕ} → turn ≡ Lay x k → a ≡ lay_in s ps r (record { name = x.now; ty = k }) → a ≡ turn_in s ps r turn
    unfolding turn_in
    turns-lay e f = f ∙ sym (ap (turn_in s ps r) e)

    pub turns-back : {due : ℕ} → turn ≡ TakeBack → due ≡ lowered 0 r.due → a ≡ due_in ps (onward r.path due) → a ≡ turn_in s ps r turn
    unfolding turn_in beginning
    turns-back e g f = f ∙ ap (λ k. due_in ps (onward r.path k)) g ∙ sym (ap (turn_in s ps r) e)

-- The rule for a variable by position: find the name; unknown 12; taken 13; a smaller position free 15; else it is taken.
use Prim.Native.Nat.{ℕ, zero, suc}
use mathlib.Core.Bool.{Bool, true, false, ◌||◌, or_assoc}
use mathlib.Core.List.{[], ◌∷◌}
use mathlib.Core.Option.{Option, some, none}
use mathlib.Core.Path.{◌≡◌, refl, ◌∙◌, ap}
use lib.ListN.{get_elem?, set}
use Rattle.std.specs.Prelude.{Ok}
use Rattle.rules.specs.Ast.{Name, same, Location, UndefinedVariable, VariableConsumed, InvalidConsumptionOrder}
use Rattle.rules.specs.Result.{Result, ◌>>=◌, refuse}
use Rattle.rules.specs.Table.{Entry, Table}
use Rattle.rules.specs.Usage.{take, take_entry, free, mark}

abbrev later : Option ℕ → Option ℕ
later none = none
later (some i) = some (suc i)

-- the position of a name
unfoldable pub find : Name → Table → Option ℕ
find x [] = none
find x (e ∷ t) = elim (same x e.param.identifier) [ true ↦ some 0 | false ↦ later (find x t) ]

-- a position below i is not yet taken
unfoldable pub free_below : ℕ → Table → Bool
free_below zero t = false
free_below (suc i) [] = false
free_below (suc i) (e ∷ t) = free e.taken || free_below i t

-- the item at position i, if any
unfoldable pub take_item : Bool → Location → ℕ → ℕ → Table → Option Entry → Result Table
take_item gap l n i t none = refuse UndefinedVariable l
take_item gap l n i t (some e) = elim e.taken [
  | some m ↦ refuse VariableConsumed l
  | none ↦ elim gap [ true ↦ refuse InvalidConsumptionOrder l | false ↦ Ok (set t i (mark n e)) ]
]

unfoldable pub take_found : Bool → Location → ℕ → Table → Option ℕ → Result Table
take_found gap l n t none = refuse UndefinedVariable l
take_found gap l n t (some i) = take_item (gap || free_below i t) l n i t (get_elem? t i)

-- the first item
here : (gap : Bool) (l : Location) (n : ℕ) (e : Entry) (t : Table) → take_entry gap l n e t e.taken ≡ take_item (gap || false) l n 0 (e ∷ t) (some e)
unfolding take_entry take_item
here true l n e t = go e.taken
  where
    go : (o : Option ℕ) → take_entry true l n e t o ≡ elim o [ some m ↦ refuse VariableConsumed l | none ↦ refuse InvalidConsumptionOrder l ]
    go none = refl
    go (some m) = refl
here false l n e t = go e.taken
  where
    go : (o : Option ℕ) → take_entry false l n e t o ≡ elim o [ some m ↦ refuse VariableConsumed l | none ↦ Ok (mark n e ∷ t) ]
    go none = refl
    go (some m) = refl

-- a later item
below-item : (gap : Bool) (l : Location) (n i : ℕ) (e : Entry) (t : Table) (o : Option Entry) → (take_item gap l n i t o >>= λ t'. Ok (e ∷ t')) ≡ take_item gap l n (suc i) (e ∷ t) o
unfolding take_item
below-item gap l n i e t none = refl
below-item gap l n i e t (some c) = go c.taken gap
  where
    go : (o : Option ℕ) (g : Bool) → ((elim o as (λ o'. Result Table) [ some m ↦ refuse VariableConsumed l | none ↦ elim g as (λ g'. Result Table) [ true ↦ refuse InvalidConsumptionOrder l | false ↦ Ok (set t i (mark n c)) ] ]) >>= λ t'. Ok (e ∷ t')) ≡ elim o as (λ o'. Result Table) [ some m ↦ refuse VariableConsumed l | none ↦ elim g as (λ g'. Result Table) [ true ↦ refuse InvalidConsumptionOrder l | false ↦ Ok (e ∷ set t i (mark n c)) ] ]
    go none true = refl
    go none false = refl
    go (some m) g = refl

below : (gap : Bool) (l : Location) (n : ℕ) (e : Entry) (t : Table) (o : Option ℕ) → (take_found (gap || free e.taken) l n t o >>= λ t'. Ok (e ∷ t')) ≡ take_found gap l n (e ∷ t) (later o)
unfolding take_found free_below
below gap l n e t none = refl
below gap l n e t (some i) =
    below-item (gap || free e.taken || free_below i t) l n i e t (get_elem? t i)
    ∙ ap (λ g. take_item g l n (suc i) (e ∷ t) (get_elem? t i)) (or_assoc gap (free e.taken) (free_below i t))

pub take_found_lem : (gap : Bool) (l : Location) (n : ℕ) (x : Name) (t : Table) → take gap l n x t ≡ take_found gap l n t (find x t)
unfolding take find take_found free_below
take_found_lem gap l n x [] = refl
take_found_lem gap l n x (e ∷ t) = go (same x e.param.identifier) refl (take_found_lem (gap || free e.taken) l n x t)
  where
    go : (b : Bool) → same x e.param.identifier ≡ b → take (gap || free e.taken) l n x t ≡ take_found (gap || free e.taken) l n t (find x t) → take gap l n x (e ∷ t) ≡ take_found gap l n (e ∷ t) (find x (e ∷ t))
    go true q k = rw (q, take) (rw (q, find) (here gap l n e t))
    go false q k = rw (q, take) (rw (q, find) (ap (λ m. m >>= λ t'. Ok (e ∷ t')) k ∙ below gap l n e t (find x t)))

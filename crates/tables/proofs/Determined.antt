-- A path that can be used is determined by its table, place by place.
use Prim.Native.Nat.{ℕ, zero, suc, ◌/◌, ◌%◌, ◌^◌, ◌≤◌, ◌<◌}
use native.Mathlib.Nat.{pow-suc}
use native.Mathlib.Omega.{arith}
use mathlib.Core.Bool.{Bool, true, false}
use mathlib.Core.List.{List, [], ◌∷◌}
use mathlib.Core.Option.{Option, some, none}
use mathlib.Core.Logic.{◌⊎◌, inl, inr}
use mathlib.Core.Path.{◌≡◌, refl, sym, ap, ap₂, ◌∙◌, subst}
use borrow.Author.Tests.{ltb-true, ltb-false, eqb-true}
use lib.Dec.{eqb, ltb}
use lib.ListN.{length, get_or}
use Rattle.rules.specs.Table.{Entry}
use Rattle.names.specs.Items.{item_in}
use Rattle.paths.specs.declared.NamePlace.{NamePlace}
use Rattle.paths.specs.declared.Path.{Path}
use Rattle.taken.specs.Taken.{bit_at, is_taken}
use Rattle.paths.specs.Path.{taken_by, table_from, table_of, no_place, WellFormed, Placed}
use Rattle.taken.proofs.Bits.{parity}

-- two paths of one table: equal bits
same_set : (s t : List ℕ) (ps qs : List NamePlace) (x y n : ℕ) → n ≤ length ps → n ≤ length qs → x < 2 ^ n → y < 2 ^ n → table_from s t ps x n ≡ table_from s t qs y n → x ≡ y
unfolding table_from taken_by
same_set s t ps qs x y zero a b f g h = omega arith
same_set s t [] qs x y (suc n) a b f g h = absurd (omega arith)
same_set s t (p ∷ ps) [] x y (suc n) a b f g h = absurd (omega arith)
same_set s t (p ∷ ps) (q ∷ qs) x y (suc n) a b f g h =
    let entry : ◌≡◌ {A = Entry} (record { param = item_in s t p.row; taken = taken_by (x % 2) p.line }) (record { param = item_in s t q.row; taken = taken_by (y % 2) q.line }) = cc in
    let head : taken_by (x % 2) p.line ≡ taken_by (y % 2) q.line = ap (λ z. z.taken) entry in
    let tail : table_from s t ps (x / 2) n ≡ table_from s t qs (y / 2) n = cc in
    let halves : x / 2 ≡ y / 2 = same_set s t ps qs (x / 2) (y / 2) n (omega arith) (omega arith) (omega (arith, pow-suc 2 n)) (omega (arith, pow-suc 2 n)) tail in
    let bit : x % 2 ≡ y % 2 = go (parity x) (parity y) head in
    omega arith
  where
    go : (x % 2 ≡ 0) ⊎ (x % 2 ≡ 1) → (y % 2 ≡ 0) ⊎ (y % 2 ≡ 1) → taken_by (x % 2) p.line ≡ taken_by (y % 2) q.line → x % 2 ≡ y % 2
    go (inl e) (inl f) h = e ∙ sym f
    go (inr e) (inr f) h = e ∙ sym f
    go (inl e) (inr f) h = let k : ◌≡◌ {A = Option ℕ} none (some q.line) = rw (e, f, taken_by) at h in let z : ◌≡◌ {A = ℕ} 0 1 = cc in absurd (omega arith)
    go (inr e) (inl f) h = let k : ◌≡◌ {A = Option ℕ} (some p.line) none = rw (e, f, taken_by) at h in let z : ◌≡◌ {A = ℕ} 0 1 = cc in absurd (omega arith)

-- and equal lines where taken
same_line : (s t : List ℕ) (ps qs : List NamePlace) (x n k : ℕ) → k < n → n ≤ length ps → n ≤ length qs → table_from s t ps x n ≡ table_from s t qs x n → bit_at x k ≡ 1 → (get_or ps k no_place).line ≡ (get_or qs k no_place).line
unfolding table_from taken_by bit_at
same_line s t ps qs x zero k i a b h e = absurd (omega arith)
same_line s t [] qs x (suc n) k i a b h e = absurd (omega arith)
same_line s t (p ∷ ps) [] x (suc n) k i a b h e = absurd (omega arith)
same_line s t (p ∷ ps) (q ∷ qs) x (suc n) zero i a b h e =
    let entry : ◌≡◌ {A = Entry} (record { param = item_in s t p.row; taken = taken_by (x % 2) p.line }) (record { param = item_in s t q.row; taken = taken_by (x % 2) q.line }) = cc in
    let head : taken_by (x % 2) p.line ≡ taken_by (x % 2) q.line = ap (λ z. z.taken) entry in
    let k : ◌≡◌ {A = Option ℕ} (some p.line) (some q.line) = rw (e, taken_by) at head in
    cc
same_line s t (p ∷ ps) (q ∷ qs) x (suc n) (suc k) i a b h e =
    let tail : table_from s t ps (x / 2) n ≡ table_from s t qs (x / 2) n = cc in
    same_line s t ps qs (x / 2) n k (omega arith) (omega arith) (omega arith) tail e

pub by-position : {A : Type 0} (z : A) (ps qs : List A) → length ps ≡ length qs → ((k : ℕ) → get_or ps k z ≡ get_or qs k z) → ps ≡ qs
by-position z [] [] e h = refl
by-position z [] (q ∷ qs) e h = absurd (omega arith)
by-position z (p ∷ ps) [] e h = absurd (omega arith)
by-position z (p ∷ ps) (q ∷ qs) e h = ap₂ (λ a b. a ∷ b) (h 0) (by-position z ps qs (omega arith) (λ k. h (suc k)))

place : (a b : NamePlace) → a.row ≡ b.row → a.line ≡ b.line → a ≡ b
place a b e f = ap₂ (λ r l. record { row = r; line = l }) e f

pub whole : (s t : List ℕ) (j : ℕ) (p q : Path) → WellFormed s t p → WellFormed s t q → Placed j p → Placed j q → p.count ≡ q.count → table_of s t p ≡ table_of s t q → p ≡ q
unfolding table_of is_taken
whole s t j p q v w a b c h =
    let same : table_from s t p.places p.taken p.count ≡ table_from s t q.places q.taken p.count = h ∙ ap (table_from s t q.places q.taken) (sym c) in
    let bits : p.taken ≡ q.taken = same_set s t p.places q.places p.taken q.taken p.count (omega (arith, v.full, v.few)) (omega (arith, w.full, v.few)) v.within (subst (λ n. q.taken < 2 ^ n) (sym c) w.within) same in
    let same' : table_from s t p.places p.taken p.count ≡ table_from s t q.places p.taken p.count = same ∙ ap (λ x. table_from s t q.places x p.count) (sym bits) in
    let places : p.places ≡ q.places = by-position no_place p.places q.places (v.full ∙ sym w.full) (λ k. at k bits same' (ltb k p.count) refl) in
    go places c bits
  where
    go : p.places ≡ q.places → p.count ≡ q.count → p.taken ≡ q.taken → p ≡ q
    go x y z = ap (λ l. record { places = l; count = p.count; taken = p.taken }) x ∙ ap₂ (λ n m. record { places = q.places; count = n; taken = m }) y z

    line : (k : ℕ) → p.taken ≡ q.taken → k < p.count → table_from s t p.places p.taken p.count ≡ table_from s t q.places p.taken p.count → (u : Bool) → eqb (bit_at p.taken k) 1 ≡ u → (get_or p.places k no_place).line ≡ (get_or q.places k no_place).line
    line k bits i same true e = same_line s t p.places q.places p.taken p.count k i (omega (arith, v.full, v.few)) (omega (arith, w.full, v.few)) same (eqb-true (bit_at p.taken k) 1 e)
    line k bits i same false e = a.line k e ∙ sym (b.line k (ap (λ x. eqb (bit_at x k) 1) (sym bits) ∙ e))

    at : (k : ℕ) → p.taken ≡ q.taken → table_from s t p.places p.taken p.count ≡ table_from s t q.places p.taken p.count → (u : Bool) → ltb k p.count ≡ u → get_or p.places k no_place ≡ get_or q.places k no_place
    at k bits same true e =
        let i : k < p.count = ltb-true k p.count e in
        place (get_or p.places k no_place) (get_or q.places k no_place) (omega (arith, a.row k i, b.row k (omega (arith, c)))) (line k bits i same (eqb (bit_at p.taken k) 1) refl)
    at k bits same false e = let i : p.count ≤ k = ltb-false k p.count e in a.past k i ∙ sym (b.past k (omega (arith, c)))

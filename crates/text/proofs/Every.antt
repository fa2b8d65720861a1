-- A test of a row of places, made to the end at each of them.
use Rattle.std.proofs.Common.{◌≡◌, ℕ, zero, suc, ◌+◌, ◌<◌, ◌≤◌, Bool, true, false, ◌&&◌, List, [], ◌∷◌, length, get_or, take, drop, refl, sym, ap, ◌∙◌, arith, get_or-take, get_or-drop, length-take-le, length-drop}
use Rattle.std.specs.List.{list_all}

-- every place below n passes
abbrev pub Every : (ℕ → Bool) → ℕ → Type 0
Every p n = (j : ℕ) → j < n → p j ≡ true

-- a part whose elements all pass
pub each-of_all : (p : ℕ → Bool) (s : List ℕ) (at n : ℕ) → at + n ≤ length s → list_all p (take n (drop at s)) ≡ true → Every (λ j. p (get_or s (at + j) 0)) n
each-of_all p s at n h e j l = ap p (sym (get_or-take n (drop at s) j 0 l ∙ get_or-drop at s j 0)) ∙ at-index p (take n (drop at s)) e j (let t = length-take-le n (drop at s) (omega (arith, length-drop at s)) in omega arith)
  where
    both : (a b : Bool) → (a && b) ≡ true → (a ≡ true) × (b ≡ true)
    both true b e = (refl, e)
    both false b e = absurd (let z : ◌≡◌ {A = ℕ} 0 1 = cc in omega arith)

    at-index : (q : ℕ → Bool) (xs : List ℕ) → list_all q xs ≡ true → (i : ℕ) → i < length xs → q (get_or xs i 0) ≡ true
    at-index q [] e i l = absurd (omega arith)
    at-index q (x ∷ xs) e zero l = (both (q x) (list_all q xs) e).0
    at-index q (x ∷ xs) e (suc i) l = at-index q xs (both (q x) (list_all q xs) e).1 i (omega arith)

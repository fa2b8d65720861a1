-- Laws of a literal's digits.
use Prim.Native.Nat.{ℕ, zero, suc, ◌+◌, ◌*◌, ◌-◌, ◌/◌, ◌≤◌, ◌<◌}
use native.Mathlib.Omega.{arith}
use mathlib.Core.Bool.{Bool, true, false, ◌&&◌, ◌||◌}
use mathlib.Core.List.{List, [], ◌∷◌, ◌++◌}
use mathlib.Core.Logic.{◌⊎◌, inl, inr}
use mathlib.Core.Path.{◌≡◌, refl, sym, ap, ◌∙◌}
use lib.Dec.{leb, eqb}
use lib.ListN.{length, take, drop, get_or, length-drop}
use Rattle.std.proofs.Common.{drop-drop}
use borrow.Author.Tests.{leb-true, le-leb, lt-leb, eqb-true, eq-eqb}
use Rattle.std.proofs.lemmas.Bool.{and_parts}
use Rattle.std.proofs.lemmas.List.Folds.{list_all-append, list_all_at}
use Rattle.text.specs.Text.{within as text_within, is_digit as is_decimal, is_hex_digit, hex_value, unhex}
use Rattle.limits.specs.Pairs.{AllPairs}
use Rattle.std.specs.List.{list_all}
use Rattle.rules.specs.Keys.{within, is_digit, all_digits}

-- two digits a byte
pub unhex_length : (l : List ℕ) → length (unhex l) ≡ length l / 2
unfolding unhex
unhex_length [] = refl
unhex_length (a ∷ []) = refl
unhex_length (a ∷ b ∷ l) = omega (arith, unhex_length l)

-- the byte that the digits 2 j and 2 j + 1 spell
abbrev pub Byte : List ℕ → ℕ → ℕ
Byte s j = hex_value (get_or s (2 * j) 0) * 16 + hex_value (get_or s (2 * j + 1) 0)

unhex_byte : (s : List ℕ) (j : ℕ) → 2 * j + 1 < length s → get_or (unhex s) j 0 ≡ Byte s j
unfolding unhex
unhex_byte [] j h = absurd (omega arith)
unhex_byte (a ∷ []) j h = absurd (omega arith)
unhex_byte (a ∷ b ∷ s) zero h = refl
unhex_byte (a ∷ b ∷ s) (suc j) h =
    let f : 2 * suc j + 1 ≡ suc (suc (2 * j + 1)) = omega arith in
    let e : 2 * suc j ≡ suc (suc (2 * j)) = omega arith in
    rw (f, e) (unhex_byte s j (omega arith))

-- m pairs and the rest
unhex-split : (m : ℕ) (s : List ℕ) → 2 * m ≤ length s → unhex s ≡ unhex (take (2 * m) s) ++ unhex (drop (2 * m) s)
unfolding unhex
unhex-split zero s h = refl
unhex-split (suc m) [] h = absurd (omega arith)
unhex-split (suc m) (a ∷ []) h = absurd (omega arith)
unhex-split (suc m) (a ∷ b ∷ s) h =
    let e : 2 * suc m ≡ suc (suc (2 * m)) = omega arith in
    rw e (ap (λ r. (hex_value a * 16 + hex_value b) ∷ r) (unhex-split m s (omega arith)))

-- what a digit stands for, by its case
low_digit : (b : ℕ) → b ≤ 57 → hex_value b ≡ b - 48
unfolding hex_value
low_digit b h = rw (le-leb b 57 h, hex_value)

high_digit : (b : ℕ) → 57 < b → hex_value b ≡ b - 87
unfolding hex_value
high_digit b h = rw (lt-leb b 57 h, hex_value)

-- tests taken apart
or-true : (x y : Bool) → (x || y) ≡ true → (x ≡ true) ⊎ (y ≡ true)
or-true true y h = inl refl
or-true false y h = inr h

same_tests : (x y : Bool) → (x ≡ true → y ≡ true) → (y ≡ true → x ≡ true) → x ≡ y
same_tests true y f g = sym (f refl)
same_tests false true f g = g refl
same_tests false false f g = refl

abbrev From : ℕ → ℕ → ℕ → Type 0
From low high b = (low ≤ b) × (b ≤ high)

from-true : (low high b : ℕ) → (leb low b && leb b high) ≡ true → From low high b
from-true low high b h = let t = and_parts (leb low b) (leb b high) h in (leb-true low b t.0, leb-true b high t.1)

-- a lower-case hex digit by what it stands for, and a digit by its case
hex-cases : (b : ℕ) → is_hex_digit b ≡ true → (From 48 57 b × (hex_value b ≡ b - 48)) ⊎ (From 97 102 b × (hex_value b ≡ b - 87))
unfolding is_hex_digit is_decimal text_within
hex-cases b h = go (or-true _ _ h)
  where
    go : ((leb 48 b && leb b 57) ≡ true) ⊎ ((leb 97 b && leb b 102) ≡ true) → (From 48 57 b × (hex_value b ≡ b - 48)) ⊎ (From 97 102 b × (hex_value b ≡ b - 87))
    go (inl t) = let f = from-true 48 57 b t in inl (f, low_digit b f.1)
    go (inr t) = let f = from-true 97 102 b t in inr (f, high_digit b (omega arith))

low-hex : (b : ℕ) → From 48 57 b → is_hex_digit b ≡ true
unfolding is_hex_digit is_decimal text_within
low-hex b f = rw (le-leb 48 b f.0, le-leb b 57 f.1)

digit-cases : (v : ℕ) → is_digit v ≡ true → From 48 57 v ⊎ (From 65 70 v ⊎ From 97 102 v)
unfolding is_digit within
digit-cases v h = go (or-true _ _ h)
  where
    decimal : ((leb 48 v && leb v 57) ≡ true) ⊎ ((leb 65 v && leb v 70) ≡ true) → From 48 57 v ⊎ (From 65 70 v ⊎ From 97 102 v)
    decimal (inl t) = inl (from-true 48 57 v t)
    decimal (inr t) = inr (inl (from-true 65 70 v t))

    go : ((leb 48 v && leb v 57 || leb 65 v && leb v 70) ≡ true) ⊎ ((leb 97 v && leb v 102) ≡ true) → From 48 57 v ⊎ (From 65 70 v ⊎ From 97 102 v)
    go (inl t) = decimal (or-true _ _ t)
    go (inr t) = inr (inr (from-true 97 102 v t))

decimal_digit : (v : ℕ) → From 48 57 v → is_digit v ≡ true
unfolding is_digit within
decimal_digit v f = rw (le-leb 48 v f.0, le-leb v 57 f.1)

upper-digit : (v : ℕ) → From 65 70 v → is_digit v ≡ true
unfolding is_digit within
upper-digit v f = rw (le-leb 48 v (omega arith), lt-leb v 57 (omega arith), le-leb 65 v f.0, le-leb v 70 f.1)

lower-digit : (v : ℕ) → From 97 102 v → is_digit v ≡ true
unfolding is_digit within
lower-digit v f = rw (le-leb 48 v (omega arith), lt-leb v 57 (omega arith), le-leb 65 v (omega arith), lt-leb v 70 (omega arith), le-leb 97 v f.0, le-leb v 102 f.1)

-- two lower-case hex digits that spell a digit, and as the code tests them
abbrev pub Spelled : ℕ → ℕ → Bool
Spelled a b = is_hex_digit a && is_hex_digit b && is_digit (hex_value a * 16 + hex_value b)

abbrev Tested : ℕ → ℕ → Bool
Tested a b = eqb a 51 && leb 48 b && leb b 57 || (eqb a 52 || eqb a 54) && leb 49 b && leb b 54

module _ (a b : ℕ) where
  pair_is : From 48 57 a → From 48 57 b → (hex_value a ≡ a - 48 → hex_value b ≡ b - 48 → is_digit (hex_value a * 16 + hex_value b) ≡ true) → Spelled a b ≡ true
  pair_is f g h = rw (low-hex a f, low-hex b g) (h (low_digit a f.1) (low_digit b g.1))

  pair-to : Tested a b ≡ true → Spelled a b ≡ true
  pair-to h = go (or-true _ _ h)
    where
      letter : From 49 54 b → (eqb a 52 ≡ true) ⊎ (eqb a 54 ≡ true) → Spelled a b ≡ true
      letter g (inl t) = let e = eqb-true a 52 t in pair_is (omega arith) (omega arith) (λ x y. upper-digit _ (omega arith))
      letter g (inr t) = let e = eqb-true a 54 t in pair_is (omega arith) (omega arith) (λ x y. lower-digit _ (omega arith))

      go : ((eqb a 51 && leb 48 b && leb b 57) ≡ true) ⊎ (((eqb a 52 || eqb a 54) && leb 49 b && leb b 54) ≡ true) → Spelled a b ≡ true
      go (inl t) =
          let p = and_parts (eqb a 51 && leb 48 b) (leb b 57) t in
          let q = and_parts (eqb a 51) (leb 48 b) p.0 in
          let e = eqb-true a 51 q.0 in
          let g : From 48 57 b = (leb-true 48 b q.1, leb-true b 57 p.1) in
          pair_is (omega arith) g (λ x y. decimal_digit _ (omega arith))
      go (inr t) =
          let p = and_parts ((eqb a 52 || eqb a 54) && leb 49 b) (leb b 54) t in
          let q = and_parts (eqb a 52 || eqb a 54) (leb 49 b) p.0 in
          letter (leb-true 49 b q.1, leb-true b 54 p.1) (or-true _ _ q.0)

  spelled-apart : Spelled a b ≡ true → (is_hex_digit a ≡ true) × (is_hex_digit b ≡ true) × (is_digit (hex_value a * 16 + hex_value b) ≡ true)
  spelled-apart h =
      let p = and_parts (is_hex_digit a && is_hex_digit b) (is_digit (hex_value a * 16 + hex_value b)) h in
      let q = and_parts (is_hex_digit a) (is_hex_digit b) p.0 in
      (q.0, q.1, p.1)

  pair-from : Spelled a b ≡ true → Tested a b ≡ true
  pair-from h = let t = spelled-apart h in go (hex-cases a t.0) (hex-cases b t.1) (digit-cases _ t.2)
    where
      go : (From 48 57 a × (hex_value a ≡ a - 48)) ⊎ (From 97 102 a × (hex_value a ≡ a - 87))
          → (From 48 57 b × (hex_value b ≡ b - 48)) ⊎ (From 97 102 b × (hex_value b ≡ b - 87))
          → From 48 57 (hex_value a * 16 + hex_value b) ⊎ (From 65 70 (hex_value a * 16 + hex_value b) ⊎ From 97 102 (hex_value a * 16 + hex_value b))
          → Tested a b ≡ true
      go (inl f) (inl g) (inl d) = let e : a ≡ 51 = omega arith in rw (eq-eqb a 51 e, le-leb 48 b g.0.0, le-leb b 57 g.0.1)
      go (inl f) (inl g) (inr (inl d)) = let e : a ≡ 52 = omega arith in rw (e, le-leb 49 b (omega arith), le-leb b 54 (omega arith))
      go (inl f) (inl g) (inr (inr d)) = let e : a ≡ 54 = omega arith in rw (e, le-leb 49 b (omega arith), le-leb b 54 (omega arith))
      go (inl f) (inr g) (inl d) = absurd (omega arith)
      go (inl f) (inr g) (inr (inl d)) = absurd (omega arith)
      go (inl f) (inr g) (inr (inr d)) = absurd (omega arith)
      go (inr f) g (inl d) = absurd (omega arith)
      go (inr f) g (inr (inl d)) = absurd (omega arith)
      go (inr f) g (inr (inr d)) = absurd (omega arith)

  pub pair-tested : Tested a b ≡ Spelled a b
  pair-tested = same_tests (Tested a b) (Spelled a b) pair-to pair-from

-- a test of all elements, element by element
module _ (p : ℕ → Bool) where
  all_true : (xs : List ℕ) → ((j : ℕ) → j < length xs → p (get_or xs j 0) ≡ true) → list_all p xs ≡ true
  all_true [] f = refl
  all_true (x ∷ xs) f = rw (f 0 (omega arith)) (all_true xs (λ j l. f (suc j) (omega arith)))

  -- a test on pairs that gives this test of the byte that they spell
  pub all-pairs : {P : ℕ → ℕ → Bool → Type 0} {s : List ℕ} {b : Bool} → AllPairs P s b → ((x y : ℕ) (r : Bool) → P x y r → r ≡ p (hex_value x * 16 + hex_value y)) → b ≡ list_all p (unhex s)
  all-pairs {P} {s} {b} f g = go b refl
    where
      go : (r : Bool) → b ≡ r → r ≡ list_all p (unhex s)
      go true e = sym (all_true (unhex s) (λ j l. ap p (unhex_byte s j (omega (arith, unhex_length s))) ∙ sym (g _ _ true (f.each e j (omega (arith, unhex_length s))))))
      go false e = let (j, l, q) = f.one e in sym (list_all_at p (unhex s) j 0 (omega (arith, unhex_length s)) (ap p (unhex_byte s j l) ∙ sym (g _ _ false q)))

-- a recursion that says the same
pub digits-all : (l : List ℕ) → list_all is_digit l ≡ all_digits l
unfolding all_digits
digits-all [] = refl
digits-all (b ∷ l) = ap (λ r. is_digit b && r) (digits-all l)

-- whether digits are lower-case and spell hex digits, pair by pair
abbrev pub Spells : List ℕ → Bool
Spells s = list_all is_hex_digit s && all_digits (unhex s)

-- two digits more in front
pub spells-pair : (x s : List ℕ) → length x ≡ 2 → (Spelled (get_or x 0 0) (get_or x 1 0) && Spells s) ≡ Spells (x ++ s)
unfolding unhex all_digits
spells-pair (a ∷ b ∷ []) s h = apart (is_hex_digit a) (is_hex_digit b) (is_digit (hex_value a * 16 + hex_value b)) (list_all is_hex_digit s) (all_digits (unhex s))
  where
    apart : (x y d h e : Bool) → (x && y && d && (h && e)) ≡ (x && (y && h) && (d && e))
    apart false y d h e = refl
    apart true false d h e = refl
    apart true true false true e = refl
    apart true true false false e = refl
    apart true true true h e = refl
spells-pair [] s h = absurd (omega arith)
spells-pair (a ∷ []) s h = absurd (omega arith)
spells-pair (a ∷ b ∷ d ∷ x) s h = absurd (omega arith)

-- three tests, grouped to the right
pub and-apart : (x y z : Bool) → (x && y && z) ≡ (x && (y && z))
and-apart true y z = refl
and-apart false y z = refl

-- no digits left
pub spells-none : (ok : Bool) (s : List ℕ) → length s ≡ 0 → ok ≡ (ok && Spells s)
unfolding unhex all_digits
spells-none true [] h = refl
spells-none false [] h = refl
spells-none ok (a ∷ s) h = absurd (omega arith)

-- the digits after 32 that pass
digits-run : (s : List ℕ) → 32 ≤ length s → all_digits (unhex (take 32 s)) ≡ true → all_digits (unhex (drop 32 s)) ≡ all_digits (unhex s)
digits-run s h e =
    let f : list_all is_digit (unhex (take 32 s)) ≡ true = digits-all _ ∙ e in
    let g : list_all is_digit (unhex (take 32 s) ++ unhex (drop 32 s)) ≡ (list_all is_digit (unhex (take 32 s)) && list_all is_digit (unhex (drop 32 s))) = list_all-append is_digit _ _ in
    sym (digits-all _) ∙ sym (rw f at g) ∙ ap (list_all is_digit) (sym (unhex-split 16 s h)) ∙ digits-all _

-- the digits after m times 32 that pass
pub digits-runs : (s : List ℕ) (m : ℕ) → ((k : ℕ) → k < m → (k * 32 + 32 ≤ length s) × (Spells (take 32 (drop (k * 32) s)) ≡ true)) → all_digits (unhex (drop (m * 32) s)) ≡ all_digits (unhex s)
digits-runs s zero h = refl
digits-runs s (suc m) h =
    let a = h m (omega arith) in
    let next : drop (suc m * 32) s ≡ drop 32 (drop (m * 32) s) = ap (λ i. drop i s) (omega arith) ∙ sym (drop-drop 32 (m * 32) s) in
    rw next (digits-run (drop (m * 32) s) (omega (arith, a.0, length-drop (m * 32) s)) (and_parts _ _ a.1).1 ∙ digits-runs s m (λ k l. h k (omega arith)))

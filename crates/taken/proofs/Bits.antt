-- The taken set's bits: a shift tests one, `|` sets one, the trailing zeros of the complement are the taken positions before the first free one.
use Prim.Native.Nat.{ℕ, zero, suc, ◌+◌, ◌-◌, ◌*◌, ◌/◌, ◌%◌, ◌^◌, ◌≤◌, ◌<◌, max}
use native.Mathlib.Nat.{pow-suc, one-mul, mod-eq_of_lt, eq-zero-or-pos}
use native.Mathlib.Omega.{arith}
use mathlib.Core.Bool.{Bool, true, false}
use mathlib.Core.Logic.{◌⊎◌, inl, inr}
use mathlib.Core.Path.{◌≡◌, refl, sym, ap, ap₂, ◌∙◌}
use borrow.Author.Tests.{eq-eqb, ne_eqb, eqb-true, eqb-false}
use lib.Bits.{bit_or, or_step, or_zero_r}
use lib.Count.{ones, ones_step, ones-ones, count_trailing_zeros}
use lib.Dec.{eqb}
use lib.Pow.{pow-lt, pow_pos, shr-shr}
use Rattle.taken.specs.Taken.{bit_at, is_taken, with_bit, free_in, first_free, run_in, is_run}

-- by cases on the lowest bit
pub parity : (x : ℕ) → (x % 2 ≡ 0) ⊎ (x % 2 ≡ 1)
parity x = go (eq-zero-or-pos (x % 2))
  where
    go : (x % 2 ≡ 0) ⊎ (0 < x % 2) → (x % 2 ≡ 0) ⊎ (x % 2 ≡ 1)
    go (inl e) = inl e
    go (inr p) = inr (omega arith)

-- `x >> k`, its lowest bit
pub shifted : (x k : ℕ) → x / 2 ^ k % 2 ≡ bit_at x k
unfolding bit_at
shifted x zero = let e : x / 2 ^ 0 ≡ x = omega arith in rw e
shifted x (suc k) = let e : x / 2 ^ suc k ≡ x / 2 / 2 ^ k = sym (shr-shr x 1 k ∙ ap (λ n. x / 2 ^ n) (omega arith)) in rw e (shifted (x / 2) k)

-- `1 << k`
shl_one : (k : ℕ) → k < 32 → 1 * 2 ^ k % 2 ^ 32 ≡ 2 ^ k
shl_one k h = ap (λ (n : ℕ). n % 2 ^ 32) (one-mul (2 ^ k)) ∙ mod-eq_of_lt (pow-lt h)

or-bit : (x k : ℕ) → bit_or x (2 ^ k) ≡ with_bit x k
unfolding with_bit
or-bit x zero = or_step x 1 ∙ rw (or_zero_r (x / 2)) (go (parity x))
  where
    go : (x % 2 ≡ 0) ⊎ (x % 2 ≡ 1) → x / 2 * 2 + max (x % 2) 1 ≡ x / 2 * 2 + 1
    go (inl e) = rw e
    go (inr e) = rw e
or-bit x (suc k) =
    let half : 2 ^ suc k / 2 ≡ 2 ^ k = omega (arith, pow-suc 2 k) in
    let even : 2 ^ suc k % 2 ≡ 0 = omega (arith, pow-suc 2 k) in
    or_step x (2 ^ suc k) ∙ rw (half, even, or-bit (x / 2) k) (go (parity x))
  where
    go : (x % 2 ≡ 0) ⊎ (x % 2 ≡ 1) → with_bit (x / 2) k * 2 + max (x % 2) 0 ≡ with_bit (x / 2) k * 2 + x % 2
    go (inl e) = rw e
    go (inr e) = rw e

-- `x | (1 << k)`
pub bit_set : (x k : ℕ) → k < 32 → bit_or x (1 * 2 ^ k % 2 ^ 32) ≡ with_bit x k
bit_set x k h = ap (bit_or x) (shl_one k h) ∙ or-bit x k

-- a set of n positions with one of them more
pub bit-within : (n x k : ℕ) → k < n → x < 2 ^ n → with_bit x k < 2 ^ n
unfolding with_bit
bit-within zero x k h b = absurd (omega arith)
bit-within (suc n) x zero h b = omega (arith, pow-suc 2 n)
bit-within (suc n) x (suc k) h b = omega (arith, pow-suc 2 n, bit-within n (x / 2) k (omega arith) (omega (arith, pow-suc 2 n)))

-- position k of a set with position k, and another that was in it
pub bit-same : (x k : ℕ) → bit_at (with_bit x k) k ≡ 1
unfolding bit_at with_bit
bit-same x zero = omega arith
bit-same x (suc k) = let e : (with_bit (x / 2) k * 2 + x % 2) / 2 ≡ with_bit (x / 2) k = omega arith in rw e (bit-same (x / 2) k)

pub bit-keeps : (x k j : ℕ) → bit_at x j ≡ 1 → bit_at (with_bit x k) j ≡ 1
unfolding bit_at with_bit
bit-keeps x zero zero h = omega arith
bit-keeps x zero (suc j) h = let e : (x / 2 * 2 + 1) / 2 ≡ x / 2 = omega arith in rw e h
bit-keeps x (suc k) zero h = omega arith
bit-keeps x (suc k) (suc j) h = let e : (with_bit (x / 2) k * 2 + x % 2) / 2 ≡ with_bit (x / 2) k = omega arith in rw e (bit-keeps (x / 2) k j h)

-- a set of n positions has none past them
pub bit_past : (n x k : ℕ) → x < 2 ^ n → n ≤ k → bit_at x k ≡ 0
unfolding bit_at
bit_past zero x zero h i = omega arith
bit_past zero x (suc k) h i = bit_past zero (x / 2) k (omega arith) (omega arith)
bit_past (suc n) x zero h i = absurd (omega arith)
bit_past (suc n) x (suc k) h i = bit_past n (x / 2) k (omega (arith, pow-suc 2 n)) (omega arith)

-- a bit as a test
bit-low : (x k : ℕ) → bit_at x k < 2
unfolding bit_at
bit-low x zero = omega arith
bit-low x (suc k) = bit-low (x / 2) k

pub taken-bit : (x k : ℕ) → is_taken x k ≡ true → bit_at x k ≡ 1
unfolding is_taken
taken-bit x k e = eqb-true (bit_at x k) 1 e

pub free-bit : (x k : ℕ) → is_taken x k ≡ false → bit_at x k ≡ 0
unfolding is_taken
free-bit x k e = let n = eqb-false (bit_at x k) 1 e in omega (arith, bit-low x k)

-- the complement's lowest bit and its rest
module _ (k x : ℕ) (h : x < 2 ^ suc k) where
  not-odd : x % 2 ≡ 1 → count_trailing_zeros (suc k) ((2 ^ suc k - 1) - x) ≡ suc (count_trailing_zeros k ((2 ^ k - 1) - x / 2))
  unfolding count_trailing_zeros
  not-odd odd =
      let low : ((2 ^ suc k - 1) - x) % 2 ≡ 0 = omega (arith, pow-suc 2 k) in
      let rest : ((2 ^ suc k - 1) - x) / 2 ≡ (2 ^ k - 1) - x / 2 = omega (arith, pow-suc 2 k) in
      rw (low, rest)

  not-even : x % 2 ≡ 0 → count_trailing_zeros (suc k) ((2 ^ suc k - 1) - x) ≡ 0
  unfolding count_trailing_zeros
  not-even even = let low : ((2 ^ suc k - 1) - x) % 2 ≡ 1 = omega (arith, pow-suc 2 k) in rw low

-- the definitions by the lowest bit
pub free-even : (w x : ℕ) → x % 2 ≡ 0 → free_in (suc w) x ≡ 0
unfolding free_in
free-even w x e = rw (e, free_in)

pub free-odd : (w x : ℕ) → x % 2 ≡ 1 → free_in (suc w) x ≡ suc (free_in w (x / 2))
unfolding free_in
free-odd w x e = rw (e, free_in)

pub run-even : (w x : ℕ) → x % 2 ≡ 0 → run_in (suc w) x ≡ eqb x 0
unfolding run_in
run-even w x e = rw (e, run_in)

pub run-odd : (w x : ℕ) → x % 2 ≡ 1 → run_in (suc w) x ≡ run_in w (x / 2)
unfolding run_in
run-odd w x e = rw (e, run_in)

trailing-free : (w x : ℕ) → x < 2 ^ w → count_trailing_zeros w ((2 ^ w - 1) - x) ≡ free_in w x
unfolding count_trailing_zeros free_in
trailing-free zero x h = refl
trailing-free (suc w) x h = go (parity x) (trailing-free w (x / 2) (omega (arith, pow-suc 2 w)))
  where
    go : (x % 2 ≡ 0) ⊎ (x % 2 ≡ 1) → count_trailing_zeros w ((2 ^ w - 1) - x / 2) ≡ free_in w (x / 2) → count_trailing_zeros (suc w) ((2 ^ suc w - 1) - x) ≡ free_in (suc w) x
    go (inl e) ih = not-even w x h e ∙ sym (free-even w x e)
    go (inr e) ih = not-odd w x h e ∙ ap suc ih ∙ sym (free-odd w x e)

-- `trailing_ones(x)`
pub first_free_counted : (x : ℕ) → x < 2 ^ 32 → count_trailing_zeros 32 ((2 ^ 32 - 1) - x) ≡ first_free x
unfolding first_free
first_free_counted x h = trailing-free 32 x h

-- a position before the first free one is taken
before-free : (w x k : ℕ) → k < free_in w x → bit_at x k ≡ 1
unfolding free_in bit_at
before-free zero x k h = absurd (omega arith)
before-free (suc w) x k h = go k (parity x) h (λ m. before-free w (x / 2) m)
  where
    go : (k : ℕ) → (x % 2 ≡ 0) ⊎ (x % 2 ≡ 1) → k < free_in (suc w) x → ((m : ℕ) → m < free_in w (x / 2) → bit_at (x / 2) m ≡ 1) → bit_at x k ≡ 1
    go k (inl e) h ih = absurd (omega (arith, free-even w x e))
    go zero (inr e) h ih = e
    go (suc m) (inr e) h ih = ih m (omega (arith, free-odd w x e))

-- and the first free one is at most the count of positions
free-within : (w x n : ℕ) → x < 2 ^ n → free_in w x ≤ n
unfolding free_in
free-within zero x n h = omega arith
free-within (suc w) x zero h = let e : x % 2 ≡ 0 = omega arith in omega (arith, free-even w x e)
free-within (suc w) x (suc n) h = go (parity x) (free-within w (x / 2) n (omega (arith, pow-suc 2 n)))
  where
    go : (x % 2 ≡ 0) ⊎ (x % 2 ≡ 1) → free_in w (x / 2) ≤ n → free_in (suc w) x ≤ suc n
    go (inl e) ih = omega (arith, free-even w x e)
    go (inr e) ih = omega (arith, free-odd w x e)

pub before-first : (x k : ℕ) → k < first_free x → bit_at x k ≡ 1
unfolding first_free
before-first x k h = before-free 32 x k h

pub first-within : (x n : ℕ) → x < 2 ^ n → first_free x ≤ n
unfolding first_free
first-within x n h = free-within 32 x n h

ones-zero : (k x : ℕ) → x < 2 ^ k → ones x ≡ 0 → x ≡ 0
ones-zero zero x h e = omega arith
ones-zero (suc k) x h e =
    let half : x / 2 ≡ 0 = ones-zero k (x / 2) (omega (arith, pow-suc 2 k)) (omega (arith, ones_step x)) in
    omega (arith, ones_step x)

-- two equations that hold together have equal tests
same_test : (a b c d : ℕ) → (a ≡ b → c ≡ d) → (c ≡ d → a ≡ b) → eqb a b ≡ eqb c d
same_test a b c d f g = go (eqb a b) refl
  where
    go : (t : Bool) → eqb a b ≡ t → t ≡ eqb c d
    go true e = sym (eq-eqb c d (f (eqb-true a b e)))
    go false e = sym (ne_eqb c d (λ h. eqb-false a b e (g h)))

-- an even set is empty where its rest is
pub half-zero : (x : ℕ) → x % 2 ≡ 0 → eqb (x / 2) 0 ≡ eqb x 0
half-zero x e = same_test (x / 2) 0 x 0 (λ q. omega arith) (λ q. omega arith)

run-counts : (w x : ℕ) → x < 2 ^ w → eqb (ones x) (count_trailing_zeros w ((2 ^ w - 1) - x)) ≡ run_in w x
unfolding count_trailing_zeros run_in
run-counts zero x h = let e : x ≡ 0 = omega arith in eq-eqb (ones x) 0 (ap ones e ∙ ones-ones 0)
run-counts (suc w) x h = go (parity x) (run-counts w (x / 2) (omega (arith, pow-suc 2 w)))
  where
    go : (x % 2 ≡ 0) ⊎ (x % 2 ≡ 1) → eqb (ones (x / 2)) (count_trailing_zeros w ((2 ^ w - 1) - x / 2)) ≡ run_in w (x / 2) → eqb (ones x) (count_trailing_zeros (suc w) ((2 ^ suc w - 1) - x)) ≡ run_in (suc w) x
    go (inl e) ih = ap (eqb (ones x)) (not-even w x h e) ∙ same_test (ones x) 0 x 0 (ones-zero (suc w) x h) (λ q. ap ones q ∙ ones-ones 0) ∙ sym (run-even w x e)
    go (inr e) ih =
        let one_more : ones x ≡ suc (ones (x / 2)) = omega (arith, ones_step x) in
        ap₂ eqb one_more (not-odd w x h e) ∙ same_test (suc (ones (x / 2))) (suc (count_trailing_zeros w ((2 ^ w - 1) - x / 2))) (ones (x / 2)) (count_trailing_zeros w ((2 ^ w - 1) - x / 2)) (λ q. omega arith) (λ q. ap suc q) ∙ ih ∙ sym (run-odd w x e)

-- `count_ones(x) == trailing_ones(x)`
pub run_test : (x : ℕ) → x < 2 ^ 32 → eqb (ones x) (count_trailing_zeros 32 ((2 ^ 32 - 1) - x)) ≡ is_run x
unfolding is_run
run_test x h = run-counts 32 x h

-- ---- runs

pub run-zero : (w x : ℕ) → x ≡ 0 → run_in w x ≡ true
unfolding run_in
run-zero zero x e = refl
run-zero (suc w) x e = rw e

-- nothing taken is a run
pub run_none : is_run 0 ≡ true
unfolding is_run
run_none = run-zero 32 0 refl

-- a run of n positions is 2 ^ n - 1, n being its first free position
run-full : (w x : ℕ) → x < 2 ^ w → run_in w x ≡ true → x ≡ 2 ^ free_in w x - 1
unfolding free_in
run-full zero x h r = omega arith
run-full (suc w) x h r = go (parity x) (run-full w (x / 2) (omega (arith, pow-suc 2 w)))
  where
    go : (x % 2 ≡ 0) ⊎ (x % 2 ≡ 1) → (run_in w (x / 2) ≡ true → x / 2 ≡ 2 ^ free_in w (x / 2) - 1) → x ≡ 2 ^ free_in (suc w) x - 1
    go (inl e) ih = eqb-true x 0 (sym (run-even w x e) ∙ r) ∙ ap (λ n. 2 ^ n - 1) (sym (free-even w x e))
    go (inr e) ih =
        let half = ih (sym (run-odd w x e) ∙ r) in
        let double : 2 ^ free_in (suc w) x ≡ 2 ^ free_in w (x / 2) * 2 = ap (λ n. 2 ^ n) (free-odd w x e) ∙ pow-suc 2 (free_in w (x / 2)) in
        omega (arith, pow_pos (free_in w (x / 2)))

-- and as many are taken
pub run-count : (x : ℕ) → x < 2 ^ 32 → is_run x ≡ true → (x ≡ 2 ^ first_free x - 1) × (ones x ≡ first_free x)
unfolding is_run first_free
run-count x h r = (run-full 32 x h r, eqb-true (ones x) (count_trailing_zeros 32 ((2 ^ 32 - 1) - x)) (run-counts 32 x h ∙ r) ∙ trailing-free 32 x h)

-- a set with position 0, and an odd set with a later one, by their lowest bit and the rest
module _ (x : ℕ) where
  first-low : with_bit x 0 % 2 ≡ 1
  unfolding with_bit
  first-low = omega arith

  first_rest : with_bit x 0 / 2 ≡ x / 2
  unfolding with_bit
  first_rest = omega arith

  module _ (k : ℕ) (odd : x % 2 ≡ 1) where
    later-low : with_bit x (suc k) % 2 ≡ 1
    unfolding with_bit
    later-low = omega arith

    later-rest : with_bit x (suc k) / 2 ≡ with_bit (x / 2) k
    unfolding with_bit
    later-rest = omega arith

-- a position of a run, or the one after it, with the run: a run
run-with : (w x k : ℕ) → k ≤ free_in w x → k < w → run_in w x ≡ true → run_in w (with_bit x k) ≡ true
run-with zero x k le h r = absurd (omega arith)
run-with (suc w) x zero le h r = run-odd w (with_bit x 0) (first-low x) ∙ ap (run_in w) (first_rest x) ∙ half (parity x)
  where
    half : (x % 2 ≡ 0) ⊎ (x % 2 ≡ 1) → run_in w (x / 2) ≡ true
    half (inl e) = let z : x ≡ 0 = eqb-true x 0 (sym (run-even w x e) ∙ r) in run-zero w (x / 2) (omega arith)
    half (inr e) = sym (run-odd w x e) ∙ r
run-with (suc w) x (suc k) le h r = go (parity x) (run-with w (x / 2) k)
  where
    go : (x % 2 ≡ 0) ⊎ (x % 2 ≡ 1) → (k ≤ free_in w (x / 2) → k < w → run_in w (x / 2) ≡ true → run_in w (with_bit (x / 2) k) ≡ true) → run_in (suc w) (with_bit x (suc k)) ≡ true
    go (inl e) ih = absurd (omega (arith, free-even w x e))
    go (inr e) ih = run-odd w (with_bit x (suc k)) (later-low x k e) ∙ ap (run_in w) (later-rest x k e) ∙ ih (omega (arith, free-odd w x e)) (omega arith) (sym (run-odd w x e) ∙ r)

-- whose first free position comes later
free-with : (w x k : ℕ) → k ≤ free_in w x → k < w → k < free_in w (with_bit x k)
free-with zero x k le h = absurd (omega arith)
free-with (suc w) x zero le h = omega (arith, free-odd w (with_bit x 0) (first-low x))
free-with (suc w) x (suc k) le h = go (parity x) (free-with w (x / 2) k)
  where
    go : (x % 2 ≡ 0) ⊎ (x % 2 ≡ 1) → (k ≤ free_in w (x / 2) → k < w → k < free_in w (with_bit (x / 2) k)) → suc k < free_in (suc w) (with_bit x (suc k))
    go (inl e) ih = absurd (omega (arith, free-even w x e))
    go (inr e) ih =
        let more = ih (omega (arith, free-odd w x e)) (omega arith) in
        omega (arith, free-odd w (with_bit x (suc k)) (later-low x k e) ∙ ap (λ n. suc (free_in w n)) (later-rest x k e))

module _ (x k : ℕ) (le : k ≤ first_free x) (h : k < 32) where
  pub run_more : is_run x ≡ true → is_run (with_bit x k) ≡ true
  unfolding is_run first_free
  run_more r = run-with 32 x k le h r

  pub free_more : k < first_free (with_bit x k)
  unfolding first_free
  free_more = free-with 32 x k le h

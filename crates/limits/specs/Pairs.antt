-- A test on pairs of digits.
use Rattle.std.specs.Prelude.{ℕ, ◌+◌, ◌*◌, ◌<◌, ◌≡◌, Bool, true, false, List, length, get_or}

-- what the test P gave on the pair of digits numbered j
abbrev pub GaveAt : (ℕ → ℕ → Bool → Type 0) → List ℕ → ℕ → Bool → Type 0
GaveAt P s j b = P (get_or s (2 * j) 0) (get_or s (2 * j + 1) 0) b

-- b is whether the test passed each pair of the digits
pub record AllPairs (P : ℕ → ℕ → Bool → Type 0) (s : List ℕ) (b : Bool) : Type 0 where
  pub each : b ≡ true → (j : ℕ) → 2 * j + 1 < length s → GaveAt P s j true
  pub one : b ≡ false → (j : ℕ) × (2 * j + 1 < length s) × GaveAt P s j false

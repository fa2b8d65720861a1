-- Numbers in decimal.
use Rattle.std.specs.Prelude.{ℕ, zero, suc, ◌+◌, ◌/◌, ◌%◌, true, false, List, [], ◌∷◌, ltb}

-- the digits of a number before those already written; k bounds how many there are
unfoldable pub digits : ℕ → ℕ → List ℕ → List ℕ
digits zero n after = after
digits (suc k) n after = elim (ltb n 10) [
  | true ↦ (48 + n) ∷ after
  | false ↦ digits k (n / 10) ((48 + n % 10) ∷ after)
]

-- a number in decimal
unfoldable pub decimal : ℕ → List ℕ
decimal n = digits (suc n) n []

-- the last digit of a number
abbrev pub last_digit : ℕ → ℕ
last_digit n = 48 + n % 10

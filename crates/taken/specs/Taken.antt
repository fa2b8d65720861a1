-- The taken positions of a path are the ones of a number: its lowest bit is position 0.
use Rattle.std.specs.Prelude.{ℕ, zero, suc, ◌+◌, ◌*◌, ◌/◌, ◌%◌, Bool, true, eqb}

-- position k, 0 or 1
unfoldable pub bit_at : ℕ → ℕ → ℕ
bit_at x zero = x % 2
bit_at x (suc k) = bit_at (x / 2) k

unfoldable pub is_taken : ℕ → ℕ → Bool
is_taken x k = eqb (bit_at x k) 1

-- the set with position k
unfoldable pub with_bit : ℕ → ℕ → ℕ
with_bit x zero = x / 2 * 2 + 1
with_bit x (suc k) = with_bit (x / 2) k * 2 + x % 2

-- of w positions, the smallest that is not taken; w where all are
unfoldable pub free_in : ℕ → ℕ → ℕ
free_in zero x = 0
free_in (suc w) x = elim (x % 2) [ zero ↦ 0 | suc b ↦ suc (free_in w (x / 2)) ]

unfoldable pub first_free : ℕ → ℕ
first_free x = free_in 32 x

-- of w positions, those taken are a run from position 0
unfoldable pub run_in : ℕ → ℕ → Bool
run_in zero x = true
run_in (suc w) x = elim (x % 2) [ zero ↦ eqb x 0 | suc b ↦ run_in w (x / 2) ]

unfoldable pub is_run : ℕ → Bool
is_run x = run_in 32 x

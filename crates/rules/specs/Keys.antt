-- Literals as hex digits: their length, and whether one spells a key.
use Rattle.std.specs.Prelude.{ℕ, ◌+◌, ◌*◌, ◌-◌, ◌/◌, ◌%◌, Bool, true, ◌&&◌, ◌||◌, cond, List, [], ◌∷◌, eqb, leb, length}
use Rattle.rules.specs.Ast.{Target, Legacy, Segwit, Taproot}

-- from low to high, both included
unfoldable pub within : ℕ → ℕ → ℕ → Bool
within low high b = leb low b && leb b high

-- a hex digit of either case: 0 to 9, A to F, a to f
unfoldable pub is_digit : ℕ → Bool
is_digit b = within 48 57 b || within 65 70 b || within 97 102 b

unfoldable pub all_digits : List ℕ → Bool
all_digits [] = true
all_digits (b ∷ bs) = is_digit b && all_digits bs

-- an even count of hex digits
unfoldable pub is_hex : List ℕ → Bool
is_hex bs = eqb (length bs % 2) 0 && all_digits bs

-- what a hex digit stands for
unfoldable pub digit : ℕ → ℕ
digit b = cond (leb b 57) (b - 48) (cond (leb b 70) (b - 55) (b - 87))

-- the first byte that two hex digits spell
unfoldable pub first_byte : List ℕ → ℕ
first_byte [] = 0
first_byte (a ∷ []) = 0
first_byte (a ∷ b ∷ bs) = digit a * 16 + digit b

-- a literal's length: half its digits if it is an even count of hex digits, else its bytes
unfoldable pub pushed : List ℕ → ℕ
pushed bs = cond (is_hex bs) (length bs / 2) (length bs)

-- 33 bytes with first byte 2 or 3 (Legacy, Segwit), or 32 bytes (Taproot, BIP 340)
unfoldable pub shaped : Target → List ℕ → Bool
shaped Legacy bs = eqb (length bs) 66 && (eqb (first_byte bs) 2 || eqb (first_byte bs) 3)
shaped Segwit bs = eqb (length bs) 66 && (eqb (first_byte bs) 2 || eqb (first_byte bs) 3)
shaped Taproot bs = eqb (length bs) 64

-- a key: hex, of the target's shape, and marked 1
unfoldable pub is_key : Target → List ℕ → Bool → Bool
is_key target bs mark = is_hex bs && shaped target bs && mark

-- only ASCII
unfoldable pub is_ascii : List ℕ → Bool
is_ascii [] = true
is_ascii (b ∷ bs) = leb b 127 && is_ascii bs

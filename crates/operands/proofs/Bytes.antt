-- Laws of a literal's bytes.
use Prim.Native.Nat.{ℕ, ◌+◌, ◌*◌, ◌/◌}
use native.Mathlib.Omega.{arith}
use mathlib.Core.Bool.{◌&&◌}
use mathlib.Core.List.{List, [], ◌∷◌}
use mathlib.Core.Path.{◌≡◌, refl, ap}
use lib.Dec.{leb}
use lib.ListN.{length}
use Rattle.text.specs.Text.{unhex}
use Rattle.rules.specs.Keys.{digit, first_byte, is_ascii}
use Rattle.std.specs.List.{list_all}
use Rattle.limits.proofs.Digits.{Byte}

-- a recursion that says the same
pub ascii_all : (l : List ℕ) → list_all (λ b. leb b 127) l ≡ is_ascii l
unfolding is_ascii
ascii_all [] = refl
ascii_all (b ∷ l) = ap (λ r. leb b 127 && r) (ascii_all l)

-- the first byte that a literal of 66 digits spells
pub first_two : (s : List ℕ) → length s / 2 ≡ 66 → first_byte (unhex s) ≡ digit (Byte s 0) * 16 + digit (Byte s 1)
unfolding unhex first_byte
first_two [] q = absurd (omega arith)
first_two (a ∷ []) q = absurd (omega arith)
first_two (a ∷ b ∷ []) q = absurd (omega arith)
first_two (a ∷ b ∷ c ∷ []) q = absurd (omega arith)
first_two (a ∷ b ∷ c ∷ d ∷ s) q = refl

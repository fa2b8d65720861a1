-- Numbers in decimal and a text that is stored, computed.
use Rattle.std.proofs.Common.{◌≡◌, refl, ℕ, [], ◌∷◌}
use Rattle.std.proofs.lemmas.List.Edits.{sets}
use Rattle.output.specs.Decimal.{digits, decimal}

zero_is : decimal 0 ≡ 48 ∷ []
unfolding decimal digits
zero_is = refl

nine-is : decimal 9 ≡ 57 ∷ []
unfolding decimal digits
nine-is = refl

ten-is : decimal 10 ≡ 49 ∷ 48 ∷ []
unfolding decimal digits
ten-is = refl

largest-is : decimal 4294967295 ≡ 52 ∷ 50 ∷ 57 ∷ 52 ∷ 57 ∷ 54 ∷ 55 ∷ 50 ∷ 57 ∷ 53 ∷ []
unfolding decimal digits
largest-is = refl

stored_is : sets {A = ℕ} (1 ∷ 2 ∷ 3 ∷ 4 ∷ []) 1 (65 ∷ 66 ∷ []) ≡ 1 ∷ 65 ∷ 66 ∷ 4 ∷ []
stored_is = refl

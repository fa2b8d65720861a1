-- What one more digit comes to.
use Rattle.std.proofs.Common.{◌≡◌, ℕ, ◌<◌, ◌≤◌, Bool, true, false, refl, arith}
use borrow.Author.Tests.{leb-true, leb-false}
use Rattle.std.specs.Prelude.{Some, None, nat_le, if◌then◌else◌}

module _ (x limit : ℕ) where
  pub over : (if nat_le x limit then Some x else None) ≡ None → limit < x
  over h = go (nat_le x limit) refl h
    where
      go : (b : Bool) → nat_le x limit ≡ b → (if b then Some x else None) ≡ None → limit < x
      go true e h = absurd (let z : ◌≡◌ {A = ℕ} 0 1 = cc in omega arith)
      go false e h = leb-false x limit e

  pub fits : (w : ℕ) → (if nat_le x limit then Some x else None) ≡ Some w → (x ≡ w) × (x ≤ limit)
  fits w h = go (nat_le x limit) refl h
    where
      go : (b : Bool) → nat_le x limit ≡ b → (if b then Some x else None) ≡ Some w → (x ≡ w) × (x ≤ limit)
      go true e h = (cc, leb-true x limit e)
      go false e h = absurd (let z : ◌≡◌ {A = ℕ} 0 1 = cc in omega arith)

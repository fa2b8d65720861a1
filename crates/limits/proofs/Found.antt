-- The wait of a row.
use Prim.Native.Nat.{ℕ, ◌≤◌, ◌<◌}
use native.Mathlib.Omega.{arith}
use mathlib.Core.Bool.{Bool, true, false}
use mathlib.Core.Path.{◌≡◌, refl, sym, ap, ◌∙◌}
use borrow.Author.Tests.{eqb-true, leb-true}
use lib.Dec.{eqb, leb}
use Rattle.std.specs.Prelude.{Ok, Err, Option, None, Some}
use Rattle.std.specs.Result.{result_ok}
use Rattle.ast.specs.declared.Signed.{Signed}
use Rattle.ast.specs.declared.LocktimeOp.{LocktimeOp}
use Rattle.listing.specs.declared.StatementLine.{StatementLine}
use Rattle.listing.specs.declared.Line.{Line}
use Rattle.rules.specs.Result.{Result}
use Rattle.rules.specs.Limits.{up_to, in_bounds, carried, wait}
use Rattle.rules.proofs.Sound.{wait-sound, wait-can}
use Rattle.limits.specs.Waits.{found_in}

-- a wait within a bound is no longer than it
pub most_up_to : (high : ℕ) (v : Signed) → up_to high v ≡ true → v.magnitude ≤ high
unfolding up_to
most_up_to high v h = go v.negative refl
  where
    go : (b : Bool) → v.negative ≡ b → v.magnitude ≤ high
    go true e = let z : eqb v.magnitude 0 ≡ true = rw (e, up_to) at h in omega (arith, eqb-true v.magnitude 0 z)
    go false e = let z : leb v.magnitude high ≡ true = rw (e, up_to) at h in leb-true v.magnitude high z

-- a number that is found fits in 32 bits
pub small_carried : (o : LocktimeOp) (v : Signed) → in_bounds o v ≡ true → carried o v < 4294967296
unfolding in_bounds carried
small_carried LocktimeOp.Cltv v h = omega (arith, most_up_to 4294967295 v h)
small_carried LocktimeOp.Csv v h = omega (arith, most_up_to 65535 v h)
small_carried LocktimeOp.CsvTime v h = omega (arith, most_up_to 65535 v h)

nothing≢number : {k : ℕ} → ◌≡◌ {A = Option ℕ} None (Some k) → ⊥
nothing≢number h = cc

pub found-small : (l : Line) (k : ℕ) → found_in l ≡ Some k → k < 4294967296
found-small (Line.Contract g n) k h = absurd (nothing≢number h)
found-small (Line.Declaration n) k h = absurd (nothing≢number h)
found-small (Line.StackParam w t x) k h = absurd (nothing≢number h)
found-small (Line.Block n) k h = absurd (nothing≢number h)
found-small (Line.Statement (StatementLine.IfStatement w e)) k h = absurd (nothing≢number h)
found-small (Line.Statement (StatementLine.LocktimeStatement w o v)) k h = go (wait w o v) refl
  where
    go : (m : Result ℕ) → wait w o v ≡ m → k < 4294967296
    go (Ok n) q =
        let e : ◌≡◌ {A = Option ℕ} (Some n) (Some k) = sym (ap result_ok q) ∙ h in
        let f : n ≡ k = cc in
        let b = wait-sound w o v q in
        let c : ◌≡◌ {A = Result ℕ} (Ok (carried o v)) (Ok n) = sym (wait-can w o v b) ∙ q in
        let d : carried o v ≡ n = cc in
        omega (arith, small_carried o v b)
    go (Err x) q = absurd (nothing≢number (sym (ap result_ok q) ∙ h))
found-small (Line.Statement (StatementLine.VerifyStatement w)) k h = absurd (nothing≢number h)
found-small (Line.Statement (StatementLine.ExpressionStatement w)) k h = absurd (nothing≢number h)
found-small (Line.Expression l) k h = absurd (nothing≢number h)
found-small (Line.Factor l) k h = absurd (nothing≢number h)

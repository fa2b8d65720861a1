-- A number past the last variant stands for the last, a variant's number for the variant, and a number that is no kind's for no kind. Assumes nothing.
use mathlib.Core.Path.{◌≡◌, refl, sym}
use mathlib.Core.List.{List, [], ◌∷◌}
use Rattle.std.specs.Prelude.{None}
use Prim.Native.Nat.{ℕ, zero, suc, pred, ◌≤◌}
use native.Mathlib.Omega.{arith}
use borrow.Author.Tests.{ne_eqb}
use lib.ListN.{length, get_or}
use Rattle.ast.specs.Numbers.{targets, types, logical_ops, compare_ops, math_ops, unary_ops, crypto_ops, locktime_ops, target_number, type_number, logical_number, compare_number, math_number, unary_number, crypto_number, locktime_number, kinds, kind_among, kind_from}
use Rattle.ast.specs.Tree.{number}
use Rattle.ast.specs.declared.ErrorKind.{ErrorKind}
use Rattle.ast.specs.declared.Target.{Target}
use Rattle.ast.specs.declared.Type.{«Type» as ItemType}
use Rattle.ast.specs.declared.BinaryLogicalOp.{BinaryLogicalOp}
use Rattle.ast.specs.declared.BinaryCompareOp.{BinaryCompareOp}
use Rattle.ast.specs.declared.BinaryMathOp.{BinaryMathOp}
use Rattle.ast.specs.declared.UnaryMathOp.{UnaryMathOp}
use Rattle.ast.specs.declared.UnaryCryptoOp.{UnaryCryptoOp}
use Rattle.ast.specs.declared.LocktimeOp.{LocktimeOp}

-- what is known in the last arm of a match on a number whose arms are 0, 1, .., k - 1, `_`
abbrev Past : ℕ → ℕ → Type 0
Past n zero = Unit {0}
Past n (suc k) = Past n k × (n ≡ k → ⊥)

past : (n k : ℕ) → Past n k → k ≤ n
past n zero h = omega arith
past n (suc k) h = let before = past n k h.0 in let other = h.1 in omega arith

from_last : {A : Type 0} (l : List A) (d : A) (n : ℕ) → pred (length l) ≤ n → get_or l (pred (length l)) d ≡ d → d ≡ get_or l n d
from_last [] d n h e = refl
from_last (x ∷ []) d zero h e = sym e
from_last (x ∷ []) d (suc n) h e = refl
from_last (x ∷ y ∷ l) d zero h e = absurd (omega arith)
from_last (x ∷ y ∷ l) d (suc n) h e = from_last (y ∷ l) d n (omega arith) e

pub past-last : {A : Type 0} (l : List A) (d : A) (n : ℕ) → Past n (pred (length l)) → get_or l (pred (length l)) d ≡ d → d ≡ get_or l n d
past-last l d n h e = from_last l d n (past n (pred (length l)) h) e

-- what is known there if the arms are the numbers of some kinds
abbrev OfNone : ℕ → Type 0 → List ErrorKind → Type 0
OfNone n P [] = P
OfNone n P (k ∷ ks) = OfNone n (P × (n ≡ number k → ⊥)) ks

none-among : (n : ℕ) (P : Type 0) (ks : List ErrorKind) → OfNone n P ks → P × (kind_among ks n ≡ None)
unfolding kind_among
none-among n P [] h = (h, refl)
none-among n P (k ∷ ks) h =
    let r = none-among n (P × (n ≡ number k → ⊥)) ks h in
    (r.0.0, rw (ne_eqb (number k) n (λ e. r.0.1 (sym e)), kind_among) r.1)

pub kind-none : (n : ℕ) → OfNone n (Unit {0}) kinds → kind_from n ≡ None
unfolding kind_from
kind-none n h = (none-among n (Unit {0}) kinds h).1

pub target-back : (x : Target) → get_or targets (target_number x) Target.Taproot ≡ x
target-back Target.Legacy = refl
target-back Target.Segwit = refl
target-back Target.Taproot = refl

pub type-back : (x : ItemType) → get_or types (type_number x) ItemType.Boolean ≡ x
type-back ItemType.Signature = refl
type-back ItemType.Number = refl
type-back ItemType.String = refl
type-back ItemType.Boolean = refl

pub logical-back : (x : BinaryLogicalOp) → get_or logical_ops (logical_number x) BinaryLogicalOp.BoolAnd ≡ x
logical-back BinaryLogicalOp.BoolOr = refl
logical-back BinaryLogicalOp.BoolAnd = refl

pub compare-back : (x : BinaryCompareOp) → get_or compare_ops (compare_number x) BinaryCompareOp.NumNotEqual ≡ x
compare-back BinaryCompareOp.Equal = refl
compare-back BinaryCompareOp.NotEqual = refl
compare-back BinaryCompareOp.Greater = refl
compare-back BinaryCompareOp.GreaterOrEqual = refl
compare-back BinaryCompareOp.Less = refl
compare-back BinaryCompareOp.LessOrEqual = refl
compare-back BinaryCompareOp.NumEqual = refl
compare-back BinaryCompareOp.NumNotEqual = refl

pub math-back : (x : BinaryMathOp) → get_or math_ops (math_number x) BinaryMathOp.Min ≡ x
math-back BinaryMathOp.Add = refl
math-back BinaryMathOp.Sub = refl
math-back BinaryMathOp.Max = refl
math-back BinaryMathOp.Min = refl

pub unary-back : (x : UnaryMathOp) → get_or unary_ops (unary_number x) UnaryMathOp.Not ≡ x
unary-back UnaryMathOp.Add = refl
unary-back UnaryMathOp.Sub = refl
unary-back UnaryMathOp.Negate = refl
unary-back UnaryMathOp.Abs = refl
unary-back UnaryMathOp.Not = refl

pub crypto-back : (x : UnaryCryptoOp) → get_or crypto_ops (crypto_number x) UnaryCryptoOp.Ripemd160 ≡ x
crypto-back UnaryCryptoOp.Sha256 = refl
crypto-back UnaryCryptoOp.Ripemd160 = refl

pub locktime-back : (x : LocktimeOp) → get_or locktime_ops (locktime_number x) LocktimeOp.CsvTime ≡ x
locktime-back LocktimeOp.Cltv = refl
locktime-back LocktimeOp.Csv = refl
locktime-back LocktimeOp.CsvTime = refl

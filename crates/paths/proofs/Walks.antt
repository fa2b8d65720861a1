-- What a walk answers.
use Prim.Native.Nat.{ℕ, suc, ◌+◌}
use native.Mathlib.Omega.{arith}
use mathlib.Core.Bool.{Bool, true, false}
use mathlib.Core.List.{List}
use mathlib.Core.Path.{◌≡◌, refl, sym, ap, ◌∙◌}
use lib.Dec.{eqb}
use lib.ListN.{get_or, get_or-map}
use Rattle.std.specs.Prelude.{Ok, Err}
use Rattle.ast.specs.declared.CompileError.{CompileError}
use Rattle.rules.specs.Result.{Result}
use Rattle.rules.specs.Table.{Table}
use Rattle.paths.specs.declared.NamePlace.{NamePlace}
use Rattle.paths.specs.declared.Path.{Path}
use Rattle.taken.specs.Taken.{is_taken}
use Rattle.paths.specs.Path.{table_of, no_place, WellFormed, SameItems, Placed, Walked}
use Rattle.taken.proofs.Bits.{bit_past}

module _ {s t : List ℕ} {p : Path} {w : Result Table} {r : Result Path} where
  pub walk-fault : {x : CompileError} → r ≡ Err x → w ≡ Err x → Walked s t p w r
  walk-fault {x} e f = record { result = rw (e, f); onward = λ q o. cc }

  pub walk-pass : {q : Path} → r ≡ Ok q → w ≡ Ok (table_of s t q) → WellFormed s t q → SameItems p q → Walked s t p w r
  walk-pass {q} e f sound items = record {
    result = rw (e, f);
    onward = λ o h. let m : q ≡ o = cc in rw (← m) (record { sound = sound; items = items });
  }

pub same-items : (p : Path) → SameItems p p
same-items p = record { rows = refl; count = refl; more = λ k h. h; rest = λ k h. refl }

-- the row of a position, in two paths of the same items
pub same_row : {p q : Path} → SameItems p q → (k : ℕ) → (get_or q.places k no_place).row ≡ (get_or p.places k no_place).row
same_row {p} {q} i k =
    let row : NamePlace → ℕ = λ x. x.row in
    sym (get_or-map row q.places k no_place) ∙ ap (λ (r : List ℕ). get_or r k 0) i.rows ∙ get_or-map row p.places k no_place

-- what is not taken after a walk was not before
not-before : {p q : Path} → SameItems p q → (k : ℕ) → is_taken q.taken k ≡ false → is_taken p.taken k ≡ false
not-before {p} {q} i k h = go (is_taken p.taken k) refl
  where
    go : (b : Bool) → is_taken p.taken k ≡ b → b ≡ false
    go true e = sym (i.more k e) ∙ h
    go false e = refl

pub items-then : {p q r : Path} → SameItems p q → SameItems q r → SameItems p r
items-then {p} {q} {r} a b = record {
  rows = b.rows ∙ a.rows;
  count = b.count ∙ a.count;
  more = λ k h. b.more k (a.more k h);
  rest = λ k h. b.rest k h ∙ a.rest k (not-before b k h);
}

-- a path's places after a walk on it
pub placed_on : {s t : List ℕ} {p q : Path} {j : ℕ} → WellFormed s t q → SameItems p q → Placed j p → Placed j q
unfolding is_taken
placed_on {s} {t} {p} {q} w i h = record {
  row = λ k lt. ap (λ n. n + suc k) (same_row i k) ∙ h.row k (omega (arith, i.count));
  line = λ k f. ap (λ x. x.line) (i.rest k f) ∙ h.line k (not-before i k f);
  past = λ k le. i.rest k (ap (λ n. eqb n 1) (bit_past q.count q.taken k w.within le)) ∙ h.past k (omega (arith, i.count));
}

module _ {s t : List ℕ} {p : Path} {w : Result Table} {r : Result Path} (h : Walked s t p w r) where
  -- what the answer says of the rule
  pub walked-ok : {q : Path} → r ≡ Ok q → w ≡ Ok (table_of s t q)
  walked-ok e = sym h.result ∙ rw e

  pub walked-err : {x : CompileError} → r ≡ Err x → w ≡ Err x
  walked-err e = sym h.result ∙ rw e

  -- the same answer to an equal rule
  pub walk_is : {v : Result Table} → v ≡ w → Walked s t p v r
  walk_is e = record { result = h.result ∙ sym e; onward = h.onward }

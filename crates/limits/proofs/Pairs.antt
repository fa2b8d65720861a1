-- A test of a slice's chunks of two, as a test of its pairs.
use Rattle.std.proofs.Common.{◌≡◌, ℕ, ◌+◌, ◌*◌, ◌<◌, Bool, true, false, List, Bor, length, get_or, sym, ap, ◌∙◌, arith}
use Rattle.std.specs.Prelude.{Option, Some}
use Rattle.std.specs.Bool.{MatchBool, IsTrue}
use Rattle.std.specs.Iterator.Runs.{Run, CallKeepsClosure, AllItemsGive, AnyItemGives, ItemsMapToExactChunks}
use Rattle.std.specs.Fn.{Called}
use denote.Param.Members.{Mut}
use Rattle.limits.proofs.Chunks.{item-there}
use Rattle.limits.specs.Pairs.{AllPairs, GaveAt}

module _ {S : Type 0} {steps : S → Option (Bor (List ℕ)) → S → Type 0} (p : Run steps) (s : List ℕ) (cut : ItemsMapToExactChunks p (λ x. x.now) 2 s) {F : Type 0} {g : Mut F (Bor (List ℕ) × Unit {0}) Bool} {c : F} (P : ℕ → ℕ → Bool → Type 0) (f : (x : Bor (List ℕ)) (r : Bool) (q : F) → Called g c (x, tt) r q → (q ≡ c) × P (get_or x.now 0 0) (get_or x.now 1 0) r) where
  -- what the test gave on an item
  at-pair : (j : ℕ) (r : Bool) (x : Bor (List ℕ)) → p.at j ≡ Some x → Called g c (x, tt) r c → (2 * j + 1 < length s) × GaveAt P s j r
  at-pair j r x e h =
      let q = rw e at (cut.2 j) in
      let a : get_or x.now 0 0 ≡ get_or s (2 * j) 0 = q.2.2 0 0 (omega arith) ∙ ap (λ i. get_or s i 0) (omega arith) in
      let b : get_or x.now 1 0 ≡ get_or s (2 * j + 1) 0 = q.2.2 1 0 (omega arith) ∙ ap (λ i. get_or s i 0) (omega arith) in
      (omega (arith, q.1), rw (sym a, sym b) (f x r c h).1)

  -- what it gave on all items
  pub pairs-all : {b : Bool} → MatchBool b (IsTrue p.whole × AllItemsGive p g c true) (AnyItemGives p g c false) → AllPairs P s b
  pairs-all {b} h =
      let keeps : CallKeepsClosure g c = λ a r q k. (f a.0 r q k).0 in
      record {
        each = λ e j l. let q = rw e at h in let t = item-there p j (omega (arith, cut.1 q.0)) in (at-pair j true t.0 t.1 (rw t.1 at (q.1 keeps j))).1;
        one = λ e. let q = (rw e at h) keeps in let t = item-there p q.0 q.1 in let n = at-pair q.0 false t.0 t.1 (rw t.1 at q.2) in (q.0, n.0, n.1);
      }

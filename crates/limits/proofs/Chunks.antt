-- What a run over a slice's chunks of n says of the slice.
use mathlib.Core.Logic.{◌⊎◌, inl, inr}
use denote.Param.Members.{Mut}
use Rattle.std.proofs.Common.{◌≡◌, ℕ, ◌+◌, ◌*◌, ◌<◌, ◌≤◌, Bool, true, List, Bor, length, get_or, take, drop, sym, ap, ◌∙◌, arith}
use Rattle.std.specs.Prelude.{Option, Some, None}
use Rattle.std.specs.Fn.{CalledAt}
use Rattle.std.specs.List.{slice_get}
use Rattle.std.specs.Iterator.Runs.{Run, YieldsRun, CallKeepsClosure, ItemsMapToExactChunks, IsTakeWhileRun}
use Rattle.std.proofs.lemmas.Option.{slice_get_cases}

-- there is an item at each place below the length
pub item-there : {S A : Type 0} {steps : S → Option A → S → Type 0} (p : Run steps) (j : ℕ) → j < p.len → (x : A) × (p.at j ≡ Some x)
unfolding YieldsRun
item-there {A = A} p j l = go (slice_get_cases p.items j).1
  where
    go : ((x : A) × (j < length p.items) × (slice_get p.items j ≡ Some x) × (get_or p.items j x ≡ x)) ⊎ ((length p.items ≤ j) × (slice_get p.items j ≡ None)) → (x : A) × (p.at j ≡ Some x)
    go (inl q) = (q.0, p.gave.1 j ∙ q.2)
    go (inr q) = absurd (omega (arith, q.0, p.long))

-- the chunks taken while they pass a test
pub chunk-passed : {S T : Type 0} {steps : S → Option (Bor (List ℕ)) → S → Type 0} {source : T → Option (Bor (List ℕ)) → T → Type 0} (u : Run steps) (q : Run source) {F : Type 0} {g : Mut F (Bor (Bor (List ℕ)) × Unit {0}) Bool} {c : F} (n : ℕ) (xs : List ℕ) (test : List ℕ → Bool)
    → IsTakeWhileRun u q g c → ItemsMapToExactChunks q (λ x. x.now) n xs → CallKeepsClosure g c → ((x : Bor (List ℕ)) → CalledAt g c x true c → true ≡ test x.now)
    → (k : ℕ) → k < u.len → (k * n + n ≤ length xs) × (test (take n (drop (k * n) xs)) ≡ true)
chunk-passed u q n xs test h cut keeps f k l =
    let t = item-there u k l in
    let s = rw (h.1 k l ∙ t.1) at (cut.2 k) in
    (s.1, ap test (sym s.2.0) ∙ sym (f t.0 (rw t.1 at ((h.2 keeps).0 k))))

-- What is taken in one table handed on to another, position by position.
use Prim.Native.Nat.{ℕ, zero, suc, ◌+◌, ◌/◌, ◌%◌, ◌^◌, ◌≤◌, ◌<◌}
use native.Mathlib.Nat.{pow-suc}
use native.Mathlib.Numerals.{add-one}
use native.Mathlib.Omega.{arith}
use mathlib.Core.Bool.{Bool, true, false, ◌&&◌, ◌||◌, and-false, or-true}
use mathlib.Core.List.{List, [], ◌∷◌}
use mathlib.Core.Logic.{◌⊎◌, inl, inr}
use mathlib.Core.Option.{Option, some, none}
use mathlib.Core.Path.{◌≡◌, refl, sym, ap, ap₂, ◌∙◌, subst}
use borrow.Author.Tests.{eq-eqb, ne_eqb}
use lib.Dec.{eqb}
use lib.ListN.{length, get_or, take, drop, set, get_elem?}
use Rattle.std.proofs.lemmas.Bool.{and_parts}
use Rattle.std.specs.Prelude.{Ok}
use Rattle.ast.specs.declared.Location.{Location}
use Rattle.ast.specs.declared.ErrorKind.TheVariants.{DeclarationPathMismatch}
use Rattle.ast.specs.Tree.{same, StackParam}
use Rattle.rules.specs.Result.{refuse}
use Rattle.rules.specs.Table.{Entry, Table}
use Rattle.rules.specs.Usage.{free, mark as mark_entry}
use Rattle.rules.specs.Transfer.{placed, untaken, run, hand_one, hand, transfer}
use Rattle.rules.proofs.Basics.{true≢false'}
use Rattle.names.specs.Items.{item_in}
use Rattle.paths.specs.declared.NamePlace.{NamePlace}
use Rattle.paths.specs.declared.Path.{Path}
use Rattle.taken.specs.Taken.{free_in, first_free, run_in, is_run}
use Rattle.paths.specs.Path.{taken_by, table_from, table_of, no_place, WellFormed, SameItems, marked}
use Rattle.transfer.specs.Handed.{handed}
use Rattle.taken.proofs.Bits.{parity, free-even, free-odd, run-even, run-odd, half-zero, run-zero, before-first, first-within, free_more}
use Rattle.paths.proofs.Tables.{entry_at, entry-at, mark-at, marked-items, marked-sound, table-length}
use Rattle.paths.proofs.Walks.{same-items, same_row, items-then}

-- both tables have an item at position k, and of the same name
unfoldable pub agree_at : Table → Table → ℕ → Bool
agree_at t n k = elim (get_elem? t k) [
  | none ↦ false
  | some e ↦ elim (get_elem? n k) [ none ↦ false | some c ↦ same e.param.identifier c.param.identifier ]
]

-- ---- the taken set of a path's table

untaken-past : (k : ℕ) → untaken (drop k []) ≡ true
unfolding untaken
untaken-past zero = refl
untaken-past (suc k) = refl

module _ (s t : List ℕ) where
  untaken-is : (qs : List NamePlace) (x n : ℕ) → x < 2 ^ n → n ≤ length qs → untaken (table_from s t qs x n) ≡ eqb x 0
  unfolding table_from untaken taken_by free
  untaken-is [] x n h le = let z : n ≡ 0 = omega arith in let e : x < 1 = subst (λ m. x < 2 ^ m) z h in sym (eq-eqb x 0 (omega arith))
  untaken-is (q ∷ qs) x zero h le = sym (eq-eqb x 0 (omega arith))
  untaken-is (q ∷ qs) x (suc n) h le = go (parity x) (untaken-is qs (x / 2) n (omega (arith, pow-suc 2 n)) (omega arith))
    where
      go : (x % 2 ≡ 0) ⊎ (x % 2 ≡ 1) → untaken (table_from s t qs (x / 2) n) ≡ eqb (x / 2) 0 → (free (taken_by (x % 2) q.line) && untaken (table_from s t qs (x / 2) n)) ≡ eqb x 0
      go (inl e) ih = rw e (ih ∙ half-zero x e)
      go (inr e) ih = rw e (sym (ne_eqb x 0 (λ z. omega arith)))

  -- w is any width that holds the table
  run_is : (qs : List NamePlace) (x n w : ℕ) → x < 2 ^ n → n ≤ length qs → n ≤ w → run (table_from s t qs x n) ≡ run_in w x
  unfolding table_from run taken_by run_in
  run_is [] x n w h le wide = let z : n ≡ 0 = omega arith in let e : x < 1 = subst (λ m. x < 2 ^ m) z h in sym (run-zero w x (omega arith))
  run_is (q ∷ qs) x zero w h le wide = sym (run-zero w x (omega arith))
  run_is (q ∷ qs) x (suc n) zero h le wide = absurd (omega arith)
  run_is (q ∷ qs) x (suc n) (suc w) h le wide = go (parity x) (run_is qs (x / 2) n w (omega (arith, pow-suc 2 n)) (omega arith) (omega arith))
    where
      go : (x % 2 ≡ 0) ⊎ (x % 2 ≡ 1) → run (table_from s t qs (x / 2) n) ≡ run_in w (x / 2) → run (record { param = item_in s t q.row; taken = taken_by (x % 2) q.line } ∷ table_from s t qs (x / 2) n) ≡ run_in (suc w) x
      go (inl e) ih = rw e (untaken-is qs (x / 2) n (omega (arith, pow-suc 2 n)) (omega arith) ∙ half-zero x e ∙ sym (run-even w x e))
      go (inr e) ih = rw e (ih ∙ sym (run-odd w x e))

  -- past the first free position of a run nothing is taken
  run-rest : (qs : List NamePlace) (x n w : ℕ) → x < 2 ^ n → n ≤ length qs → n ≤ w → run_in w x ≡ true → untaken (drop (free_in w x) (table_from s t qs x n)) ≡ true
  unfolding table_from untaken taken_by free
  run-rest [] x n w h le wide r = untaken-past (free_in w x)
  run-rest (q ∷ qs) x zero w h le wide r = untaken-past (free_in w x)
  run-rest (q ∷ qs) x (suc n) zero h le wide r = absurd (omega arith)
  run-rest (q ∷ qs) x (suc n) (suc w) h le wide r = go (parity x) (run-rest qs (x / 2) n w (omega (arith, pow-suc 2 n)) (omega arith) (omega arith))
    where
      go : (x % 2 ≡ 0) ⊎ (x % 2 ≡ 1) → (run_in w (x / 2) ≡ true → untaken (drop (free_in w (x / 2)) (table_from s t qs (x / 2) n)) ≡ true) → untaken (drop (free_in (suc w) x) (record { param = item_in s t q.row; taken = taken_by (x % 2) q.line } ∷ table_from s t qs (x / 2) n)) ≡ true
      go (inl e) ih = rw (free-even w x e, e) (untaken-is qs (x / 2) n (omega (arith, pow-suc 2 n)) (omega arith) ∙ half-zero x e ∙ sym (run-even w x e) ∙ r)
      go (inr e) ih = rw (free-odd w x e) (ih (sym (run-odd w x e) ∙ r))

-- ---- handing on, on tables

free-none : (o : Option ℕ) → free o ≡ true → o ≡ none
unfolding free
free-none none h = refl
free-none (some m) h = cc

hand-none : (t n : Table) → untaken t ≡ true → hand t n ≡ n
unfolding untaken hand hand_one
hand-none [] n h = refl
hand-none (e ∷ t) [] h = refl
hand-none (e ∷ t) (c ∷ n) h = let q = and_parts (free e.taken) (untaken t) h in rw (free-none e.taken q.0, hand-none t n q.1)

placed-none : (t n : Table) → untaken t ≡ true → placed t n ≡ true
unfolding untaken placed
placed-none [] n h = refl
placed-none (e ∷ t) [] h = let q = and_parts (free e.taken) (untaken t) h in rw (q.0, placed-none t [] q.1)
placed-none (e ∷ t) (c ∷ n) h = let q = and_parts (free e.taken) (untaken t) h in rw (q.0, placed-none t n q.1)

-- only the items before position r are taken
hand-rest : (r : ℕ) (t n : Table) → untaken (drop r t) ≡ true → hand t n ≡ hand (take r t) n
unfolding hand
hand-rest zero t n h = hand-none t n h
hand-rest (suc r) [] n h = refl
hand-rest (suc r) (e ∷ t) [] h = refl
hand-rest (suc r) (e ∷ t) (c ∷ n) h = rw (hand-rest r t n h)

placed-rest : (r : ℕ) (t n : Table) → untaken (drop r t) ≡ true → placed (take r t) n ≡ true → placed t n ≡ true
unfolding placed
placed-rest zero t n h p = placed-none t n h
placed-rest (suc r) [] n h p = refl
placed-rest (suc r) (e ∷ t) [] h p = let q = and_parts (free e.taken) (placed (take r t) []) p in rw (q.0, placed-rest r t [] h q.1)
placed-rest (suc r) (e ∷ t) (c ∷ n) h p = let q = and_parts (free e.taken || same e.param.identifier c.param.identifier) (placed (take r t) n) p in rw (q.0, placed-rest r t n h q.1)

-- one position more
hand-step : (k : ℕ) (t n : Table) {e c : Entry} {m : ℕ} → get_elem? t k ≡ some e → e.taken ≡ some m → get_elem? n k ≡ some c → hand (take (suc k) t) n ≡ set (hand (take k t) n) k (mark_entry m c)
unfolding hand hand_one
hand-step k [] n h q g = cc
hand-step k (d ∷ t) [] h q g = cc
hand-step zero (d ∷ t) (b ∷ n) {e} {c} {m} h q g = let x : d ≡ e = cc in let y : b ≡ c = cc in let w : d.taken ≡ some m = ap (λ v. v.taken) x ∙ q in rw (w, y)
hand-step (suc k) (d ∷ t) (b ∷ n) h q g = rw (hand-step k t n h q g)

placed-step : (k : ℕ) (t n : Table) {e c : Entry} → get_elem? t k ≡ some e → get_elem? n k ≡ some c → same e.param.identifier c.param.identifier ≡ true → placed (take k t) n ≡ true → placed (take (suc k) t) n ≡ true
unfolding placed
placed-step k [] n h g q p = cc
placed-step k (d ∷ t) [] h g q p = cc
placed-step zero (d ∷ t) (b ∷ n) {e} {c} h g q p =
    let x : d ≡ e = cc in
    let y : b ≡ c = cc in
    let w : same d.param.identifier b.param.identifier ≡ true = ap₂ (λ (v u : Entry). same v.param.identifier u.param.identifier) x y ∙ q in
    rw (w, or-true (free d.taken))
placed-step (suc k) (d ∷ t) (b ∷ n) h g q p = let r = and_parts (free d.taken || same d.param.identifier b.param.identifier) (placed (take k t) n) p in rw (r.0, placed-step k t n h g q r.1)

-- an item that is taken and has no fellow
placed-fails : (k : ℕ) (t n : Table) {e : Entry} {m : ℕ} → get_elem? t k ≡ some e → e.taken ≡ some m → agree_at t n k ≡ false → placed t n ≡ false
unfolding placed agree_at free
placed-fails k [] n h q g = cc
placed-fails zero (d ∷ t) [] {e} {m} h q g = let x : d ≡ e = cc in rw (ap (λ v. v.taken) x ∙ q)
placed-fails zero (d ∷ t) (b ∷ n) {e} {m} h q g = let x : d ≡ e = cc in rw (ap (λ v. v.taken) x ∙ q, g)
placed-fails (suc k) (d ∷ t) [] h q g = rw (placed-fails k t [] h q (none-agrees k t)) (and-false (free d.taken))
  where
    none-agrees : (k : ℕ) (t : Table) → agree_at t [] k ≡ false
    none-agrees k [] = refl
    none-agrees zero (d ∷ t) = refl
    none-agrees (suc k) (d ∷ t) = none-agrees k t
placed-fails (suc k) (d ∷ t) (b ∷ n) h q g = rw (placed-fails k t n h q g) (and-false (free d.taken || same d.param.identifier b.param.identifier))

-- the fellow of an item
agree-some : (k : ℕ) (t n : Table) {e : Entry} → get_elem? t k ≡ some e → agree_at t n k ≡ true → (c : Entry) × (get_elem? n k ≡ some c) × (same e.param.identifier c.param.identifier ≡ true)
unfolding agree_at
agree-some k t n {e} h g = go (get_elem? n k) refl (sym (rw (h, agree_at)) ∙ g)
  where
    go : (o : Option Entry) → get_elem? n k ≡ o → elim (get_elem? n k) as (λ o'. Bool) [ none ↦ false | some c ↦ same e.param.identifier c.param.identifier ] ≡ true → (c : Entry) × (get_elem? n k ≡ some c) × (same e.param.identifier c.param.identifier ≡ true)
    go none q r = let a : false ≡ true = sym (rw q) ∙ r in cc
    go (some c) q r = (c, q, sym (rw q) ∙ r)

some-some : {A : Type 0} {a b : A} → some a ≡ some b → a ≡ b
some-some h = cc

at-below : {A : Type 0} (l : List A) (k : ℕ) {a : A} → get_elem? l k ≡ some a → k < length l
at-below [] k h = cc
at-below (x ∷ l) zero h = omega arith
at-below (x ∷ l) (suc k) h = omega (arith, at-below l k h)

-- ---- on paths

entry_of : {s t : List ℕ} {p : Path} → WellFormed s t p → (k : ℕ) → k < p.count → get_elem? (table_of s t p) k ≡ some (entry_at s t p.places p.taken k)
unfolding table_of
entry_of {s} {t} {p} w k h = entry-at s t p.places p.taken p.count k h (omega (arith, w.full, w.few))

-- two paths side by side at a position, from the lines of their rows
module _ {s t : List ℕ} {p q : Path} (v : WellFormed s t p) (w : WellFormed s t q) {k : ℕ} (h : k < p.count) where
  pub agree-past : q.count ≤ k → false ≡ agree_at (table_of s t p) (table_of s t q) k
  unfolding agree_at table_of
  agree-past le = go (get_elem? (table_of s t q) k) refl
    where
      go : (o : Option Entry) → get_elem? (table_of s t q) k ≡ o → false ≡ agree_at (table_of s t p) (table_of s t q) k
      go none e = sym (rw (entry_of v k h, agree_at) (rw e))
      go (some c) e = absurd (omega (arith, at-below (table_of s t q) k e, table-length s t q.places q.taken q.count))

  pub agree-here : k < q.count → same (item_in s t (get_or p.places k no_place).row).identifier (item_in s t (get_or q.places k no_place).row).identifier ≡ agree_at (table_of s t p) (table_of s t q) k
  unfolding agree_at entry_at
  agree-here g = sym (rw (entry_of v k h, agree_at) (rw (entry_of w k g)))

-- a position of the run, and the line that took it
module _ {s t : List ℕ} {from : Path} (v : WellFormed s t from) {k : ℕ} (h : k < first_free from.taken) where
  pub run-below : k < from.count
  run-below = omega (arith, first-within from.taken from.count v.within)

  run-line : (entry_at s t from.places from.taken k).taken ≡ some (get_or from.places k no_place).line
  unfolding entry_at taken_by
  run-line = rw (before-first from.taken k h)

-- the first k items of `from` are taken in q, which began as `to`
record Handing (s t : List ℕ) (from to : Path) (k : ℕ) (q : Path) : Type 0 where
  sound : WellFormed s t q
  items : SameItems to q
  table : table_of s t q ≡ hand (take k (table_of s t from)) (table_of s t to)
  on : k ≤ first_free q.taken

module _ {s t : List ℕ} {from to : Path} (v : WellFormed s t from) (w : WellFormed s t to) where
  run_past : untaken (drop (first_free from.taken) (table_of s t from)) ≡ true
  unfolding is_run first_free table_of
  run_past = run-rest s t from.places from.taken from.count 32 v.within (omega (arith, v.full, v.few)) v.few v.run

  -- ---- whether the run stands in `to`, position by position

  -- the item at position k has no fellow
  pub shared-not : {k : ℕ} → k < first_free from.taken → agree_at (table_of s t from) (table_of s t to) k ≡ false → placed (table_of s t from) (table_of s t to) ≡ false
  shared-not {k} h e = placed-fails k (table_of s t from) (table_of s t to) (entry_of v k (run-below v h)) (run-line v h) e

  pub shared-more : {k : ℕ} → k < first_free from.taken → agree_at (table_of s t from) (table_of s t to) k ≡ true → placed (take k (table_of s t from)) (table_of s t to) ≡ true → placed (take (k + 1) (table_of s t from)) (table_of s t to) ≡ true
  shared-more {k} h e p =
      let f = table_of s t from in
      let n = table_of s t to in
      let here = entry_of v k (run-below v h) in
      let fellow = agree-some k f n here e in
      rw (add-one k) (placed-step k f n here fellow.1 fellow.2 p)

  pub shared-all : {k : ℕ} → k ≡ first_free from.taken → placed (take k (table_of s t from)) (table_of s t to) ≡ true → placed (table_of s t from) (table_of s t to) ≡ true
  shared-all {k} e p = let f = table_of s t from in placed-rest k f (table_of s t to) (ap (λ m. untaken (drop m f)) e ∙ run_past) p

  -- ---- and handed over, where it does

  pub transfer-refused : (l : Location) → placed (table_of s t from) (table_of s t to) ≡ false → transfer l (table_of s t from) (table_of s t to) ≡ refuse DeclarationPathMismatch l
  unfolding transfer
  transfer-refused l e = rw (e, transfer)

  hand-more : {k : ℕ} {q : Path} → Handing s t from to k q → k < first_free from.taken → agree_at (table_of s t from) (table_of s t to) k ≡ true → Handing s t from to (suc k) (marked q k (get_or from.places k no_place).line)
  unfolding table_of entry_at
  hand-more {k} {q} b h e =
      let f = table_of s t from in
      let n = table_of s t to in
      let here = entry_of v k (run-below v h) in
      let fellow = agree-some k f n here e in
      let below : k < to.count = omega (arith, at-below n k fellow.1, table-length s t to.places to.taken to.count) in
      let line = (get_or from.places k no_place).line in
      let lt : k < q.count = omega (arith, b.items.count) in
      let entry : entry_at s t to.places to.taken k ≡ fellow.0 = some-some (sym (entry_of w k below) ∙ fellow.1) in
      let item : (entry_at s t q.places q.taken k).param ≡ fellow.0.param = ap (item_in s t) (same_row b.items k) ∙ ap (λ x. x.param) entry in
      record {
        sound = marked-sound b.sound k line lt b.on;
        items = items-then b.items (marked-items q k line);
        table = sym (mark-at s t q.places q.taken q.count k line lt (omega (arith, b.sound.full, b.sound.few)))
            ∙ ap₂ (λ (tb : Table) (p : StackParam). set tb k (record { param = p; taken = some line })) b.table item
            ∙ sym (hand-step k f n here (run-line v h) fellow.1);
        on = free_more q.taken k b.on (omega (arith, b.sound.few));
      }

  module _ (fits : placed (table_of s t from) (table_of s t to) ≡ true) where
    fellow-at : {k : ℕ} → k < first_free from.taken → agree_at (table_of s t from) (table_of s t to) k ≡ true
    fellow-at {k} h = go (agree_at (table_of s t from) (table_of s t to) k) refl
      where
        go : (b : Bool) → agree_at (table_of s t from) (table_of s t to) k ≡ b → b ≡ true
        go true e = refl
        go false e = absurd (true≢false' fits (shared-not h e))

    handing : (k : ℕ) → k ≤ first_free from.taken → Handing s t from to k (handed from to k)
    unfolding handed hand
    handing zero h = record { sound = w; items = same-items to; table = refl; on = omega arith }
    handing (suc k) h = hand-more (handing k (omega arith)) (omega arith) (fellow-at (omega arith))

    -- the path that is left
    module _ {n : ℕ} (all : n ≡ first_free from.taken) where
      pub handed-sound : WellFormed s t (handed from to n)
      handed-sound = (handing n (omega arith)).sound

      pub handed-items : SameItems to (handed from to n)
      handed-items = (handing n (omega arith)).items

      pub transfer-handed : (l : Location) → transfer l (table_of s t from) (table_of s t to) ≡ Ok (table_of s t (handed from to n))
      unfolding is_run table_of transfer
      transfer-handed l =
          let f = table_of s t from in
          let top : run f ≡ true = run_is s t from.places from.taken from.count 32 v.within (omega (arith, v.full, v.few)) v.few ∙ v.run in
          let rest : untaken (drop n f) ≡ true = ap (λ m. untaken (drop m f)) all ∙ run_past in
          let both : (placed f (table_of s t to) && run f) ≡ true = rw (fits, top) in
          rw (both, transfer) (ap Ok (hand-rest n f (table_of s t to) rest ∙ sym (handing n (omega arith)).table))

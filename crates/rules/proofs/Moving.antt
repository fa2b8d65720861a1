-- The transfer, the building of a table, and what is left unused.
use Prim.Native.Nat.{ℕ, ◌≤◌}
use native.Mathlib.Omega.{arith}
use mathlib.Core.Bool.{Bool, true, false, ◌&&◌, ◌||◌}
use mathlib.Core.List.{List, [], ◌∷◌, ◌++◌, map, append-nil}
use mathlib.Core.Option.{Option, some, none}
use mathlib.Core.Path.{◌≡◌, refl, sym, ◌∙◌, ap, subst, subst₂}
use lib.ListN.{length}
use Rattle.std.specs.Prelude.{Ok}
use Rattle.std.proofs.lemmas.Bool.{and_parts}
use Rattle.rules.specs.Ast.{Name, same, Location, StackParam, Declaration, from_top}
use Rattle.rules.specs.Result.{◌>>=◌}
use Rattle.rules.specs.Table.{Entry, Table, params, among, enter, build, build_all}
use Rattle.rules.specs.Usage.{free}
use Rattle.rules.specs.Transfer.{placed, untaken, run, hand, hand_one, transfer}
use Rattle.rules.specs.Unused.{used, unused}
use Rattle.rules.specs.Stack.{Met, stack}
use Rattle.rules.specs.InOrder.{Absent, Distinct, DistinctAll}
use Rattle.rules.proofs.Basics.{Err≢Ok, true≢false', bound, both_ok, same_true, same_refl, same_false, same_not, Ok-injective}
use Rattle.rules.proofs.State.{idents, names_of, Taken, Fresh, Takes, State, met_names, met_names-append, taken_of, named-of, left-names}
use Rattle.rules.proofs.Each.{Each, each-length}

-- a fresh table takes over nothing from fresh items
hand-fresh : (left n : Table) → Fresh left → hand left n ≡ n
unfolding hand hand_one
hand-fresh [] n f = refl
hand-fresh (e ∷ left) [] f = refl
hand-fresh (e ∷ left) (c ∷ n) f = rw f.0 (ap (c ∷◌) (hand-fresh left n f.1))

hand-params : (t n : Table) → params (hand t n) ≡ params n
unfolding hand hand_one
hand-params [] n = refl
hand-params (e ∷ t) [] = refl
hand-params (e ∷ t) (c ∷ n) = go e.taken (hand-params t n)
  where
    go : (o : Option ℕ) → params (hand t n) ≡ params n → params (hand_one o c ∷ hand t n) ≡ params (c ∷ n)
    go none q = ap (c.param ∷◌) q
    go (some m) q = ap (c.param ∷◌) q

untaken-fresh : (t : Table) → Fresh t → untaken t ≡ true
unfolding untaken free
untaken-fresh [] f = refl
untaken-fresh (e ∷ t) f = rw f.0 (untaken-fresh t f.1)

run-state : (done left : Table) → Taken done → Fresh left → run (done ++ left) ≡ true
unfolding run
run-state [] [] d f = refl
run-state [] (e ∷ t) d f = rw (f.0, run) (untaken-fresh t f.1)
run-state (e ∷ done) left d f = rw (d.0.1, run) (run-state done left d.1 f)

hand_one-param : (o : Option ℕ) (c : Entry) → (hand_one o c).param ≡ c.param
unfolding hand_one
hand_one-param none c = refl
hand_one-param (some m) c = refl

-- what was placed is taken over: the run of the first table becomes the run of the second, in which no more was taken before
placed-rest : (e c : Entry) (t n : Table) → placed (e ∷ t) (c ∷ n) ≡ true → placed t n ≡ true
unfolding placed
placed-rest e c t n h = (and_parts (free e.taken || same e.param.identifier c.param.identifier) (placed t n) h).1

hand-cons : (v : Met) (ks : List Met) (e c : Entry) (done left n : Table) → Each Takes (v ∷ ks) (e ∷ done) → placed ((e ∷ done) ++ left) (c ∷ n) ≡ true → State ks (hand (done ++ left) n) → State (v ∷ ks) (hand ((e ∷ done) ++ left) (c ∷ n))
unfolding placed hand hand_one free
hand-cons v ks e c done left n k h s =
    let a = and_parts (free e.taken || same e.param.identifier c.param.identifier) (placed (done ++ left) n) h in
    let q : same e.param.identifier c.param.identifier ≡ true = subst (λ o. (free o || same e.param.identifier c.param.identifier) ≡ true) k.0.1 a.0 in
    record {
      done = hand_one e.taken c ∷ s.done;
      left = s.left;
      is = ap (hand_one e.taken c ∷◌) s.is;
      by = ((k.0.0 ∙ same_true _ _ q ∙ ap (λ p. p.identifier) (sym (hand_one-param e.taken c)), ap (λ o. (hand_one o c).taken) k.0.1), s.by);
      fresh = s.fresh;
    }

handed : (ks : List Met) (done left d l : Table) → Each Takes ks done → Fresh left → Taken d → Fresh l → length d ≤ length ks → placed (done ++ left) (d ++ l) ≡ true → State ks (hand (done ++ left) (d ++ l))
unfolding placed hand hand_one free
handed [] [] left [] l k f u g n h = record { done = []; left = l; is = hand-fresh left l f; by = tt; fresh = g }
handed [] [] left (c ∷ d) l k f u g n h = absurd (omega arith)
handed [] (e ∷ done) left d l k f u g n h = absurd k
handed (v ∷ ks) [] left d l k f u g n h = absurd k
handed (v ∷ ks) (e ∷ done) left [] [] k f u g n h = absurd (true≢false' (and_parts _ _ h).0 (ap free k.0.1))
handed (v ∷ ks) (e ∷ done) left [] (c ∷ l) k f u g n h = hand-cons v ks e c done left l k h (handed ks done left [] l k.1 f tt g.1 (omega arith) (placed-rest e c (done ++ left) l h))
handed (v ∷ ks) (e ∷ done) left (c ∷ d) l k f u g n h = hand-cons v ks e c done left (d ++ l) k h (handed ks done left d l k.1 f u.1 g (omega arith) (placed-rest e c (done ++ left) (d ++ l) h))

placed-fresh : (t n : Table) → Fresh t → placed t n ≡ true
unfolding placed free
placed-fresh [] n f = refl
placed-fresh (e ∷ t) [] f = rw f.0 (placed-fresh t [] f.1)
placed-fresh (e ∷ t) (c ∷ n) f = rw f.0 (placed-fresh t n f.1)

placed-can : (done left n : Table) (xs : List Name) → Taken done → Fresh left → names_of n ≡ names_of done ++ xs → placed (done ++ left) n ≡ true
unfolding placed free
placed-can [] left n xs d f h = placed-fresh left n f
placed-can (e ∷ done) left [] xs d f h = cc
placed-can (e ∷ done) left (c ∷ n) xs d f h =
    let head : c.param.identifier ≡ e.param.identifier = cc in
    let tail : names_of n ≡ names_of done ++ xs = cc in
    rw d.0.1 (rw head (rw (same_refl e.param.identifier) (placed-can done left n xs d.1 f tail)))

-- a transfer that passes: the same variables have taken the next table's items
pub transfer-sound : (l : Location) (ks₀ ks : List Met) (t n n' : Table) → State ks t → State ks₀ n → length ks₀ ≤ length ks → transfer l t n ≡ Ok n' → State ks n' × (params n' ≡ params n)
unfolding transfer
transfer-sound l ks₀ ks t n n' s r i h = go (placed t n && run t) refl
  where
    go : (b : Bool) → (placed t n && run t) ≡ b → State ks n' × (params n' ≡ params n)
    go true q =
        let e : hand t n ≡ n' = Ok-injective (rw (q, transfer) at h) in
        let p : placed (s.done ++ s.left) (r.done ++ r.left) ≡ true = subst₂ (λ u v. placed u v ≡ true) s.is r.is (and_parts _ _ q).0 in
        let j : length r.done ≤ length ks = omega (arith, each-length Takes ks₀ r.done r.by) in
        let k = handed ks s.done s.left r.done r.left s.by s.fresh (taken_of ks₀ r.done r.by) r.fresh j p in
        (subst (State ks) e (subst₂ (λ u v. State ks (hand u v)) (sym s.is) (sym r.is) k), ap params (sym e) ∙ hand-params t n)
    go false q = absurd (Err≢Ok (rw (q, transfer) at h))

-- a transfer passes if the names taken are the next table's first ones
pub transfer-can : (l : Location) (ks xs : List Met) (t n : Table) → State ks t → names_of n ≡ met_names (ks ++ xs) → (n' : Table) × (transfer l t n ≡ Ok n')
unfolding transfer
transfer-can l ks xs t n s h =
    let d = taken_of ks s.done s.by in
    let p = placed-can s.done s.left n (met_names xs) d s.fresh (h ∙ met_names-append ks xs ∙ ap (◌++ met_names xs) (sym (named-of ks s.done s.by))) in
    let r = run-state s.done s.left d s.fresh in
    let q : (placed t n && run t) ≡ true = subst (λ u. (placed u n && run u) ≡ true) (sym s.is) (rw p r) in
    (hand t n, rw (q, transfer) refl)

-- building a table
among-false : (x : Name) (ys : List Name) → among x ys ≡ false → Absent x ys
unfolding among
among-false x [] h = tt
among-false x (y ∷ ys) h = go (same x y) refl (among-false x ys)
  where
    go : (b : Bool) → same x y ≡ b → (among x ys ≡ false → Absent x ys) → Absent x (y ∷ ys)
    go true q k = absurd (true≢false' refl (rw q at h))
    go false q k = (same_false x y q, k (rw q at h))

absent-among : (x : Name) (ys : List Name) → Absent x ys → among x ys ≡ false
unfolding among
absent-among x [] a = refl
absent-among x (y ∷ ys) a = rw (same_not x y a.0) (absent-among x ys a.1)

-- none of the first names is among the second
abbrev Apart : List Name → List Name → Type 0
Apart [] ys = Unit {0}
Apart (x ∷ xs) ys = Absent x ys × Apart xs ys

apart-split : (z : Name) (xs ys : List Name) → Apart xs (z ∷ ys) → Absent z xs × Apart xs ys
apart-split z [] ys a = (tt, tt)
apart-split z (x ∷ xs) ys a = let r = apart-split z xs ys a.1 in ((λ q. a.0.0 (sym q), r.0), (a.0.1, r.1))

apart-join : (z : Name) (xs ys : List Name) → Absent z xs → Apart xs ys → Apart xs (z ∷ ys)
apart-join z [] ys a b = tt
apart-join z (x ∷ xs) ys a b = ((λ q. a.0 (sym q), b.0), apart-join z xs ys a.1 b.1)

apart-nil : (xs : List Name) → Apart xs []
apart-nil [] = tt
apart-nil (x ∷ xs) = (tt, apart-nil xs)

pub record Built (ps : List StackParam) (t : Table) : Type 0 where
  pub of : params t ≡ ps
  pub fresh : Fresh t
  pub distinct : Distinct (idents ps)

enter-sound : (ys : List Name) (ps : List StackParam) (t : Table) → enter ys ps ≡ Ok t → Built ps t × Apart (idents ps) ys
unfolding enter
enter-sound ys [] t h = (record { of = ap params (sym (Ok-injective h)); fresh = subst Fresh (Ok-injective h) tt; distinct = tt }, tt)
enter-sound ys (p ∷ ps) t h = go (among p.identifier ys) refl (λ t'. enter-sound (p.identifier ∷ ys) ps t')
  where
    go : (b : Bool) → among p.identifier ys ≡ b → ((t' : Table) → enter (p.identifier ∷ ys) ps ≡ Ok t' → Built ps t' × Apart (idents ps) (p.identifier ∷ ys)) → Built (p ∷ ps) t × Apart (idents (p ∷ ps)) ys
    go true q k = absurd (Err≢Ok (rw (q, enter) at h))
    go false q k =
        let b = bound (enter (p.identifier ∷ ys) ps) (λ t'. Ok (record { param = p; taken = none } ∷ t')) (rw (q, enter) at h) in
        let r = k b.value b.first in
        let a = apart-split p.identifier (idents ps) ys r.1 in (
          record {
            of = ap params (sym (Ok-injective b.then)) ∙ ap (p ∷◌) r.0.of;
            fresh = subst Fresh (Ok-injective b.then) (refl, r.0.fresh);
            distinct = (a.0, r.0.distinct);
          },
          (among-false p.identifier ys q, a.1),
        )

enter-can : (ys : List Name) (ps : List StackParam) → Distinct (idents ps) → Apart (idents ps) ys → (t : Table) × (enter ys ps ≡ Ok t)
unfolding enter
enter-can ys [] d a = ([], refl)
enter-can ys (p ∷ ps) d a =
    let r = enter-can (p.identifier ∷ ys) ps d.1 (apart-join p.identifier (idents ps) ys d.0 a.1) in
    (record { param = p; taken = none } ∷ r.0, rw (absent-among p.identifier ys a.0, enter) (ap (λ m. m >>= λ t. Ok (record { param = p; taken = none } ∷ t)) r.1))

-- every table begins with the items of ks₀ taken
abbrev pub Begun : List Met → List Table → Type 0
Begun ks₀ [] = Unit {0}
Begun ks₀ (t ∷ ts) = State ks₀ t × Begun ks₀ ts

pub start : (t : Table) → Fresh t → State [] t
start t f = record { done = []; left = t; is = refl; by = tt; fresh = f }

-- every table is fresh
abbrev pub FreshAll : List Table → Type 0
FreshAll [] = Unit {0}
FreshAll (t ∷ ts) = Fresh t × FreshAll ts

pub begun : (ts : List Table) → FreshAll ts → Begun [] ts
begun [] f = tt
begun (t ∷ ts) f = (start t f.0, begun ts f.1)

pub record BuiltAll (ds : List Declaration) (ts : List Table) : Type 0 where
  pub of : map params ts ≡ map from_top ds
  pub fresh : FreshAll ts
  pub distinct : DistinctAll ds

pub build_all-sound : (ds : List Declaration) (ts : List Table) → build_all ds ≡ Ok ts → BuiltAll ds ts
unfolding build_all build
build_all-sound [] ts h = record { of = ap (map params) (sym (Ok-injective h)); fresh = subst FreshAll (Ok-injective h) tt; distinct = tt }
build_all-sound (d ∷ ds) ts h =
    let b = bound (build d) (λ t. build_all ds >>= λ ts'. Ok (t ∷ ts')) h in
    let c = bound (build_all ds) (λ ts'. Ok (b.value ∷ ts')) b.then in
    let r = enter-sound [] (from_top d) b.value b.first in
    let k = build_all-sound ds c.value c.first in
    record {
      of = ap (map params) (sym (Ok-injective c.then)) ∙ ap (◌∷ map params c.value) r.0.of ∙ ap (from_top d ∷◌) k.of;
      fresh = subst FreshAll (Ok-injective c.then) (r.0.fresh, k.fresh);
      distinct = (r.0.distinct, k.distinct);
    }

pub build_all-can : (ds : List Declaration) → DistinctAll ds → (ts : List Table) × (build_all ds ≡ Ok ts)
unfolding build_all build
build_all-can [] u = ([], refl)
build_all-can (d ∷ ds) u =
    let r = enter-can [] (from_top d) u.0 (apart-nil (stack d)) in
    let k = build_all-can ds u.1 in
    (r.0 ∷ k.0, rw r.1 (rw k.1 refl))

-- nothing left unused: the names taken are all the names
unused-left : (done left : Table) → Fresh left → unused (done ++ left) ≡ Ok tt → left ≡ []
unfolding unused used
unused-left [] [] f h = refl
unused-left [] (e ∷ left) f h = absurd (Err≢Ok (rw f.0 at (both_ok (unused left) (used e.param.loc e.taken) h).1))
unused-left (e ∷ done) left f h = unused-left done left f (both_ok (unused (done ++ left)) (used e.param.loc e.taken) h).0

pub unused-sound : (ks : List Met) (t : Table) → State ks t → unused t ≡ Ok tt → Each Takes ks t
unused-sound ks t s h =
    let q = unused-left s.done s.left s.fresh (subst (λ u. unused u ≡ Ok tt) s.is h) in
    subst (Each Takes ks) (sym (s.is ∙ ap (s.done ++◌) q ∙ append-nil s.done)) s.by

unused-taken : (t : Table) → Taken t → unused t ≡ Ok tt
unfolding unused used
unused-taken [] k = refl
unused-taken (e ∷ t) k = rw (unused-taken t k.1) (rw k.0.1 refl)

no_names : (t : Table) → names_of t ≡ [] → t ≡ []
no_names [] h = refl
no_names (e ∷ t) h = cc

pub unused-can : (ks : List Met) (t : Table) → State ks t → names_of t ≡ met_names ks → unused t ≡ Ok tt
unused-can ks t s h =
    let q = no_names s.left (left-names ks [] t s (h ∙ ap met_names (sym (append-nil ks)))) in
    subst (λ u. unused u ≡ Ok tt) (sym (s.is ∙ ap (s.done ++◌) q ∙ append-nil s.done)) (unused-taken s.done (taken_of ks s.done s.by))

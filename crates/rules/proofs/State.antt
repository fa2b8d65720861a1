-- A path's table in the walk: the items taken are a run from the top.
use Prim.Native.Nat.{ℕ}
use mathlib.Core.Bool.{Bool, true, false}
use mathlib.Core.List.{List, [], ◌∷◌, ◌++◌, map, append_assoc, append-nil}
use mathlib.Core.Option.{some, none}
use mathlib.Core.Path.{◌≡◌, refl, sym, ◌∙◌, ap, ap₂, subst}
use Rattle.std.specs.Prelude.{Ok}
use Rattle.std.proofs.lemmas.List.{append_cancel_left, map-append}
use Rattle.rules.specs.Ast.{Name, same, Location, StackParam}
use Rattle.rules.specs.Result.{Result, ◌>>=◌}
use Rattle.rules.specs.Table.{Entry, Table, params}
use Rattle.rules.specs.Usage.{take, take_entry, free, mark}
use Rattle.rules.specs.Stack.{Met}
use Rattle.rules.specs.InOrder.{Absent, Distinct}
use Rattle.rules.proofs.Basics.{bound, same_true, same_refl, same_not, Err≢Ok, Ok-injective}
use Rattle.rules.proofs.Each.{Each, each_append}

-- the names of a declaration, and of a table, from the top
abbrev pub idents : List StackParam → List Name
idents ps = map (λ p. p.identifier) ps

abbrev pub names_of : Table → List Name
names_of t = idents (params t)

-- every item is taken
abbrev pub Taken : Table → Type 0
Taken [] = Unit {0}
Taken (e ∷ t) = ((m : ℕ) × (e.taken ≡ some m)) × Taken t

-- no item is taken
abbrev pub Fresh : Table → Type 0
Fresh [] = Unit {0}
Fresh (e ∷ t) = (e.taken ≡ none) × Fresh t

-- a variable takes an item: it is the item's name, and its line took it
abbrev pub Takes : Met → Entry → Type 0
Takes v e = (v.name ≡ e.param.identifier) × (e.taken ≡ some v.line)

-- exactly the variables ks have taken items, one after the other from the top
pub record State (ks : List Met) (t : Table) : Type 0 where
  pub done : Table
  pub left : Table
  pub is : t ≡ done ++ left
  pub by : Each Takes ks done
  pub fresh : Fresh left

abbrev pub met_names : List Met → List Name
met_names vs = map (λ v. v.name) vs

pub met_names-append : (ks vs : List Met) → met_names (ks ++ vs) ≡ met_names ks ++ met_names vs
met_names-append ks vs = map-append (λ v. v.name) ks vs

pub taken_of : (ks : List Met) (t : Table) → Each Takes ks t → Taken t
taken_of [] [] k = tt
taken_of [] (e ∷ t) k = absurd k
taken_of (v ∷ ks) [] k = absurd k
taken_of (v ∷ ks) (e ∷ t) k = ((v.line, k.0.1), taken_of ks t k.1)

pub named-of : (ks : List Met) (t : Table) → Each Takes ks t → names_of t ≡ met_names ks
named-of [] [] k = refl
named-of [] (e ∷ t) k = absurd k
named-of (v ∷ ks) [] k = absurd k
named-of (v ∷ ks) (e ∷ t) k = ap₂ ◌∷◌ (sym k.0.0) (named-of ks t k.1)

pub params-append : (a b : Table) → params (a ++ b) ≡ params a ++ params b
params-append a b = map-append (λ e. e.param) a b

pub names_of-append : (a b : Table) → names_of (a ++ b) ≡ names_of a ++ names_of b
names_of-append a b = ap idents (params-append a b) ∙ map-append (λ p. p.identifier) (params a) (params b)

-- a free item above: a later one is never taken
gapped : (l : Location) (n : ℕ) (x : Name) (t t' : Table) → Fresh t → take true l n x t ≡ Ok t' → ⊥
unfolding take take_entry
gapped l n x [] t' f h = cc
gapped l n x (e ∷ t) t' f h = go (same x e.param.identifier) refl (λ t''. gapped l n x t t'' f.1)
  where
    go : (b : Bool) → same x e.param.identifier ≡ b → ((t'' : Table) → take true l n x t ≡ Ok t'' → ⊥) → ⊥
    go true q k = Err≢Ok (rw f.0 at (rw (q, take) at h))
    go false q k = let b = bound (take true l n x t) (λ t''. Ok (e ∷ t'')) (rw (q, take) at h) in k b.value b.first

pub record Took (l : Location) (n : ℕ) (x : Name) (left new : Table) : Type 0 where
  pub top : Entry
  pub rest : Table
  pub was : left ≡ top ∷ rest
  pub is : new ≡ mark n top ∷ rest
  pub name : x ≡ top.param.identifier

-- what can be taken is the item right below the run
pub take-sound : (l : Location) (n : ℕ) (x : Name) (done left t' : Table) → Taken done → Fresh left → take false l n x (done ++ left) ≡ Ok t' → (new : Table) × (t' ≡ done ++ new) × Took l n x left new
unfolding take take_entry free
take-sound l n x [] [] t' d f h = cc
take-sound l n x [] (e ∷ t) t' d f h = go (same x e.param.identifier) refl
  where
    go : (b : Bool) → same x e.param.identifier ≡ b → (new : Table) × (t' ≡ new) × Took l n x (e ∷ t) new
    go true q = (mark n e ∷ t, sym (Ok-injective (rw f.0 at (rw (q, take) at h))), record { top = e; rest = t; was = refl; is = refl; name = same_true _ _ q })
    go false q =
        let b = bound (take (free e.taken) l n x t) (λ t''. Ok (e ∷ t'')) (rw (q, take) at h) in
        absurd (gapped l n x t b.value f.1 (subst (λ o. take (free o) l n x t ≡ Ok b.value) f.0 b.first))
take-sound l n x (e ∷ done) left t' d f h = go (same x e.param.identifier) refl (λ t''. take-sound l n x done left t'' d.1 f)
  where
    go : (b : Bool) → same x e.param.identifier ≡ b → ((t'' : Table) → take false l n x (done ++ left) ≡ Ok t'' → (new : Table) × (t'' ≡ done ++ new) × Took l n x left new) → (new : Table) × (t' ≡ e ∷ (done ++ new)) × Took l n x left new
    go true q k = absurd (Err≢Ok (rw d.0.1 at (rw (q, take) at h)))
    go false q k =
        let b = bound (take (free e.taken) l n x (done ++ left)) (λ t''. Ok (e ∷ t'')) (rw (q, take) at h) in
        let r = k b.value (subst (λ o. take (free o) l n x (done ++ left) ≡ Ok b.value) d.0.1 b.first) in
        (r.0, sym (Ok-injective b.then) ∙ ap (e ∷◌) r.1, r.2)

-- the item right below the run can be taken
pub take-complete : (l : Location) (n : ℕ) (done rest : Table) (top : Entry) → Taken done → top.taken ≡ none → Absent top.param.identifier (names_of done) → take false l n top.param.identifier (done ++ top ∷ rest) ≡ Ok (done ++ mark n top ∷ rest)
unfolding take take_entry free
take-complete l n [] rest top d f a = rw (same_refl top.param.identifier, take) (rw f refl)
take-complete l n (e ∷ done) rest top d f a =
    rw (same_not top.param.identifier e.param.identifier a.0, take)
    (rw d.0.1 (rw (take-complete l n done rest top d.1 f a.1) refl))

-- distinct names: the one right below a run is not in it
pub absent-last : (xs ys : List Name) (x : Name) → Distinct (xs ++ x ∷ ys) → Absent x xs
absent-last [] ys x d = tt
absent-last (z ∷ xs) ys x d = (λ q. apart xs d.0 (sym q), absent-last xs ys x d.1)
  where
    apart : (zs : List Name) → Absent z (zs ++ x ∷ ys) → z ≡ x → ⊥
    apart [] a q = a.0 q
    apart (w ∷ zs) a q = apart zs a.1 q

-- the variables one after the other
abbrev pub take_all : List Met → Table → Result Table
take_all [] t = Ok t
take_all (v ∷ vs) t = take false v.loc v.line v.name t >>= λ t'. take_all vs t'

-- one more item of the run
step-state : (v : Met) (ks : List Met) (done left new t' : Table) → Each Takes ks done → Fresh left → t' ≡ done ++ new → Took v.loc v.line v.name left new → State (ks ++ (v ∷ [])) t'
step-state v ks done left new t' d f q o = record {
  done = done ++ (mark v.line o.top ∷ []);
  left = o.rest;
  is = q ∙ ap (done ++◌) o.is ∙ sym (append_assoc done (mark v.line o.top ∷ []) o.rest);
  by = each_append Takes ks (v ∷ []) done (mark v.line o.top ∷ []) d ((o.name, refl), tt);
  fresh = (subst Fresh o.was f).1;
}

step-params : (l : Location) (n : ℕ) (x : Name) (done left new : Table) → Took l n x left new → params (done ++ new) ≡ params (done ++ left)
step-params l n x done left new o = params-append done new ∙ ap (λ u. params done ++ params u) o.is ∙ ap (λ u. params done ++ params u) (sym o.was) ∙ sym (params-append done left)

pub take-state : (v : Met) (ks : List Met) (t t' : Table) → State ks t → take false v.loc v.line v.name t ≡ Ok t' → State (ks ++ (v ∷ [])) t' × (params t' ≡ params t)
take-state v ks t t' s h =
    let k = take-sound v.loc v.line v.name s.done s.left t' (taken_of ks s.done s.by) s.fresh (rw s.is at h) in (
      step-state v ks s.done s.left k.0 t' s.by s.fresh k.1 k.2,
      ap params k.1 ∙ step-params v.loc v.line v.name s.done s.left k.0 k.2 ∙ ap params (sym s.is),
    )

pub take_all-sound : (vs ks : List Met) (t t' : Table) → State ks t → take_all vs t ≡ Ok t' → State (ks ++ vs) t' × (params t' ≡ params t)
take_all-sound [] ks t t' s h = (rw append-nil (rw (Ok-injective h) at s), ap params (sym (Ok-injective h)))
take_all-sound (v ∷ vs) ks t t' s h =
    let b = bound (take false v.loc v.line v.name t) (λ t''. take_all vs t'') h in
    let o = take-state v ks t b.value s b.first in
    let r = take_all-sound vs (ks ++ (v ∷ [])) b.value t' o.0 b.then in
    (subst (λ xs. State xs t') (append_assoc ks (v ∷ []) vs) r.0, r.1 ∙ o.1)

-- a table with names left has a top item
top_of : (left : Table) (x : Name) (xs : List Name) → names_of left ≡ x ∷ xs → (e : Entry) × (r : Table) × (left ≡ e ∷ r) × (e.param.identifier ≡ x)
top_of [] x xs h = cc
top_of (e ∷ r) x xs h = (e, r, refl, cc)

-- the names below the run, from the names of all
pub left-names : (ks xs : List Met) (t : Table) (s : State ks t) → names_of t ≡ met_names (ks ++ xs) → names_of s.left ≡ met_names xs
left-names ks xs t s h = append_cancel_left (met_names ks) _ _ (ap (◌++ names_of s.left) (sym (named-of ks s.done s.by)) ∙ sym (names_of-append s.done s.left) ∙ ap names_of (sym s.is) ∙ h ∙ met_names-append ks xs)

pub take-can : (v : Met) (ks xs : List Met) (t : Table) → State ks t → Distinct (names_of t) → names_of t ≡ met_names (ks ++ v ∷ xs) → (t' : Table) × (take false v.loc v.line v.name t ≡ Ok t')
take-can v ks xs t s d h =
    let k = top_of s.left v.name (met_names xs) (left-names ks (v ∷ xs) t s h) in
    let a : Absent v.name (met_names ks) = absent-last (met_names ks) (met_names xs) v.name (subst Distinct (h ∙ met_names-append ks (v ∷ xs)) d) in
    let a' : Absent k.0.param.identifier (names_of s.done) = rw k.3 (rw (named-of ks s.done s.by) a) in
    let f : Fresh (k.0 ∷ k.1) = subst Fresh k.2 s.fresh in
    let r = take-complete v.loc v.line s.done k.1 k.0 (taken_of ks s.done s.by) f.0 a' in
    (s.done ++ mark v.line k.0 ∷ k.1, ap (take false v.loc v.line v.name) (s.is ∙ ap (s.done ++◌) k.2) ∙ ap (λ y. take false v.loc v.line y (s.done ++ k.0 ∷ k.1)) (sym k.3) ∙ r)

pub take_all-can : (vs ks xs : List Met) (t : Table) → State ks t → Distinct (names_of t) → names_of t ≡ met_names (ks ++ (vs ++ xs)) → (t' : Table) × (take_all vs t ≡ Ok t')
take_all-can [] ks xs t s d h = (t, refl)
take_all-can (v ∷ vs) ks xs t s d h =
    let k = take-can v ks (vs ++ xs) t s d h in
    let o = take-state v ks t k.0 s k.1 in
    let q : names_of k.0 ≡ names_of t = ap idents o.1 in
    let r = take_all-can vs (ks ++ (v ∷ [])) xs k.0 o.0 (subst Distinct (sym q) d) (q ∙ h ∙ ap met_names (sym (append_assoc ks (v ∷ []) (vs ++ xs)))) in
    (r.0, subst (λ m. (m >>= λ t'. take_all vs t') ≡ Ok r.0) (sym k.1) r.1)

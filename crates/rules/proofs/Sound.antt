-- What a walk that passes says: types and limits are in order, and each path has taken the names it met, from the top.
use Prim.Native.Nat.{ℕ, ◌≤◌}
use native.Mathlib.Omega.{arith}
use mathlib.Core.Bool.{Bool, true, false}
use mathlib.Core.List.{List, [], ◌∷◌, ◌++◌, map, append_assoc, append-nil}
use mathlib.Core.Path.{◌≡◌, refl, sym, ◌∙◌, ap, ap₂, subst}
use lib.ListN.{length, drop, length-map, length-append}
use Rattle.std.specs.Prelude.{Ok}
use Rattle.std.proofs.lemmas.List.{map-append}
use Rattle.std.proofs.Math.Seq.{drop-append_seam}
use Rattle.rules.specs.Ast.{Location, Signed, LocktimeOp, Target, Expression, Block, IfElseStatement, []ᵇ, ◌∷ᵇ◌}
use Rattle.rules.specs.Result.{◌>>=◌, ◌>>◌}
use Rattle.rules.specs.Paths.{Path, paths, count}
use Rattle.rules.specs.Table.{Table, params}
use Rattle.rules.specs.Usage.{usage}
use Rattle.rules.specs.Types.{truth}
use Rattle.rules.specs.Limits.{or21, security, in_bounds, carried, wait}
use Rattle.rules.specs.Transfer.{transfer}
use Rattle.rules.specs.Walk.{examine}
use Rattle.rules.specs.Stack.{Met, met, meets}
use Rattle.rules.specs.InOrder.{Distinct, Limited}
use Rattle.rules.proofs.Typing.{TypedOn}
use Rattle.rules.proofs.Basics.{bound, checked, Err≢Ok, Ok-injective}
use Rattle.rules.proofs.State.{State, names_of, met_names}
use Rattle.rules.proofs.Using.{usage-sound, usage-can}
use Rattle.rules.proofs.Moving.{Begun, transfer-sound}
use Rattle.rules.proofs.Flowing.{Flows, returns, waits, verifies, splits, count-paths}
use Rattle.rules.proofs.Steps.{Stepped, stepped, outs, onward, before, steps}
use Rattle.rules.proofs.Each.{Each, each_append, each_map, each-length}

-- a wait passes exactly if it is within its bounds, and hands up the number that the script carries
pub wait-sound : (l : Location) (o : LocktimeOp) (v : Signed) {k : ℕ} → wait l o v ≡ Ok k → in_bounds o v ≡ true
unfolding wait or21
wait-sound l o v h = go (in_bounds o v) refl
  where
    go : (b : Bool) → in_bounds o v ≡ b → in_bounds o v ≡ true
    go true q = q
    go false q = absurd (Err≢Ok (rw (q, wait) at h))

pub wait-can : (l : Location) (o : LocktimeOp) (v : Signed) → in_bounds o v ≡ true → wait l o v ≡ Ok (carried o v)
unfolding wait or21
wait-can l o v h = rw (h, wait) refl

pub record Examined (g : Target) (e : Expression) (ks : List Met) (t t' : Table) : Type 0 where
  pub state : State (ks ++ met e) t'
  pub same : params t' ≡ params t
  pub typed : truth e g (params t) ≡ Ok tt
  pub limited : security e ≡ Ok tt

pub examine-sound : (g : Target) (e : Expression) (ks : List Met) (t t' : Table) → State ks t → examine g e t ≡ Ok t' → Examined g e ks t t'
unfolding examine
examine-sound g e ks t t' s h =
    let b = bound (usage e t) (λ u. truth e g (params u) >> (security e >> Ok u)) h in
    let c = checked (truth e g (params b.value)) (security e >> Ok b.value) b.then in
    let d = checked (security e) (Ok b.value) c.1 in
    let u = usage-sound e ks t b.value s b.first in
    record {
      state = subst (State (ks ++ met e)) (Ok-injective d.1) u.0;
      same = ap params (sym (Ok-injective d.1)) ∙ u.1;
      typed = subst (λ ps. truth e g ps ≡ Ok tt) u.1 c.0;
      limited = d.0;
    }

pub examine-can : (g : Target) (e : Expression) (ks xs : List Met) (t : Table) → State ks t → Distinct (names_of t) → names_of t ≡ met_names (ks ++ (met e ++ xs)) → truth e g (params t) ≡ Ok tt → security e ≡ Ok tt → (t' : Table) × (examine g e t ≡ Ok t')
unfolding examine
examine-can g e ks xs t s d h p q =
    let k = usage-can e ks xs t s d h in
    let u = usage-sound e ks t k.0 s k.1 in
    let p' : truth e g (params k.0) ≡ Ok tt = subst (λ ps. truth e g ps ≡ Ok tt) (sym u.1) p in
    (k.0, ap (λ m. m >>= λ u. truth e g (params u) >> (security e >> Ok u)) k.1 ∙ ap₂ (λ a c. a >> (c >> Ok k.0)) p' q)

pub record Sound (b : Block) (g : Target) (ks₀ ks : List Met) (t : Table) (ts : List Table) (z : Stepped) : Type 0 where
  pub each : Each (λ p o. State (ks ++ meets p) o) (paths b) (outs z)
  pub same : map params (outs z ++ z.rest) ≡ params t ∷ map params ts
  pub begun : Begun ks₀ z.rest
  pub typed : TypedOn b g (params t ∷ map params ts)
  pub limited : Limited b

-- a path that begins with e
longer : (e : Expression) (ks : List Met) (ps : List Path) (os : List Table) → Each (λ p o. State ((ks ++ met e) ++ meets p) o) ps os → Each (λ p o. State (ks ++ meets p) o) (map (e ∷◌) ps) os
unfolding meets
longer e ks ps os k = each_map (e ∷◌) (λ p o. State ((ks ++ met e) ++ meets p) o) (λ p o. State (ks ++ meets p) o) (λ p o s. subst (λ xs. State xs o) (append_assoc ks (met e) (meets p)) s) ps os k

pub record Onward (l : Location) (t : Table) (ts : List Table) (n : Stepped) : Type 0 where
  pub next : Table
  pub were : ts ≡ next ∷ n.rest
  pub moved : transfer l t next ≡ Ok n.cur

pub onward-ok : (l : Location) (t : Table) (ts : List Table) (n : Stepped) → onward l t ts ≡ Ok n → Onward l t ts n
onward-ok l t [] n h = cc
onward-ok l t (u ∷ ts) n h =
    let b = bound (transfer l t u) (λ v. Ok (stepped [] v ts)) h in
    let q = Ok-injective b.then in
    record { next = u; were = ap (u ∷◌) (ap (λ z. z.rest) q); moved = b.first ∙ ap (λ z. Ok z.cur) q }

sound-split : (l : Location) (e : Expression) (b c : Block) (g : Target) (ks₀ ks : List Met) (t : Table) (ts : List Table) (t' : Table) (z : Stepped) (next : Table) (n y : Stepped)
    → Examined g e ks t t' → Sound b g ks₀ (ks ++ met e) t' ts z → z.rest ≡ next ∷ n.rest → params n.cur ≡ params next → Sound c g ks₀ (ks ++ met e) n.cur n.rest y
    → Sound (IfElseStatement l e b c ∷ᵇ []ᵇ) g ks₀ ks t ts (before (outs z) y)
unfolding paths TypedOn Limited
sound-split l e b c g ks₀ ks t ts t' z next n y x s were p r = record {
  each = longer e ks (paths b ++ paths c) (outs (before (outs z) y)) (subst (Each _ (paths b ++ paths c)) (sym (append_assoc (outs z) y.fin (y.cur ∷ []))) (each_append _ (paths b) (paths c) (outs z) (outs y) s.each r.each));
  same = map-outs ∙ ap (map params (outs z) ++◌) r.same ∙ sym all;
  begun = r.begun;
  typed = ((x.typed, subst (λ ps. TypedOn b g (ps ∷ map params ts)) x.same s.typed, subst (TypedOn c g) (sym dropped) r.typed), tt);
  limited = ((x.limited, s.limited, r.limited), tt);
}
  where
    map-outs : map params (outs (before (outs z) y) ++ y.rest) ≡ map params (outs z) ++ map params (outs y ++ y.rest)
    map-outs = ap (λ us. map params (us ++ y.rest)) (append_assoc (outs z) y.fin (y.cur ∷ [])) ∙ ap (map params) (append_assoc (outs z) (outs y) y.rest) ∙ map-append params (outs z) (outs y ++ y.rest)

    -- the declarations of the block's paths: those of the if-block, then those of the else-block
    all : params t ∷ map params ts ≡ map params (outs z) ++ (params n.cur ∷ map params n.rest)
    all = ap (◌∷ map params ts) (sym x.same) ∙ sym s.same ∙ map-append params (outs z) z.rest ∙ ap (λ us. map params (outs z) ++ map params us) were ∙ ap (λ ps. map params (outs z) ++ (ps ∷ map params n.rest)) (sym p)

    dropped : drop (count b) (params t ∷ map params ts) ≡ params n.cur ∷ map params n.rest
    dropped = ap₂ drop (count-paths b ∙ each-length _ (paths b) (outs z) s.each ∙ sym (length-map (outs z) params)) all ∙ drop-append_seam (map params (outs z)) (params n.cur ∷ map params n.rest)

pub more : (ks₀ ks vs : List Met) → length ks₀ ≤ length ks → length ks₀ ≤ length (ks ++ vs)
more ks₀ ks vs i = omega (arith, length-append ks vs)

-- ks₀: what every path begins with as taken; ks: what the walk has taken so far
pub sound : {b : Block} (f : Flows b) (g : Target) (ks₀ ks : List Met) (t : Table) (ts : List Table) (z : Stepped) → length ks₀ ≤ length ks → State ks t → Begun ks₀ ts → steps f g t ts ≡ Ok z → Sound b g ks₀ ks t ts z
unfolding steps paths TypedOn Limited meets
sound (returns l e) g ks₀ ks t ts z i s k h =
    let b = bound (examine g e t) (λ t'. Ok (stepped [] t' ts)) h in
    let x = examine-sound g e ks t b.value s b.first in
    subst (Sound _ g ks₀ ks t ts) (Ok-injective b.then) (record {
      each = (subst (λ xs. State (ks ++ xs) b.value) (sym (append-nil (met e))) x.state, tt);
      same = ap (◌∷ map params ts) x.same;
      begun = k;
      typed = (x.typed, tt);
      limited = (x.limited, tt);
    })
sound (waits l n o v f) g ks₀ ks t ts z i s k h =
    let c = bound (wait l o v) (λ k. steps f g t ts) h in
    let r = sound f g ks₀ ks t ts z i s k c.then in
    record { each = r.each; same = r.same; begun = r.begun; typed = (tt, r.typed); limited = (wait-sound l o v c.first, r.limited) }
sound (verifies l e {b = b} f) g ks₀ ks t ts z i s k h =
    let c = bound (examine g e t) (λ t'. steps f g t' ts) h in
    let x = examine-sound g e ks t c.value s c.first in
    let r = sound f g ks₀ (ks ++ met e) c.value ts z (more ks₀ ks (met e) i) x.state k c.then in
    record {
      each = longer e ks (paths b) (outs z) r.each;
      same = r.same ∙ ap (◌∷ map params ts) x.same;
      begun = r.begun;
      typed = (x.typed, subst (λ ps. TypedOn b g (ps ∷ map params ts)) x.same r.typed);
      limited = (x.limited, r.limited);
    }
sound (splits l e {b = b} {c = c} f h) g ks₀ ks t ts z i s k q =
    let b₁ = bound (examine g e t) (λ t'. steps f g t' ts >>= λ z₁. onward l t' z₁.rest >>= λ n. steps h g n.cur n.rest >>= λ y. Ok (before (outs z₁) y)) q in
    let t' = b₁.value in
    let x = examine-sound g e ks t t' s b₁.first in
    let j = more ks₀ ks (met e) i in
    let b₂ = bound (steps f g t' ts) (λ z₁. onward l t' z₁.rest >>= λ n. steps h g n.cur n.rest >>= λ y. Ok (before (outs z₁) y)) b₁.then in
    let z₁ = b₂.value in
    let s₁ = sound f g ks₀ (ks ++ met e) t' ts z₁ j x.state k b₂.first in
    let b₃ = bound (onward l t' z₁.rest) (λ n. steps h g n.cur n.rest >>= λ y. Ok (before (outs z₁) y)) b₂.then in
    let n = b₃.value in
    let o = onward-ok l t' z₁.rest n b₃.first in
    let fr : Begun ks₀ (o.next ∷ n.rest) = subst (Begun ks₀) o.were s₁.begun in
    let m = transfer-sound l ks₀ (ks ++ met e) t' o.next n.cur x.state fr.0 j o.moved in
    let b₄ = bound (steps h g n.cur n.rest) (λ y. Ok (before (outs z₁) y)) b₃.then in
    let s₂ = sound h g ks₀ (ks ++ met e) n.cur n.rest b₄.value j m.0 fr.1 b₄.first in
    subst (Sound _ g ks₀ ks t ts) (Ok-injective b₄.then) (sound-split l e b c g ks₀ ks t ts t' z₁ o.next n b₄.value x s₁ o.were m.1 s₂)

-- A walk passes where types and limits are in order and each path meets its declared names from the top.
use Prim.Native.Nat.{◌≤◌}
use mathlib.Core.List.{List, [], ◌∷◌, ◌++◌, map, append_assoc}
use mathlib.Core.Path.{◌≡◌, refl, sym, ◌∙◌, ap, ap₂, subst}
use lib.ListN.{length, drop, length-map}
use Rattle.std.specs.Prelude.{Ok}
use Rattle.std.proofs.lemmas.List.{map-append}
use Rattle.std.proofs.Math.Seq.{drop-append_seam}
use Rattle.rules.specs.Ast.{Location, Target, StackParam, Expression, Block}
use Rattle.rules.specs.Result.{◌>>=◌}
use Rattle.rules.specs.Paths.{Path, paths, count}
use Rattle.rules.specs.Table.{Table, params}
use Rattle.rules.specs.Types.{truth}
use Rattle.rules.specs.Limits.{security}
use Rattle.rules.specs.Transfer.{transfer}
use Rattle.rules.specs.Walk.{examine}
use Rattle.rules.specs.Stack.{Met, met, meets}
use Rattle.rules.specs.InOrder.{Distinct, Limited}
use Rattle.rules.proofs.Typing.{TypedOn}
use Rattle.rules.proofs.State.{State, idents, names_of, met_names}
use Rattle.rules.proofs.Moving.{Begun, transfer-sound, transfer-can}
use Rattle.rules.proofs.Flowing.{Flows, returns, waits, verifies, splits, count-paths, First, first}
use Rattle.rules.proofs.Steps.{Stepped, stepped, outs, onward, before, steps}
use Rattle.rules.proofs.Each.{each-length, Begins, begins-left, begins-right, begins-map}
use Rattle.rules.proofs.Sound.{wait-can, examine-sound, examine-can, Sound, sound, more}

-- a path meets the names that stand below those already taken
abbrev pub Meets : List Met → Path → List StackParam → Type 0
Meets ks p ps = idents ps ≡ met_names (ks ++ meets p)

-- in each declaration no name twice
abbrev pub DistinctEach : List (List StackParam) → Type 0
DistinctEach [] = Unit {0}
DistinctEach (d ∷ ds) = Distinct (idents d) × DistinctEach ds

distinct-right : (xs ys : List (List StackParam)) → DistinctEach (xs ++ ys) → DistinctEach ys
distinct-right [] ys d = d
distinct-right (x ∷ xs) ys d = distinct-right xs ys d.1

-- after e, the paths go on from e's names
after : (e : Expression) (ks : List Met) (ps : List Path) (ds : List (List StackParam)) → Begins (Meets ks) (map (e ∷◌) ps) ds → Begins (Meets (ks ++ met e)) ps ds
unfolding meets
after e ks ps ds k = begins-map (e ∷◌) (Meets ks) (Meets (ks ++ met e)) (λ p d h. h ∙ ap met_names (sym (append_assoc ks (met e) (meets p)))) ps ds k

-- what the first path meets
first-meets : {b : Block} (w : First b) (ks : List Met) (d : List StackParam) (ds : List (List StackParam)) → Begins (Meets ks) (paths b) (d ∷ ds) → Meets ks w.path d
first-meets w ks d ds k = (subst (λ ps. Begins (Meets ks) ps (d ∷ ds)) w.are k).0

-- the condition, verify or return of the first path passes
passes : {b : Block} (f : Flows b) (g : Target) (e : Expression) (ks : List Met) (t : Table) (ds : List (List StackParam)) → State ks t → Distinct (names_of t) → truth e g (params t) ≡ Ok tt → security e ≡ Ok tt → Begins (Meets (ks ++ met e)) (paths b) (params t ∷ ds) → (t' : Table) × (examine g e t ≡ Ok t')
passes f g e ks t ds s d p q k =
    let w = first f in
    examine-can g e ks (meets w.path) t s d (first-meets w (ks ++ met e) (params t) ds k ∙ ap met_names (append_assoc ks (met e) (meets w.path))) p q

pub record Next (ks : List Met) (c : Block) (w : First c) (ts : List Table) : Type 0 where
  pub next : Table
  pub others : List Table
  pub were : ts ≡ next ∷ others
  pub meets : Meets ks w.path (params next)

next_of : (ks : List Met) (c : Block) (w : First c) (ts : List Table) → Begins (Meets ks) (paths c) (map params ts) → Next ks c w ts
next_of ks c w [] k = absurd (subst (λ ps. Begins (Meets ks) ps []) w.are k)
next_of ks c w (n ∷ ts) k = record { next = n; others = ts; were = refl; meets = first-meets w ks (params n) (map params ts) k }

-- what is known at the else-block: the declarations of the paths to come
pub record Beyond (c : Block) (g : Target) (ks : List Met) (ts : List Table) : Type 0 where
  pub distinct : DistinctEach (map params ts)
  pub typed : TypedOn c g (map params ts)
  pub meets : Begins (Meets ks) (paths c) (map params ts)

beyond : (b c : Block) (g : Target) (ks₀ ks : List Met) (t : Table) (ts : List Table) (z : Stepped) → Sound b g ks₀ ks t ts z → DistinctEach (params t ∷ map params ts) → TypedOn c g (drop (count b) (params t ∷ map params ts)) → Begins (Meets ks) (paths b ++ paths c) (params t ∷ map params ts) → Beyond c g ks z.rest
beyond b c g ks₀ ks t ts z s d p k = record {
  distinct = distinct-right (map params (outs z)) (map params z.rest) (subst DistinctEach all d);
  typed = subst (TypedOn c g) (ap (λ n. drop n (params t ∷ map params ts)) (count-paths b) ∙ dropped) p;
  meets = subst (Begins (Meets ks) (paths c)) dropped (begins-right (Meets ks) (paths b) (paths c) (params t ∷ map params ts) k);
}
  where
    all : params t ∷ map params ts ≡ map params (outs z) ++ map params z.rest
    all = sym s.same ∙ map-append params (outs z) z.rest

    dropped : drop (length (paths b)) (params t ∷ map params ts) ≡ map params z.rest
    dropped = ap₂ drop (each-length _ (paths b) (outs z) s.each ∙ sym (length-map (outs z) params)) all ∙ drop-append_seam (map params (outs z)) (map params z.rest)

-- the whole if, from its parts
assembled : (l : Location) (e : Expression) {b c : Block} (f : Flows b) (h : Flows c) (g : Target) (t t' : Table) (ts : List Table) (z : Stepped) (next n' : Table) (others : List Table) (y : Stepped) → examine g e t ≡ Ok t' → steps f g t' ts ≡ Ok z → z.rest ≡ next ∷ others → transfer l t' next ≡ Ok n' → steps h g n' others ≡ Ok y → steps (splits l e f h) g t ts ≡ Ok (before (outs z) y)
unfolding steps
assembled l e f h g t t' ts z next n' others y p q r u v =
    ap (λ m. m >>= λ t'. steps f g t' ts >>= λ z. onward l t' z.rest >>= λ n. steps h g n.cur n.rest >>= λ y. Ok (before (outs z) y)) p
    ∙ ap (λ m. m >>= λ z. onward l t' z.rest >>= λ n. steps h g n.cur n.rest >>= λ y. Ok (before (outs z) y)) q
    ∙ ap (λ us. onward l t' us >>= λ n. steps h g n.cur n.rest >>= λ y. Ok (before (outs z) y)) r
    ∙ ap (λ m. (m >>= λ n'. Ok (stepped [] n' others)) >>= λ n. steps h g n.cur n.rest >>= λ y. Ok (before (outs z) y)) u
    ∙ ap (λ m. m >>= λ y. Ok (before (outs z) y)) v

-- the else-block's walk, from what is known beyond the if-block
abbrev Can : {b : Block} → Flows b → Target → List Met → List Met → Type 0
Can {b} f g ks₀ ks = (t : Table) (ts : List Table) → State ks t → Begun ks₀ ts → DistinctEach (params t ∷ map params ts) → TypedOn b g (params t ∷ map params ts) → Begins (Meets ks) (paths b) (params t ∷ map params ts) → (z : Stepped) × (steps f g t ts ≡ Ok z)

entered : (l : Location) {c : Block} (h : Flows c) (g : Target) (ks₀ ks : List Met) (t' next n' : Table) (others : List Table) → State ks₀ next × Begun ks₀ others → State ks n' × (params n' ≡ params next) → Beyond c g ks (next ∷ others) → Can h g ks₀ ks → (y : Stepped) × (steps h g n' others ≡ Ok y)
entered l {c} h g ks₀ ks t' next n' others fr v w can =
    can n' others v.0 fr.1 (subst DistinctEach here w.distinct) (subst (TypedOn c g) here w.typed) (subst (Begins (Meets ks) (paths c)) here w.meets)
  where
    here : params next ∷ map params others ≡ params n' ∷ map params others
    here = ap (◌∷ map params others) (sym v.1)

crossed : (l : Location) {c : Block} (h : Flows c) (g : Target) (ks₀ ks : List Met) (t' : Table) (ts : List Table) → length ks₀ ≤ length ks → State ks t' → Begun ks₀ ts → Beyond c g ks ts → Can h g ks₀ ks → (next : Table) × (others : List Table) × (n' : Table) × (y : Stepped) × (ts ≡ next ∷ others) × (transfer l t' next ≡ Ok n') × (steps h g n' others ≡ Ok y)
crossed l {c} h g ks₀ ks t' [] i s fr w can = let e = (next_of ks c (first h) [] w.meets).were in cc
crossed l {c} h g ks₀ ks t' (next ∷ others) i s fr w can =
    let m = transfer-can l ks (meets (first h).path) t' next s (first-meets (first h) ks (params next) (map params others) w.meets) in
    let y = entered l h g ks₀ ks t' next m.0 others fr (transfer-sound l ks₀ ks t' next m.0 s fr.0 i m.1) w can in
    (next, others, m.0, y.0, refl, m.1, y.1)

-- an if with else, from the walks of its two blocks
branched : (l : Location) (e : Expression) {b c : Block} (f : Flows b) (h : Flows c) (g : Target) (ks₀ ks : List Met) (t t' : Table) (ts : List Table) (z : Stepped)
    → length ks₀ ≤ length ks → examine g e t ≡ Ok t' → State ks t' → steps f g t' ts ≡ Ok z → Sound b g ks₀ ks t' ts z → Beyond c g ks z.rest → Can h g ks₀ ks → (y : Stepped) × (steps (splits l e f h) g t ts ≡ Ok y)
branched l e f h g ks₀ ks t t' ts z i x st q s w can =
    let k = crossed l h g ks₀ ks t' z.rest i st s.begun w can in
    (before (outs z) k.3, assembled l e f h g t t' ts z k.0 k.2 k.1 k.3 x q k.4 k.5 k.6)

walked-if : (l : Location) (e : Expression) {b c : Block} (f : Flows b) (h : Flows c) (g : Target) (ks₀ ks : List Met) (t t' : Table) (ts : List Table)
    → length ks₀ ≤ length ks → examine g e t ≡ Ok t' → State ks t' → Begun ks₀ ts → DistinctEach (params t' ∷ map params ts) → TypedOn b g (params t' ∷ map params ts) → TypedOn c g (drop (count b) (params t' ∷ map params ts)) → Begins (Meets ks) (paths b ++ paths c) (params t' ∷ map params ts)
    → Can f g ks₀ ks → Can h g ks₀ ks → (y : Stepped) × (steps (splits l e f h) g t ts ≡ Ok y)
walked-if l e {b} {c} f h g ks₀ ks t t' ts i x st fr d p q k can can' =
    let r = can t' ts st fr d p (begins-left (Meets ks) (paths b) (paths c) (params t' ∷ map params ts) k) in
    let s = sound f g ks₀ ks t' ts r.0 i st fr r.1 in
    branched l e f h g ks₀ ks t t' ts r.0 i x st r.1 s (beyond b c g ks₀ ks t' ts r.0 s d q k) can'

split-can : (l : Location) (e : Expression) {b c : Block} (f : Flows b) (h : Flows c) (g : Target) (ks₀ ks : List Met) (t : Table) (ts : List Table)
    → length ks₀ ≤ length ks → State ks t → Begun ks₀ ts → DistinctEach (params t ∷ map params ts) → truth e g (params t) ≡ Ok tt → security e ≡ Ok tt → TypedOn b g (params t ∷ map params ts) → TypedOn c g (drop (count b) (params t ∷ map params ts)) → Begins (Meets (ks ++ met e)) (paths b ++ paths c) (params t ∷ map params ts)
    → Can f g ks₀ (ks ++ met e) → Can h g ks₀ (ks ++ met e) → (y : Stepped) × (steps (splits l e f h) g t ts ≡ Ok y)
split-can l e {b} {c} f h g ks₀ ks t ts i s fr d u v p q k can can' =
    let x = passes f g e ks t (map params ts) s d.0 u v (begins-left (Meets (ks ++ met e)) (paths b) (paths c) (params t ∷ map params ts) k) in
    let o = examine-sound g e ks t x.0 s x.1 in
    let same : params t ∷ map params ts ≡ params x.0 ∷ map params ts = ap (◌∷ map params ts) (sym o.same) in
    walked-if l e f h g ks₀ (ks ++ met e) t x.0 ts (more ks₀ ks (met e) i) x.1 o.state fr (subst DistinctEach same d) (subst (TypedOn b g) same p) (subst (λ ds. TypedOn c g (drop (count b) ds)) same q) (subst (Begins (Meets (ks ++ met e)) (paths b ++ paths c)) same k) can can'

pub complete : {b : Block} (f : Flows b) (g : Target) (ks₀ ks : List Met) (t : Table) (ts : List Table) → length ks₀ ≤ length ks → State ks t → Begun ks₀ ts → DistinctEach (params t ∷ map params ts) → TypedOn b g (params t ∷ map params ts) → Limited b → Begins (Meets ks) (paths b) (params t ∷ map params ts) → (z : Stepped) × (steps f g t ts ≡ Ok z)
unfolding steps paths TypedOn Limited meets
complete (returns l e) g ks₀ ks t ts i s fr d p q k =
    let x = examine-can g e ks [] t s d.0 k.0 p.0 q.0 in
    (stepped [] x.0 ts, ap (λ m. m >>= λ t'. Ok (stepped [] t' ts)) x.1)
complete (waits l n o v f) g ks₀ ks t ts i s fr d p q k =
    let r = complete f g ks₀ ks t ts i s fr d p.1 q.1 k in
    (r.0, ap (λ m. m >>= λ k. steps f g t ts) (wait-can l o v q.0) ∙ r.1)
complete (verifies l e {b = b} f) g ks₀ ks t ts i s fr d p q k =
    let k' = after e ks (paths b) (params t ∷ map params ts) k in
    let x = passes f g e ks t (map params ts) s d.0 p.0 q.0 k' in
    let o = examine-sound g e ks t x.0 s x.1 in
    let same : params t ∷ map params ts ≡ params x.0 ∷ map params ts = ap (◌∷ map params ts) (sym o.same) in
    let r = complete f g ks₀ (ks ++ met e) x.0 ts (more ks₀ ks (met e) i) o.state fr (subst DistinctEach same d) (subst (TypedOn b g) same p.1) q.1 (subst (Begins (Meets (ks ++ met e)) (paths b)) same k') in
    (r.0, ap (λ m. m >>= λ t'. steps f g t' ts) x.1 ∙ r.1)
complete (splits l e {b = b} {c = c} f h) g ks₀ ks t ts i s fr d p q k =
    split-can l e f h g ks₀ ks t ts i s fr d p.0.0 q.0.0 p.0.1 p.0.2 (after e ks (paths b ++ paths c) (params t ∷ map params ts) k)
    (λ t' us st fr' d' p' k'. complete f g ks₀ (ks ++ met e) t' us (more ks₀ ks (met e) i) st fr' d' p' q.0.1 k')
    (λ t' us st fr' d' p' k'. complete h g ks₀ (ks ++ met e) t' us (more ks₀ ks (met e) i) st fr' d' p' q.0.2 k')

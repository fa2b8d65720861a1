-- Demand 3 on trees: accepted exactly where all is in order and every path empties its stack.
use Prim.Native.Nat.{ℕ, ◌<◌}
use native.Mathlib.Omega.{arith}
use mathlib.Core.Bool.{Bool, true, false}
use mathlib.Core.List.{List, [], ◌∷◌, ◌++◌, map, append_assoc, append-nil}
use mathlib.Core.Option.{some}
use mathlib.Core.Path.{◌≡◌, refl, sym, ◌∙◌, ap, ap₂, subst, transport, transport⁻¹}
use lib.Dec.{eqb}
use lib.ListN.{length, get_or, length-map, length-append}
use borrow.Author.Tests.{eqb-true, eq-eqb}
use Rattle.std.specs.Prelude.{Ok}
use Rattle.rules.specs.Ast.{Name, same, Target, StackParam, Declaration, Contract, Block, from_top}
use Rattle.rules.specs.Result.{Result, ◌>>=◌, ◌>>◌, answer}
use Rattle.rules.specs.Paths.{Path, paths, count}
use Rattle.rules.specs.Flow.{flow}
use Rattle.rules.specs.Table.{Table, params, build_all}
use Rattle.rules.specs.Walk.{Walked, walk}
use Rattle.rules.specs.Unused.{unused, unused_all}
use Rattle.rules.specs.Analyze.{counted, Analysis, begin, analyze}
use Rattle.rules.specs.Stack.{Met, meets, along, feed, stack, Empties}
use Rattle.rules.proofs.Takers.{final, final_all, finals, waits_of, outcome}
use Rattle.rules.proofs.Theorem.{check, Accepted, Demand3}
use Rattle.rules.specs.InOrder.{DistinctAll, Typed, Limited, InOrder}
use Rattle.rules.proofs.Basics.{Err≢Ok, bound, checked, both_ok, answer_ok, same_true, same_refl, Ok-injective}
use Rattle.rules.proofs.State.{State, idents, Takes, named-of}
use Rattle.rules.proofs.Moving.{begun, start, BuiltAll, build_all-sound, build_all-can, unused-sound, unused-can}
use Rattle.rules.proofs.Flowing.{Flows, flows, count-paths, First, first}
use Rattle.rules.proofs.Steps.{Stepped, outs, steps, placed_at, simulate}
use Rattle.rules.proofs.Each.{Each, each-length, each_at, at_each, Begins, each-begins, each-unmap, each-onmap}
use Rattle.rules.proofs.Typing.{TypedOn, typed-eq}
use Rattle.rules.proofs.Sound.{Sound, sound}
use Rattle.rules.proofs.Complete.{Meets, DistinctEach, complete}

-- the stack empties exactly where the names met are those laid down, from the top
pub feed-sound : (xs s : List Name) → feed xs s ≡ some [] → s ≡ xs
unfolding feed
feed-sound [] s h = cc
feed-sound (x ∷ xs) [] h = cc
feed-sound (x ∷ xs) (y ∷ s) h = go (same x y) refl (feed-sound xs s)
  where
    go : (b : Bool) → same x y ≡ b → (feed xs s ≡ some [] → s ≡ xs) → ◌≡◌ {A = List Name} (y ∷ s) (x ∷ xs)
    go true q k = ap₂ ◌∷◌ (sym (same_true x y q)) (k (rw (q, feed) at h))
    go false q k = let e = rw (q, feed) at h in cc

pub feed-can : (xs : List Name) → feed xs xs ≡ some []
unfolding feed
feed-can [] = refl
feed-can (x ∷ xs) = rw (same_refl x, feed) (feed-can xs)

-- a path meets exactly the names of its declaration
abbrev pub Exact : Path → List StackParam → Type 0
Exact p ps = idents ps ≡ along p

-- every table used up
used_sound : (ps : List Path) (os us : List Table) → Each (λ p o. State (meets p) o) ps os → unused_all (os ++ us) ≡ Ok tt → Each (λ p o. Each Takes (meets p) o) ps os
unfolding unused_all
used_sound [] [] us k h = tt
used_sound [] (o ∷ os) us k h = absurd k
used_sound (p ∷ ps) [] us k h = absurd k
used_sound (p ∷ ps) (o ∷ os) us k h =
    let c = both_ok (unused o) (unused_all (os ++ us)) h in
    (unused-sound (meets p) o k.0 c.0, used_sound ps os us k.1 c.1)

used-can : (ps : List Path) (os : List Table) → Each (λ p o. State (meets p) o) ps os → Each (λ p o. Exact p (params o)) ps os → unused_all os ≡ Ok tt
unfolding unused_all
used-can [] [] k e = refl
used-can [] (o ∷ os) k e = absurd k
used-can (p ∷ ps) [] k e = absurd k
used-can (p ∷ ps) (o ∷ os) k e = rw (unused-can (meets p) o k.0 e.0) (used-can ps os k.1 e.1)

distinct-each : (ds : List Declaration) → DistinctAll ds → DistinctEach (map from_top ds)
distinct-each [] u = tt
distinct-each (d ∷ ds) u = (u.0, distinct-each ds u.1)

-- as many declarations as paths
counted-sound : (n : ℕ) (ds : List Declaration) → counted n ds ≡ Ok tt → length ds ≡ n
unfolding counted
counted-sound n ds h = go (eqb (length ds) n) refl
  where
    go : (b : Bool) → eqb (length ds) n ≡ b → length ds ≡ n
    go true q = eqb-true (length ds) n q
    go false q = absurd (Err≢Ok (rw (q, counted) at h))

counted-can : (n : ℕ) (ds : List Declaration) → length ds ≡ n → counted n ds ≡ Ok tt
unfolding counted
counted-can n ds h = rw (eq-eqb (length ds) n h, counted) refl

-- no path is without its table
no_more : (A : Type 0) (xs : List A) → length xs ≡ 0 → xs ≡ []
no_more A [] h = refl
no_more A (x ∷ xs) h = absurd (omega arith)

-- the tables are used up: as many as paths
spent : (b : Block) (g : Target) (t : Table) (ts : List Table) (z : Stepped) (ds : List Declaration) → Sound b g [] [] t ts z → params t ∷ map params ts ≡ map from_top ds → length ds ≡ count b → z.rest ≡ []
spent b g t ts z ds s e c =
    no_more Table z.rest (omega (
      arith,
      each-length _ (paths b) (outs z) s.each,
      count-paths b,
      length-map (outs z ++ z.rest) params,
      length-append (outs z) z.rest,
      length-map ds from_top,
      ap length (s.same ∙ e),
    ))

-- each path's declaration, from the top
laid : (b : Block) (g : Target) (t : Table) (ts : List Table) (z : Stepped) (ds : List Declaration) → Sound b g [] [] t ts z → params t ∷ map params ts ≡ map from_top ds → length ds ≡ count b → map params (outs z) ≡ map from_top ds
laid b g t ts z ds s e c = ap (map params) (sym (append-nil (outs z)) ∙ ap (outs z ++◌) (sym (spent b g t ts z ds s e c))) ∙ s.same ∙ e

-- there is a first table
headed : (b : Block) (w : First b) (ts : List Table) (ds : List Declaration) → map params ts ≡ map from_top ds → length ds ≡ count b → (u : Table) × (us : List Table) × (ts ≡ u ∷ us)
headed b w [] ds e c = absurd (omega (arith, count-paths b, ap length w.are, ap length e, length-map ds from_top))
headed b w (u ∷ us) ds e c = (u, us, refl)

-- a table used up is the one that the declaration and the path give
takes-final : (ks : List Met) (o : Table) → Each Takes ks o → o ≡ final (params o) ks
unfolding final
takes-final [] [] k = refl
takes-final [] (e ∷ o) k = absurd k
takes-final (v ∷ ks) [] k = absurd k
takes-final (v ∷ ks) (e ∷ o) k = ap₂ ◌∷◌ (ap (λ x. record { param = e.param; taken = x }) k.0.1) (takes-final ks o k.1)

takes-finals : (ps : List Path) (os : List Table) (ds : List Declaration) → Each (λ p o. Each Takes (meets p) o) ps os → map params os ≡ map from_top ds → os ≡ final_all ds ps
unfolding final_all
takes-finals [] [] [] k h = refl
takes-finals [] [] (d ∷ ds) k h = cc
takes-finals [] (o ∷ os) ds k h = absurd k
takes-finals (p ∷ ps) [] ds k h = absurd k
takes-finals (p ∷ ps) (o ∷ os) [] k h = cc
takes-finals (p ∷ ps) (o ∷ os) (d ∷ ds) k h =
    let head : params o ≡ from_top d = cc in
    let tail : map params os ≡ map from_top ds = cc in
    ap₂ ◌∷◌ (takes-final (meets p) o k.0 ∙ ap (λ q. final q (meets p)) head) (takes-finals ps os ds k.1 tail)

named : (ps : List Path) (os : List Table) → Each (λ p o. Each Takes (meets p) o) ps os → Each (λ p o. Exact p (params o)) ps os
named [] [] k = tt
named [] (o ∷ os) k = absurd k
named (p ∷ ps) [] k = absurd k
named (p ∷ ps) (o ∷ os) k = (named-of (meets p) o k.0, named ps os k.1)

-- what acceptance says beyond flow, count and names
record Told (c : Contract) (ts : List Table) : Type 0 where
  typed : Typed c.block c.target c.declarations 0
  limited : Limited c.block
  exact : Each (λ p d. Exact p (from_top d)) (paths c.block) c.declarations
  final : ts ≡ finals c

told : (c : Contract) (f : Flows c.block) (t : Table) (ts : List Table) (z : Stepped) → length c.declarations ≡ count c.block → BuiltAll c.declarations (t ∷ ts) → steps f c.target t ts ≡ Ok z → unused_all (z.fin ++ z.cur ∷ z.rest) ≡ Ok tt → Told c (z.fin ++ z.cur ∷ z.rest)
told c f t ts z n b h u =
    let s = sound f c.target [] [] t ts z (omega arith) (start t b.fresh.0) (begun ts b.fresh.1) h in
    let u' : unused_all (outs z ++ z.rest) ≡ Ok tt = subst (λ us. unused_all us ≡ Ok tt) (sym (append_assoc z.fin (z.cur ∷ []) z.rest)) u in
    let e = used_sound (paths c.block) (outs z) z.rest s.each u' in
    let l = laid c.block c.target t ts z c.declarations s b.of n in
    record {
      typed = transport (typed-eq c.block c.target c.declarations 0) (subst (TypedOn c.block c.target) b.of s.typed);
      limited = s.limited;
      exact = each-unmap from_top Exact (paths c.block) c.declarations (subst (Each Exact (paths c.block)) l (each-onmap params Exact (paths c.block) (outs z) (named (paths c.block) (outs z) e)));
      final = ap (λ us. z.fin ++ z.cur ∷ us) (spent c.block c.target t ts z c.declarations s b.of n) ∙ takes-finals (paths c.block) (outs z) c.declarations e l;
    }

told-walk : (c : Contract) (f : Flows c.block) (ts : List Table) (w : Walked) → length c.declarations ≡ count c.block → BuiltAll c.declarations ts → walk c.block c.target (begin ts) ≡ Ok w → unused_all w.tables ≡ Ok tt → Told c w.tables × (w.waits ≡ waits_of c.block)
told-walk c f [] w n b h u = let e = (headed c.block (first f) [] c.declarations b.of n).2 in cc
told-walk c f (t ∷ ts) w n b h u =
    let m = bound (steps f c.target t ts) (λ z. Ok (placed_at [] (waits_of c.block) z)) (sym (simulate f c.target [] [] t ts) ∙ h) in (
      subst (λ x. Told c x.tables) (Ok-injective m.then) (told c f t ts m.value n b m.first (subst (λ x. unused_all x.tables ≡ Ok tt) (sym (Ok-injective m.then)) u)),
      ap (λ x. x.waits) (sym (Ok-injective m.then)),
    )

-- each path empties its stack
emptied : (c : Contract) → Each (λ p d. Exact p (from_top d)) (paths c.block) c.declarations → (n : ℕ) → n < count c.block → Empties c n
emptied c e n h =
    let q : Exact (get_or (paths c.block) n []) (from_top (get_or c.declarations n [])) = each_at (λ p d. Exact p (from_top d)) (paths c.block) c.declarations [] [] n (omega (arith, count-paths c.block)) e in
    subst (λ xs. feed (along (get_or (paths c.block) n [])) xs ≡ some []) (sym q) (feed-can (along (get_or (paths c.block) n [])))

-- the analysis from the tables on
abbrev walk_from : Contract → List Table → Result Analysis
walk_from c ts = walk c.block c.target (begin ts) >>= λ w. unused_all w.tables >> Ok (record { tables = w.tables; waits = w.waits })

-- all that an analysis that passes says
record All (c : Contract) (a : Analysis) : Type 0 where
  order : InOrder c
  empty : (n : ℕ) → n < count c.block → Empties c n
  final : a ≡ outcome c

analyzed : (c : Contract) (a : Analysis) → analyze c ≡ Ok a → All c a
unfolding analyze
analyzed c a h =
    let k₁ = checked (flow c.block) (counted (count c.block) c.declarations >> (build_all c.declarations >>= λ ts. walk_from c ts)) h in
    let k₂ = checked (counted (count c.block) c.declarations) (build_all c.declarations >>= λ ts. walk_from c ts) k₁.1 in
    let b₃ = bound (build_all c.declarations) (λ ts. walk_from c ts) k₂.1 in
    let b₄ = bound (walk c.block c.target (begin b₃.value)) (λ w. unused_all w.tables >> Ok (record { tables = w.tables; waits = w.waits })) b₃.then in
    let w = b₄.value in
    let k₅ = checked (unused_all w.tables) (Ok (record { tables = w.tables; waits = w.waits })) b₄.then in
    let n = counted-sound (count c.block) c.declarations k₂.0 in
    let b = build_all-sound c.declarations b₃.value b₃.first in
    let r = told-walk c (flows c.block k₁.0) b₃.value w n b b₄.first k₅.0 in
    record {
      order = record { flows = k₁.0; counts = n; distinct = b.distinct; typed = r.0.typed; limited = r.0.limited };
      empty = emptied c r.0.exact;
      final = sym (Ok-injective k₅.1) ∙ ap₂ (λ ts ks. record { tables = ts; waits = ks }) r.0.final r.1;
    }

-- an accepted contract's tables and waits are those that the tree gives
pub accepted-finals : (c : Contract) → Accepted c → analyze c ≡ Ok (outcome c)
unfolding check
accepted-finals c h = let a = answer_ok (analyze c) h in a.1 ∙ ap Ok (analyzed c a.0 a.1).final

pub accepted-in-order : (c : Contract) → Accepted c → InOrder c × ((n : ℕ) → n < count c.block → Empties c n)
unfolding check
accepted-in-order c h =
    let a = answer_ok (analyze c) h in
    let r = analyzed c a.0 a.1 in
    (r.order, r.empty)

-- the other way: each path meets exactly the names of its declaration
exact : (c : Contract) → length c.declarations ≡ count c.block → ((n : ℕ) → n < count c.block → Empties c n) → Each (λ p d. Exact p (from_top d)) (paths c.block) c.declarations
exact c n k = at_each (λ p d. Exact p (from_top d)) (paths c.block) c.declarations [] [] (sym (n ∙ count-paths c.block))
    (λ i h. feed-sound (along (get_or (paths c.block) i [])) (stack (get_or c.declarations i [])) (k i (omega (arith, count-paths c.block))))

finished : (c : Contract) (f : Flows c.block) (t : Table) (ts : List Table) (z : Stepped) → length c.declarations ≡ count c.block → BuiltAll c.declarations (t ∷ ts) → steps f c.target t ts ≡ Ok z → Each (λ p d. Exact p (from_top d)) (paths c.block) c.declarations → unused_all (z.fin ++ z.cur ∷ z.rest) ≡ Ok tt
finished c f t ts z n b h e =
    let s = sound f c.target [] [] t ts z (omega arith) (start t b.fresh.0) (begun ts b.fresh.1) h in
    let l = laid c.block c.target t ts z c.declarations s b.of n in
    let e' = each-unmap params Exact (paths c.block) (outs z) (subst (Each Exact (paths c.block)) (sym l) (each-onmap from_top Exact (paths c.block) c.declarations e)) in
    subst (λ us. unused_all (z.fin ++ z.cur ∷ us) ≡ Ok tt) (sym (spent c.block c.target t ts z c.declarations s b.of n)) (used-can (paths c.block) (outs z) s.each e')

walks : (c : Contract) (f : Flows c.block) (ts : List Table) → InOrder c → BuiltAll c.declarations ts → Each (λ p d. Exact p (from_top d)) (paths c.block) c.declarations → (w : Walked) × (walk c.block c.target (begin ts) ≡ Ok w) × (unused_all w.tables ≡ Ok tt)
walks c f [] o b e = let e = (headed c.block (first f) [] c.declarations b.of o.counts).2 in cc
walks c f (t ∷ ts) o b e =
    let q = sym b.of in
    let r = complete f c.target [] [] t ts (omega arith) (start t b.fresh.0) (begun ts b.fresh.1) (subst DistinctEach q (distinct-each c.declarations o.distinct)) (subst (TypedOn c.block c.target) q (transport⁻¹ (typed-eq c.block c.target c.declarations 0) o.typed)) o.limited
    (subst (Begins (Meets []) (paths c.block)) q (each-begins (Meets []) (paths c.block) (map from_top c.declarations) (each-onmap from_top Exact (paths c.block) c.declarations e))) in
    (placed_at [] (waits_of c.block) r.0, simulate f c.target [] [] t ts ∙ ap (λ m. m >>= λ z. Ok (placed_at [] (waits_of c.block) z)) r.1, finished c f t ts r.0 o.counts b r.1 e)

pub in-order-accepted : (c : Contract) → InOrder c → ((n : ℕ) → n < count c.block → Empties c n) → Accepted c
unfolding check analyze answer
in-order-accepted c o k =
    let e = exact c o.counts k in
    let b = build_all-can c.declarations o.distinct in
    let w = walks c (flows c.block o.flows) b.0 o (build_all-sound c.declarations b.0 b.1) e in
    ap answer (
    ap (λ m. m >> (counted (count c.block) c.declarations >> (build_all c.declarations >>= λ ts. walk_from c ts))) o.flows
    ∙ ap (λ m. m >> (build_all c.declarations >>= λ ts. walk_from c ts)) (counted-can (count c.block) c.declarations o.counts)
    ∙ ap (λ m. m >>= λ ts. walk_from c ts) b.1
    ∙ ap (λ m. m >>= λ w. unused_all w.tables >> Ok (record { tables = w.tables; waits = w.waits })) w.1
    ∙ ap (λ m. m >> Ok (record { tables = w.0.tables; waits = w.0.waits })) w.2)

-- DEMAND 3, on trees
pub demand3 : Demand3
demand3 c = (accepted-in-order c, λ h. in-order-accepted c h.0 h.1)

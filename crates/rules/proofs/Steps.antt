-- The walk of a block that passes flow, without path numbers: the table in use, and those of the paths to come.
use Prim.Native.Nat.{ℕ, suc}
use native.Mathlib.Omega.{arith}
use mathlib.Core.List.{List, [], ◌∷◌, ◌++◌, append_assoc, append-nil}
use mathlib.Core.Option.{some, none}
use mathlib.Core.Path.{◌≡◌, refl, sym, ◌∙◌, ap, ap₂}
use lib.ListN.{length, get_elem?, set, length-append}
use Rattle.std.specs.Prelude.{Ok, Err}
use Rattle.std.proofs.Math.Seq.{set-append_seam}
use Rattle.rules.specs.Ast.{Location, Target, Expression, Block, IfElseStatement, DeclarationPathMismatch}
use Rattle.rules.specs.Result.{Result, ◌>>=◌, refuse}
use Rattle.rules.specs.Table.{Table}
use Rattle.rules.specs.Limits.{wait}
use Rattle.rules.specs.Transfer.{transfer}
use Rattle.rules.specs.Walk.{Wait, Walked, with_table, with_wait, examine, examine_at, table_at, cross, walk, walk_statement}
use Rattle.rules.proofs.Using.{bind-cong, bind_assoc, bind_ok}
use Rattle.rules.proofs.Flowing.{Flows, returns, waits, verifies, splits}
use Rattle.rules.proofs.Takers.{noted, waits_of}

-- the tables of the paths walked but the last, the last one's, and those of the paths to come
pub record Stepped : Type 0 where
  pub fin : List Table
  pub cur : Table
  pub rest : List Table

abbrev pub stepped : List Table → Table → List Table → Stepped
stepped fs t ts = record { fin = fs; cur = t; rest = ts }

abbrev pub walked : List Table → ℕ → List Wait → Walked
walked ts n ks = record { tables = ts; branch = n; waits = ks }

abbrev pub outs : Stepped → List Table
outs z = z.fin ++ (z.cur ∷ [])

-- from the condition's table into the first of the tables to come
abbrev pub onward : Location → Table → List Table → Result Stepped
onward l t [] = refuse DeclarationPathMismatch l
onward l t (n ∷ ts) = transfer l t n >>= λ n'. Ok (stepped [] n' ts)

abbrev pub before : List Table → Stepped → Stepped
before ts z = record { fin = ts ++ z.fin; cur = z.cur; rest = z.rest }

unfoldable pub steps : {b : Block} → Flows b → Target → Table → List Table → Result Stepped
steps (returns l e) g t ts = examine g e t >>= λ t'. Ok (stepped [] t' ts)
steps (waits l n o v f) g t ts = wait l o v >>= λ k. steps f g t ts
steps (verifies l e f) g t ts = examine g e t >>= λ t'. steps f g t' ts
steps (splits l e f h) g t ts =
    examine g e t >>= λ t'.
    steps f g t' ts >>= λ z.
    onward l t' z.rest >>= λ n.
    steps h g n.cur n.rest >>= λ y.
    Ok (before (outs z) y)

-- what the walk over numbered paths makes of it, after the tables in `done` and with the waits ks
abbrev pub placed_at : List Table → List Wait → Stepped → Walked
placed_at done ks z = walked (done ++ (z.fin ++ z.cur ∷ z.rest)) (length (done ++ z.fin)) ks

pub at_done : (done : List Table) (t : Table) (ts : List Table) → get_elem? (done ++ t ∷ ts) (length done) ≡ some t
at_done [] t ts = refl
at_done (d ∷ done) t ts = at_done done t ts

pub at-end : (done : List Table) → get_elem? done (length done) ≡ none
at-end [] = refl
at-end (d ∷ done) = at-end done

examine-at : (g : Target) (l : Location) (e : Expression) (done : List Table) (t : Table) (ts : List Table) (ks : List Wait) → examine_at g l e (walked (done ++ t ∷ ts) (length done) ks) ≡ examine g e t
unfolding examine_at table_at
examine-at g l e done t ts ks = rw (at_done done t ts, table_at) refl

-- the tables around the next path's
regroup : (done : List Table) (z : Stepped) (ts : List Table) → done ++ (z.fin ++ z.cur ∷ ts) ≡ (done ++ outs z) ++ ts
regroup done z ts = ap (done ++◌) (sym (append_assoc z.fin (z.cur ∷ []) ts)) ∙ sym (append_assoc done (outs z) ts)

next-number : (done : List Table) (z : Stepped) → suc (length (done ++ z.fin)) ≡ length (done ++ outs z)
next-number done z = omega (arith, length-append done z.fin, length-append done (outs z), length-append z.fin (z.cur ∷ []))

abbrev cross_at : Location → Table → List Wait → List Table → ℕ → Result Walked
cross_at l t ks ts n = table_at l ts n >>= λ next. transfer l t next >>= λ next'. Ok (walked (set ts n next') n ks)

cross-onward : (l : Location) (t : Table) (ks : List Wait) (done ts : List Table) → cross_at l t ks (done ++ ts) (length done) ≡ (onward l t ts >>= λ n. Ok (walked (done ++ n.cur ∷ n.rest) (length done) ks))
unfolding table_at
cross-onward l t ks done [] = rw (append-nil done) (rw (at-end done, table_at) refl)
cross-onward l t ks done (n ∷ ts) =
    rw (at_done done n ts, table_at)
    (bind-cong (transfer l t n) (λ n'. Ok (walked (set (done ++ n ∷ ts) (length done) n') (length done) ks)) (λ n'. Ok (walked (done ++ n' ∷ ts) (length done) ks)) (λ n'. ap (λ us. Ok (walked us (length done) ks)) (set-append_seam done n ts n'))
    ∙ sym (bind_assoc (transfer l t n) (λ n'. Ok (stepped [] n' ts)) (λ k. Ok (walked (done ++ k.cur ∷ k.rest) (length done) ks))))

cross-placed : (l : Location) (t : Table) (done : List Table) (ks : List Wait) (z : Stepped) → cross l t (placed_at done ks z) ≡ (onward l t z.rest >>= λ n. Ok (walked ((done ++ outs z) ++ n.cur ∷ n.rest) (length (done ++ outs z)) ks))
unfolding cross
cross-placed l t done ks z = ap₂ (cross_at l t ks) (regroup done z z.rest) (next-number done z) ∙ cross-onward l t ks (done ++ outs z) z.rest

placed-before : (done : List Table) (ks ks' : List Wait) (z y : Stepped) → ks ≡ ks' → placed_at (done ++ outs z) ks y ≡ placed_at done ks' (before (outs z) y)
placed-before done ks ks' z y e = ap₂ (λ us n. walked us n ks)
    (append_assoc done (outs z) (y.fin ++ y.cur ∷ y.rest) ∙ ap (done ++◌) (sym (append_assoc (outs z) y.fin (y.cur ∷ y.rest))))
    (ap length (append_assoc done (outs z) y.fin))
    ∙ ap (λ qs. placed_at done qs (before (outs z) y)) e

pub simulate : {b : Block} (f : Flows b) (g : Target) (done : List Table) (ks : List Wait) (t : Table) (ts : List Table) → walk b g (walked (done ++ t ∷ ts) (length done) ks) ≡ (steps f g t ts >>= λ z. Ok (placed_at done (ks ++ waits_of b) z))
unfolding walk steps waits_of
simulate (returns l e) g done ks t ts =
    ap (λ m. m >>= (λ t'. Ok (with_table w t')) >>= (λ w. Ok w)) (examine-at g l e done t ts ks)
    ∙ bind_assoc (examine g e t) (λ t'. Ok (with_table w t')) (λ w. Ok w)
    ∙ bind-cong (examine g e t) (λ t'. Ok (with_table w t')) (λ t'. Ok (placed_at done (ks ++ []) (stepped [] t' ts)))
    (λ t'. rw (append-nil ks) (ap₂ (λ us n. Ok (walked us n ks)) (set-append_seam done t ts t') (ap length (sym (append-nil done)))))
    ∙ sym (bind_assoc (examine g e t) (λ t'. Ok (stepped [] t' ts)) (λ z. Ok (placed_at done (ks ++ []) z)))
  where
    w : Walked
    w = walked (done ++ t ∷ ts) (length done) ks
simulate (waits l n o v {b = b} f) g done ks t ts = go (wait l o v) (λ qs. simulate f g done qs t ts)
  where
    w : Walked
    w = walked (done ++ t ∷ ts) (length done) ks

    go : (m : Result ℕ) → ((qs : List Wait) → walk b g (walked (done ++ t ∷ ts) (length done) qs) ≡ (steps f g t ts >>= λ z. Ok (placed_at done (qs ++ waits_of b) z))) → (m >>= (λ k. Ok (with_wait w n k)) >>= (λ w. walk b g w)) ≡ ((m >>= λ k. steps f g t ts) >>= λ z. Ok (placed_at done (ks ++ (noted n m ++ waits_of b)) z))
    go (Ok k) h = h (ks ++ noted n (Ok k)) ∙ ap (λ qs. steps f g t ts >>= λ z. Ok (placed_at done qs z)) (append_assoc ks (noted n (Ok k)) (waits_of b))
    go (Err x) h = refl
simulate (verifies l e {b = b} f) g done ks t ts =
    ap (λ m. m >>= (λ t'. Ok (with_table w t')) >>= (λ w. walk b g w)) (examine-at g l e done t ts ks)
    ∙ bind_assoc (examine g e t) (λ t'. Ok (with_table w t')) (λ w. walk b g w)
    ∙ bind-cong (examine g e t) (λ t'. walk b g (with_table w t')) (λ t'. steps f g t' ts >>= λ z. Ok (placed_at done (ks ++ waits_of b) z))
    (λ t'. ap (λ us. walk b g (walked us (length done) ks)) (set-append_seam done t ts t') ∙ simulate f g done ks t' ts)
    ∙ sym (bind_assoc (examine g e t) (λ t'. steps f g t' ts) (λ z. Ok (placed_at done (ks ++ waits_of b) z)))
  where
    w : Walked
    w = walked (done ++ t ∷ ts) (length done) ks
simulate (splits l e {b = b} {c = c} f h) g done ks t ts =
    bind_ok (walk_statement (IfElseStatement l e b c) g w)
    ∙ ap (λ m. m >>= λ t'. walk b g (with_table w t') >>= λ w₁. cross l t' w₁ >>= λ w₂. walk c g w₂) (examine-at g l e done t ts ks)
    ∙ bind-cong (examine g e t) (λ t'. walk b g (with_table w t') >>= λ w₁. cross l t' w₁ >>= λ w₂. walk c g w₂) (λ t'. after t' >>= λ z. Ok (put z))
    (λ t'.
    ap (λ us. walk b g (walked us (length done) ks) >>= λ w₁. cross l t' w₁ >>= λ w₂. walk c g w₂) (set-append_seam done t ts t')
    ∙ ap (λ m. m >>= λ w₁. cross l t' w₁ >>= λ w₂. walk c g w₂) (simulate f g done ks t' ts)
    ∙ bind_assoc (steps f g t' ts) (λ z. Ok (placed_at done (ks ++ waits_of b) z)) (λ w₁. cross l t' w₁ >>= λ w₂. walk c g w₂)
    ∙ bind-cong (steps f g t' ts) (λ z. cross l t' (placed_at done (ks ++ waits_of b) z) >>= λ w₂. walk c g w₂) (λ z. (onward l t' z.rest >>= λ n. steps h g n.cur n.rest >>= λ y. Ok (before (outs z) y)) >>= λ z. Ok (put z))
    (λ z.
    ap (λ m. m >>= λ w₂. walk c g w₂) (cross-placed l t' done (ks ++ waits_of b) z)
    ∙ bind_assoc (onward l t' z.rest) (λ n. Ok (walked ((done ++ outs z) ++ n.cur ∷ n.rest) (length (done ++ outs z)) (ks ++ waits_of b))) (λ w₂. walk c g w₂)
    ∙ bind-cong (onward l t' z.rest) (λ n. walk c g (walked ((done ++ outs z) ++ n.cur ∷ n.rest) (length (done ++ outs z)) (ks ++ waits_of b))) (λ n. (steps h g n.cur n.rest >>= λ y. Ok (before (outs z) y)) >>= λ z. Ok (put z))
    (λ n. simulate h g (done ++ outs z) (ks ++ waits_of b) n.cur n.rest
    ∙ bind-cong (steps h g n.cur n.rest) (λ y. Ok (placed_at (done ++ outs z) ((ks ++ waits_of b) ++ waits_of c) y)) (λ y. Ok (put (before (outs z) y))) (λ y. ap Ok (placed-before done ((ks ++ waits_of b) ++ waits_of c) (ks ++ ((waits_of b ++ waits_of c) ++ [])) z y (append_assoc ks (waits_of b) (waits_of c) ∙ ap (ks ++◌) (sym (append-nil (waits_of b ++ waits_of c))))))
    ∙ sym (bind_assoc (steps h g n.cur n.rest) (λ y. Ok (before (outs z) y)) (λ z. Ok (put z))))
    ∙ sym (bind_assoc (onward l t' z.rest) (λ n. steps h g n.cur n.rest >>= λ y. Ok (before (outs z) y)) (λ z. Ok (put z))))
    ∙ sym (bind_assoc (steps f g t' ts) (λ z. onward l t' z.rest >>= λ n. steps h g n.cur n.rest >>= λ y. Ok (before (outs z) y)) (λ z. Ok (put z))))
    ∙ sym (bind_assoc (examine g e t) after (λ z. Ok (put z)))
  where
    w : Walked
    w = walked (done ++ t ∷ ts) (length done) ks

    put : Stepped → Walked
    put z = placed_at done (ks ++ ((waits_of b ++ waits_of c) ++ [])) z

    after : Table → Result Stepped
    after t' = steps f g t' ts >>= λ z. onward l t' z.rest >>= λ n. steps h g n.cur n.rest >>= λ y. Ok (before (outs z) y)

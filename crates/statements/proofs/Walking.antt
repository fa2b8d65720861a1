-- A statement on the paths as they are, from what the functions below it answer.
use Prim.Native.Nat.{ℕ, suc, ◌+◌, ◌≤◌, ◌<◌}
use native.Mathlib.Numerals.{add-one}
use native.Mathlib.Omega.{arith}
use mathlib.Core.Bool.{Bool, true, false}
use mathlib.Core.List.{List}
use mathlib.Core.Path.{◌≡◌, refl, sym, ap, ◌∙◌, subst}
use borrow.Author.Tests.{ltb-true, ltb-false}
use lib.Dec.{ltb}
use lib.ListN.{length, set}
use Rattle.std.specs.Prelude.{Ok, Err, IsErrAnd}
use Rattle.std.proofs.lemmas.Result.{err_from_is_err_and}
use Rattle.ast.specs.declared.Location.{Location}
use Rattle.ast.specs.declared.LocktimeOp.{LocktimeOp}
use Rattle.ast.specs.declared.Signed.{Signed}
use Rattle.ast.specs.declared.Target.{Target}
use Rattle.ast.specs.declared.ErrorKind.TheVariants.{DeclarationPathMismatch}
use Rattle.ast.specs.declared.CompileError.{CompileError}
use Rattle.ast.specs.Tree.{Expression, Statement, LocktimeStatement, VerifyStatement, ExpressionStatement, fault}
use Rattle.rows.specs.Rows.{line_in}
use Rattle.listing.specs.declared.Line.{Line}
use Rattle.reader.specs.Spells.{SpellsExpression}
use Rattle.rules.specs.Result.{Result, Checked, ◌>>=◌}
use Rattle.rules.specs.Table.{Table}
use Rattle.rules.specs.Limits.{wait}
use Rattle.rules.specs.Transfer.{transfer}
use Rattle.rules.specs.Walk.{examine, table_at}
use Rattle.paths.specs.declared.Path.{Path}
use Rattle.paths.specs.Path.{table_of, Onward, Walked}
use Rattle.paths.proofs.Tables.{items-params}
use Rattle.paths.proofs.Walks.{placed_on, walked-ok, walked-err}
use Rattle.usage.specs.declared.Used.{Used}
use Rattle.usage.specs.Names.{has_names}
use Rattle.usage.specs.Walk.{WalkedTo}
use Rattle.declarations.specs.declared.Declared.{Declared}
use Rattle.tables.specs.Held.{Held, statement_held, examine_held, cross_held}
use Rattle.tables.specs.State.{path_at, tables_of, ReadyAt, InUse, Ready}
use Rattle.tables.proofs.Held.{held-wait, held-verify, held-return, held-cross}
use Rattle.tables.proofs.State.{enough, tables-set, ready-set, table-at, table-past}
use Rattle.statements.specs.declared.Step.{Step}
use Rattle.statements.specs.declared.Walk.{Walk}
use Rattle.statements.specs.Steps.{in_range, examined, stays, On, Decided, Told}
use Rattle.statements.specs.Walks.{resumed, turned, held_of, held_in, Moved, Tried, Stepped}

-- the test of a path against those declared
module _ (count n : ℕ) (l : Location) where
  pub in-range : in_range count n l ≡ Ok tt → n < count
  unfolding in_range
  in-range h = go (ltb n count) refl
    where
      go : (b : Bool) → ltb n count ≡ b → n < count
      go true e = ltb-true n count e
      go false e = let f : ◌≡◌ {A = Checked} (Err (fault DeclarationPathMismatch l)) (Ok tt) = rw (e, in_range) at h in cc

  pub out_of_range : {x : CompileError} → in_range count n l ≡ Err x → (count ≤ n) × (fault DeclarationPathMismatch l ≡ x)
  unfolding in_range
  out_of_range {x} h = go (ltb n count) refl
    where
      go : (b : Bool) → ltb n count ≡ b → (count ≤ n) × (fault DeclarationPathMismatch l ≡ x)
      go true e = let f : ◌≡◌ {A = Checked} (Ok tt) (Err x) = rw (e, in_range) at h in cc
      go false e = let f : ◌≡◌ {A = Checked} (Err (fault DeclarationPathMismatch l)) (Err x) = rw (e, in_range) at h in let g : fault DeclarationPathMismatch l ≡ x = cc in (ltb-false n count e, g)

-- the expression of a verify or a return
pub at_next : {L : ℕ → Line} {s : List ℕ} {i j : ℕ} {e : Expression} → SpellsExpression L s (suc i) e j → SpellsExpression L s (i + 1) e j
at_next {L} {s} {i} {j} {e} sp = subst (λ m. SpellsExpression L s m e j) (sym (add-one i)) sp

-- a walk's path, alone
pub path-walk : {s t : List ℕ} {p : Path} {w : Result Table} {j : ℕ} {r : Result Used} → WalkedTo s t p w j r → Walked s t p w (r >>= λ u. Ok u.path)
path-walk {r = Ok u} h = h.walked
path-walk {r = Err x} h = h.walked

pub same-walk : {s t : List ℕ} {p : Path} {w : Result Table} {r : Result Path} → Walked s t p w r → Walked s t p w (r >>= λ q. Ok q)
same-walk {r = Ok q} h = h
same-walk {r = Err x} h = h

-- a path after a walk on it
stays-ready : {s t : List ℕ} (d : Declared) (n : ℕ) {p q : Path} → ReadyAt s t d n p → Onward s t p q → ReadyAt s t d n q
stays-ready {s} {t} d n r on = record { formed = on.sound; items = r.items; same = items-params s t on.items ∙ r.same; placed = placed_on on.sound on.items r.placed }

module _ {s t : List ℕ} {d : Declared} where
  -- a refused step
  pub stepped-err : {A : Type 0} {w : Result Held} {j n : ℕ} {go : A → Walk} {r : Result A} {x : CompileError} → IsErrAnd r (λ y. y ≡ x) → w ≡ Err x → Stepped s t d w j n go r
  stepped-err {r = r} h e =
      let (y, k, l) = err_from_is_err_and r h in
      record {
        moved = record { result = rw (k, l, e); onward = λ v o. let z : Err y ≡ Ok v = rw k at o in cc };
        within = λ a o. let z : Err y ≡ Ok a = sym k ∙ o in cc;
      }

  pub stepped-is : {A : Type 0} {v w : Result Held} {j n : ℕ} {go : A → Walk} {r : Result A} → v ≡ w → Stepped s t d w j n go r → Stepped s t d v j n go r
  stepped-is e h = record { moved = record { result = h.moved.result ∙ sym e; onward = h.moved.onward }; within = h.within }

  -- an expression that is refused on the path in use
  pub tried-err : {w : Result Held} {j : ℕ} {v : Walk} {r : Result Used} {x : CompileError} → IsErrAnd r (λ y. y ≡ x) → w ≡ Err x → Tried s t d w j v r
  tried-err {r = r} h e =
      let (y, k, l) = err_from_is_err_and r h in
      record { result = rw (k, l, e); onward = λ u o. let z : Err y ≡ Ok u = sym k ∙ o in cc }

  pub tried-is : {a w : Result Held} {j : ℕ} {v : Walk} {r : Result Used} → a ≡ w → Tried s t d w j v r → Tried s t d a j v r
  tried-is e h = record { result = h.result ∙ sym e; onward = h.onward }

  -- an expression on the path in use, from what a rule w answers on its table
  pub tried : (v : Walk) → InUse s t d v.branch v.paths → {w : Result Table} {j : ℕ} (r : Result Used) → v.branch < d.count → WalkedTo s t (path_at v.paths v.branch) w j r → Tried s t d (w >>= λ u. Ok (record { tables = set (tables_of s t d v.paths) v.branch u; branch = v.branch })) j v r
  tried v on {w} {j} (Ok x) within h =
      let walk = path-walk h in
      record {
        result = rw (walked-ok walk {q = x.path} refl, tables-set s t d v.paths on.0 within x.path);
        onward = λ y o. let z : x ≡ y = cc in subst (λ (y : Used). (y.next ≡ j) × ReadyAt s t d v.branch y.path × (v.branch < d.count)) z (h.next x refl, stays-ready d v.branch (on.1 within) (walk.onward x.path refl), within);
      }
  tried v on {w} {j} (Err y) within h = record { result = rw (walked-err (path-walk h) {x = y} refl); onward = λ u o. cc }

  -- the walk resumed after it: if all paths could be used, they still can
  pub stepped-on : {w : Result Held} {j : ℕ} {v : Walk} (r : Result Used) → Ready s t d v.paths → Tried s t d w j v r → Stepped s t d w j v.branch (resumed v) r
  stepped-on {w} {j} {v} (Ok x) ready h =
      let on = h.onward x refl in
      record {
        moved = record {
          result = h.result;
          onward = λ y o. let z : resumed v x ≡ y = cc in subst (λ (y : Walk). (y.next ≡ j) × Ready s t d y.paths) z (on.0, ready-set ready on.2 x.path on.1);
        };
        within = λ a o. on.2;
      }
  stepped-on (Err y) ready h = record { moved = record { result = h.result; onward = λ v o. cc }; within = λ a o. cc }

  module _ {paths : List Path} (r : Ready s t d paths) {n : ℕ} where
    -- a step on path n, from what a rule w answers on its table
    pub stepped : {A : Type 0} (path : A → Path) (next : A → ℕ) {w : Result Table} {j : ℕ} (a : Result A) → n < d.count → Walked s t (path_at paths n) w (a >>= λ x. Ok (path x)) → ((x : A) → a ≡ Ok x → next x ≡ j) → Stepped s t d (w >>= λ u. Ok (record { tables = set (tables_of s t d paths) n u; branch = n })) j n (λ x. record { paths = set paths n (path x); branch = n; next = next x }) a
    stepped path next {w} {j} (Ok x) within h e =
        let q = path x in
        record {
          moved = record {
            result = rw (walked-ok h {q = q} refl, tables-set s t d paths (enough r) within q);
            onward = λ v o. let z : record { paths = set paths n q; branch = n; next = next x } ≡ v = cc in subst (λ (v : Walk). (v.next ≡ j) × Ready s t d v.paths) z (e x refl, ready-set r within q (stays-ready d n (r.each n within) (h.onward q refl)));
          };
          within = λ a o. within;
        }
    stepped path next {w} {j} (Err y) within h e = record { moved = record { result = rw (walked-err h {x = y} refl); onward = λ v o. cc }; within = λ a o. cc }

-- the rules on the tables of some paths
module _ (s t : List ℕ) (d : Declared) (paths : List Path) (full : d.count ≤ length paths) {n : ℕ} where
  -- an expression at l, on a path that is declared, and on none
  module _ (g : Target) (l : Location) (e : Expression) where
    pub examined-here : n < d.count → examined g l e (tables_of s t d paths) n ≡ (examine g e (table_of s t (path_at paths n)) >>= λ u. Ok (record { tables = set (tables_of s t d paths) n u; branch = n }))
    unfolding examined Rattle.rules.specs.Walk.examine_at table_at
    examined-here within = rw (table-at s t d paths full n within, table_at)

    pub examined-past : d.count ≤ n → {x : CompileError} → fault DeclarationPathMismatch l ≡ x → examined g l e (tables_of s t d paths) n ≡ Err x
    unfolding examined Rattle.rules.specs.Walk.examine_at table_at
    examined-past past q = rw (table-past s t d paths full n past, table_at) (ap Err q)

  -- from the if-block to the next path, v being the table after the condition
  module _ (l : Location) (v : Table) where
    pub crossed : suc n < d.count → cross_held l v (record { tables = tables_of s t d paths; branch = n }) ≡ (transfer l v (table_of s t (path_at paths (suc n))) >>= λ u. Ok (record { tables = set (tables_of s t d paths) (suc n) u; branch = suc n }))
    unfolding table_at
    crossed within = held-cross l v _ ∙ rw (table-at s t d paths full (suc n) within, table_at)

    pub crossed-past : d.count ≤ suc n → {x : CompileError} → fault DeclarationPathMismatch l ≡ x → cross_held l v (record { tables = tables_of s t d paths; branch = n }) ≡ Err x
    unfolding table_at
    crossed-past past q = held-cross l v _ ∙ rw (table-past s t d paths full (suc n) past, table_at) (ap Err q)

-- an expression that is refused
pub decided-err : (s t : List ℕ) (d : Declared) (n : ℕ) (l : Location) (e : Expression) (j : ℕ) (r : Result Step) {y : CompileError} → IsErrAnd r (λ z. z ≡ y) → On s t d n (λ ts. examined d.target l e ts n) (λ ts. Err y) → has_names e ≡ false → Decided s t d n l e j r
decided-err s t d n l e j r h f nameless = let (z, k, q) = err_from_is_err_and r h in subst (Decided s t d n l e j) (sym k) (λ paths u. f paths u ∙ ap Err (sym q), nameless)

-- what the step of a statement says of it
module _ (s t : List ℕ) (d : Declared) (n : ℕ) (x : Statement) (i j : ℕ) (l : Location) where
  module _ {m : ℕ} {o : LocktimeOp} {v : Signed} (h : x ≡ LocktimeStatement l m o v) where
    walks : (ts : List Table) → statement_held x d.target ts n ≡ (wait l o v >>= λ k. Ok (record { tables = ts; branch = n }))
    walks ts = ap (λ y. statement_held y d.target ts n) h ∙ held-wait l m o v d.target ts n

    pub told-wait : {c : ℕ} → j ≡ suc i → wait l o v ≡ Ok c → Told s t d n x i j (Ok (Step.Pass (i + 1)))
    told-wait k q = (add-one i ∙ sym k, λ paths r. walks _ ∙ rw q)

    pub told-refused : {y : CompileError} (r : Result Step) → wait l o v ≡ Err y → IsErrAnd r (λ z. z ≡ y) → Told s t d n x i j r
    told-refused {y} r q e = let (z, k, f) = err_from_is_err_and r e in subst (Told s t d n x i j) (sym k) (λ paths u. walks _ ∙ rw (q, f))

  -- a verify or a return: what is decided of its expression
  module _ {e : Expression} (sp : SpellsExpression (line_in t) s (suc i) e j) (r : Result Step) (D : Decided s t d n l e j r) where
    told-as : ((ts : List Table) → statement_held x d.target ts n ≡ examined d.target l e ts n) → Told s t d n x i j r
    told-as same = go r D
      where
        go : (r : Result Step) → Decided s t d n l e j r → Told s t d n x i j r
        go (Ok (Step.Pass m)) D = (D.0, λ paths u. same _ ∙ D.1 paths u)
        go (Ok (Step.Examine k)) D = (e, sp, λ paths u. same _ ∙ ap (λ k. examined d.target k e (tables_of s t d paths) n) (sym D.0), D.1)
        go (Ok (Step.If k h)) D = absurd D
        go (Err y) D = λ paths u. same _ ∙ D.0 paths u

    pub told-verify : x ≡ VerifyStatement l e → Told s t d n x i j r
    unfolding examined
    told-verify h = told-as (λ ts. ap (λ y. statement_held y d.target ts n) h ∙ held-verify l e d.target ts n)

    pub told-return : x ≡ ExpressionStatement l e → Told s t d n x i j r
    unfolding examined
    told-return h = told-as (λ ts. ap (λ y. statement_held y d.target ts n) h ∙ held-return l e d.target ts n)

-- The tables of all paths, built one after another.
use Prim.Native.Nat.{ℕ, zero, suc, ◌+◌, ◌≤◌, ◌<◌}
use native.Mathlib.Numerals.{add-one}
use native.Mathlib.Omega.{arith}
use mathlib.Core.Bool.{Bool, true, false}
use mathlib.Core.List.{List, [], ◌∷◌, ◌++◌, map, append_assoc, append-nil}
use mathlib.Core.Option.{none}
use mathlib.Core.Path.{◌≡◌, refl, sym, ap, ◌∙◌, subst}
use borrow.Author.Tests.{eqb-true, eqb-false}
use lib.Dec.{eqb}
use lib.ListN.{length, get_or, set, take, drop, replicate, length-set, drop_of_length-le}
use lib.Seq.{drop-cons, get_or-set_other}
use Rattle.std.specs.Prelude.{Ok, Err, IsErrAnd}
use Rattle.std.proofs.lemmas.Result.{err_from_is_err_and}
use Rattle.std.proofs.lemmas.List.{map-append, take_more_set, get_or-set_same}
use Rattle.ast.specs.declared.CompileError.{CompileError}
use Rattle.ast.specs.Tree.{Name, StackParam, Declaration, from_top, Contract}
use Rattle.rows.specs.Rows.{line_in}
use Rattle.reader.specs.Reading.{item}
use Rattle.reader.specs.Spells.{SpellsItems}
use Rattle.rules.specs.Result.{Result, ◌>>=◌}
use Rattle.rules.specs.Table.{Table, params, among, enter, build, build_all}
use Rattle.names.specs.Items.{ItemsAt}
use Rattle.names.proofs.Laws.{items-are}
use Rattle.paths.specs.declared.Path.{Path}
use Rattle.paths.specs.Path.{table_of, no_path}
use Rattle.paths.specs.Tables.{Built}
use Rattle.declarations.specs.declared.Declared.{Declared}
use Rattle.declarations.specs.Items.{item_rows, Items, DeclaredAs, Given}
use Rattle.tables.specs.State.{path_at, tables_of, ReadyAt, Ready, Answered}
use Rattle.tables.proofs.State.{past_end}

-- what is built has the declaration's items
enter-params : (met : List Name) (ps : List StackParam) {t : Table} → enter met ps ≡ Ok t → params t ≡ ps
unfolding enter
enter-params met [] {t} h = let e : ◌≡◌ {A = Table} [] t = cc in ap params (sym e)
enter-params met (p ∷ ps) {t} h = first (among p.identifier met) refl (λ u q. enter-params (p.identifier ∷ met) ps {t = u} q)
  where
    rest : (y : Result Table) → among p.identifier met ≡ false → enter (p.identifier ∷ met) ps ≡ y → ((u : Table) → enter (p.identifier ∷ met) ps ≡ Ok u → params u ≡ ps) → params t ≡ p ∷ ps
    rest (Ok u) e q ih =
        let f : ◌≡◌ {A = Result Table} (Ok (record { param = p; taken = none } ∷ u)) (Ok t) = rw (e, enter, q) at h in
        let g : ◌≡◌ {A = Table} (record { param = p; taken = none } ∷ u) t = cc in
        ap params (sym g) ∙ ap (λ l. p ∷ l) (ih u q)
    rest (Err x) e q ih = let f : ◌≡◌ {A = Result Table} (Err x) (Ok t) = rw (e, enter, q) at h in let o : ◌≡◌ {A = ℕ} 0 1 = cc in absurd (omega arith)

    first : (b : Bool) → among p.identifier met ≡ b → ((u : Table) → enter (p.identifier ∷ met) ps ≡ Ok u → params u ≡ ps) → params t ≡ p ∷ ps
    first true e ih = let f : ◌≡◌ {A = Result Table} (Err _) (Ok t) = rw (e, enter) at h in let o : ◌≡◌ {A = ℕ} 0 1 = cc in absurd (omega arith)
    first false e ih = rest (enter (p.identifier ∷ met) ps) e refl ih

build-params : (d : Declaration) {t : Table} → build d ≡ Ok t → params t ≡ from_top d
unfolding build
build-params d h = enter-params [] (from_top d) h

-- what is built of a declaration: the rule's result, and the path
module _ {s t : List ℕ} {d : Declaration} {j : ℕ} {r : Result Path} (B : Built s t d j r) where
  pub built-ok : {q : Path} → r ≡ Ok q → build d ≡ Ok (table_of s t q)
  built-ok e = sym B.result ∙ rw e

  pub built-err : {x : CompileError} → r ≡ Err x → build d ≡ Err x
  built-err e = sym B.result ∙ rw e

-- no path among paths without items
none-at : {p : Path} → p ≡ no_path → (n q : ℕ) → q < n → path_at (replicate n p) q ≡ no_path
none-at e zero q i = absurd (omega arith)
none-at e (suc n) zero i = e
none-at e (suc n) (suc q) i = none-at e n q (omega arith)

module _ (s t : List ℕ) (d : Declared) where
  -- the first p declarations are built, and the paths past them are empty
  pub record Building (paths : List Path) (p : ℕ) : Type 0 where
    pub full : length paths ≡ 32
    pub each : (q : ℕ) → q < p → ReadyAt s t d q (path_at paths q)
    pub past : (q : ℕ) → p ≤ q → q < 32 → path_at paths q ≡ no_path
    pub same : (c : Contract) (n : ℕ) → DeclaredAs s t d c n → build_all c.declarations ≡ (build_all (drop p c.declarations) >>= λ ts. Ok (map (table_of s t) (take p paths) ++ ts))

  pub building-none : {p : Path} → p ≡ no_path → Building (replicate 32 p) 0
  building-none {p} e = record { full = refl; each = λ q i. absurd (omega arith); past = λ q i j. none-at e 32 q j; same = λ c n D. go (build_all c.declarations) }
    where
      go : (y : Result (List Table)) → y ≡ (y >>= λ ts. Ok ([] ++ ts))
      go (Ok ts) = refl
      go (Err x) = refl

  module _ (G : Given s t d) {paths : List Path} {p : ℕ} (b : Building paths p) (more : p < d.count) where
    abbrev here : Items s t d G.contract G.count p
    here = G.declared.items p more

    pub items_at : ItemsAt s t (item_rows d p).count (item_rows d p).first
    items_at = record { tree = get_or G.contract.declarations p []; next = (item_rows d p).first + (item_rows d p).count; spells = here.spells; count = G.count; within = here.within; rows = G.rows }

    -- what is built at path p, of a declaration whose items its rows spell
    abbrev pub BuiltHere : Result Path → Type 0
    BuiltHere r = (x : Declaration) → SpellsItems (line_in t) StackParam (item s) (item_rows d p).count (item_rows d p).first x ((item_rows d p).first + (item_rows d p).count) → Built s t x ((item_rows d p).first + (item_rows d p).count) r

    module _ {r : Result Path} (B : BuiltHere r) where
      next : {c : Contract} {n : ℕ} → DeclaredAs s t d c n → drop p c.declarations ≡ get_or c.declarations p [] ∷ drop (suc p) c.declarations
      next {c} D = drop-cons c.declarations p [] (omega (arith, D.count))

      pub building-err : {c : Contract} {n : ℕ} → DeclaredAs s t d c n → {x : CompileError} → r ≡ Err x → build_all c.declarations ≡ Err x
      unfolding build_all
      building-err {c} {n} D e = b.same c n D ∙ rw (next D, built-err (B _ (D.items p more).spells) e, build_all)

      module _ {q : Path} (e : r ≡ Ok q) where
        ready : ReadyAt s t d p q
        ready =
            let built = B _ here.spells in
            record {
              formed = (built.onward q e).0;
              items = items_at;
              same = build-params (get_or G.contract.declarations p []) (built-ok built e) ∙ items-are s t here.spells;
              placed = (built.onward q e).1;
            }

        ready-at : (k : ℕ) → k < p + 1 → (u : Bool) → eqb k p ≡ u → ReadyAt s t d k (path_at (set paths p q) k)
        ready-at k i true h = subst (λ k. ReadyAt s t d k (path_at (set paths p q) k)) (sym (eqb-true k p h)) (subst (ReadyAt s t d p) (sym (get_or-set_same paths p q past_end (omega (arith, b.full, G.declared.few)))) ready)
        ready-at k i false h = let o = eqb-false k p h in subst (ReadyAt s t d k) (sym (get_or-set_other paths p k q past_end o)) (b.each k (omega arith))

        more-built : (c : Contract) (n : ℕ) → DeclaredAs s t d c n → build_all c.declarations ≡ (build_all (drop (p + 1) c.declarations) >>= λ ts. Ok (map (table_of s t) (take (p + 1) (set paths p q)) ++ ts))
        unfolding build_all
        more-built c n D =
            b.same c n D ∙
            rw (next D, built-ok (B _ (D.items p more).spells) e, build_all, take_more_set paths p q (omega (arith, b.full, D.few)), map-append (table_of s t) (take p paths) (q ∷ []), add-one p) (go (build_all (drop (suc p) c.declarations)))
          where
            v : Table
            v = table_of s t q

            go : (y : Result (List Table)) → ((y >>= λ ts. Ok (v ∷ ts)) >>= λ ts. Ok (map (table_of s t) (take p paths) ++ ts)) ≡ (y >>= λ ts. Ok ((map (table_of s t) (take p paths) ++ v ∷ []) ++ ts))
            go (Ok ts) = ap Ok (sym (append_assoc (map (table_of s t) (take p paths)) (v ∷ []) ts))
            go (Err x) = refl

        pub building-more : Building (set paths p q) (p + 1)
        building-more = record {
          full = length-set paths p q ∙ b.full;
          each = λ k i. ready-at k i (eqb k p) refl;
          past = λ k i j. get_or-set_other paths p k q past_end (λ z. omega arith) ∙ b.past k (omega arith) j;
          same = more-built;
        }

  pub building-all : {c : Contract} {n : ℕ} → DeclaredAs s t d c n → {paths : List Path} {p : ℕ} → Building paths p → p ≡ d.count → Answered s t d (build_all c.declarations) (Ok paths)
  unfolding build_all
  building-all {c} {n} D {paths} {p} b e = record {
    result = sym (b.same c n D ∙ rw (drop_of_length-le c.declarations {i = p} (omega (arith, D.count)), e, build_all) (ap Ok (append-nil (tables_of s t d paths))));
    ready = λ o h. let z : paths ≡ o = cc in subst (Ready s t d) z (record { few = D.few; full = b.full; each = λ q i. b.each q (omega arith); past = λ q i j. b.past q (omega arith) j });
  }

-- a refusal
pub answered-err : {s t : List ℕ} {d : Declared} {w : Result (List Table)} {r : Result (List Path)} {x : CompileError} → IsErrAnd r (λ y. y ≡ x) → w ≡ Err x → Answered s t d w r
answered-err {r = r} h e =
    let (y, k, l) = err_from_is_err_and r h in
    record { result = rw (k, l, e); ready = λ o q. let z : Err y ≡ Ok o = sym k ∙ q in cc }

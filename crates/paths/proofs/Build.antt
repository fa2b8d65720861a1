-- A path built item by item, from the top down.
use Prim.Native.Nat.{ℕ, zero, suc, ◌+◌, ◌-◌, ◌≤◌, ◌<◌}
use native.Mathlib.Numerals.{add-one}
use native.Mathlib.Omega.{arith}
use mathlib.Core.Bool.{Bool, true, false, ◌||◌, or-true, cond}
use mathlib.Core.List.{List, [], ◌∷◌, ◌++◌, map, reverse_aux, append_assoc, append-nil}
use mathlib.Core.Option.{none}
use mathlib.Core.Path.{◌≡◌, refl, sym, ap, ap₂, ◌∙◌, subst}
use lib.ListN.{length, get_or, take, drop, set, replicate, length-set, get_or-map, drop_of_length-le}
use borrow.Author.Tests.{ltb-true, ltb-false, eqb-true, eqb-false}
use lib.Dec.{ltb, eqb}
use lib.Pow.{pow_pos}
use lib.Seq.{take-suc, drop-cons, get_or-set_same, get_or-set_other}
use Rattle.std.specs.Prelude.{Ok, Err, Some}
use Rattle.std.specs.List.{position_from}
use Rattle.std.specs.Option.{is_some}
use Rattle.ast.specs.declared.ErrorKind.TheVariants.{DuplicateVariable}
use Rattle.ast.specs.Tree.{Name, same, StackParam, Declaration, fault}
use Rattle.text.specs.Text.{part}
use Rattle.rows.specs.Rows.{line_in}
use Rattle.reader.specs.Reading.{item}
use Rattle.reader.specs.Spells.{SpellsItems}
use Rattle.rules.specs.Result.{Result, ◌>>=◌, refuse}
use Rattle.rules.specs.Table.{Entry, Table, params, among, enter, build}
use Rattle.names.specs.declared.Item.{Item}
use Rattle.names.specs.Items.{NamedRow, line_of, item_in, items_down, found_in}
use Rattle.names.proofs.Laws.{named, item-is, items-are}
use Rattle.paths.specs.declared.NamePlace.{NamePlace}
use Rattle.paths.specs.declared.Path.{Path}
use Rattle.taken.specs.Taken.{is_taken}
use Rattle.paths.specs.Path.{taken_by, table_from, table_of, no_place, WellFormed, Placed}
use Rattle.paths.specs.Tables.{Built}
use Rattle.taken.proofs.Bits.{run_none}
use Rattle.paths.proofs.Tables.{row_named}

-- one more item, at position n
abbrev added_at : ℕ → Path → ℕ → Path
added_at n p row = record { places = set p.places n (record { row = row; line = 0 }); count = n + 1; taken = p.taken }

-- one more item, the last
abbrev added : Path → ℕ → Path
added p row = added_at p.count p row

-- an item that is not taken
abbrev fresh : StackParam → Entry
fresh p = record { param = p; taken = none }

-- the names met once the items ps are entered, the last first
abbrev met_by : List StackParam → List Name → List Name
met_by ps met = reverse_aux (map (λ p. p.identifier) ps) met

among-kept : (x : Name) (l met : List Name) → among x met ≡ true → among x (reverse_aux l met) ≡ true
unfolding among
among-kept x [] met h = h
among-kept x (y ∷ l) met h = among-kept x l (y ∷ met) (rw h (or-true (same x y)))

-- a name is met just where it is found
met-missing : (ps : List StackParam) (x : Name) (b : ℕ) (met : List Name) → is_some (position_from (named x) b ps) ≡ false → among x (met_by ps met) ≡ among x met
unfolding among
met-missing [] x b met h = refl
met-missing (p ∷ ps) x b met h = go (same x p.identifier) refl (met-missing ps x (b + 1) (p.identifier ∷ met)) h
  where
    go : (k : Bool) → same x p.identifier ≡ k → (is_some (position_from (named x) (b + 1) ps) ≡ false → among x (met_by ps (p.identifier ∷ met)) ≡ (same x p.identifier || among x met)) → is_some (cond k (Some b) (position_from (named x) (b + 1) ps)) ≡ false → among x (met_by ps (p.identifier ∷ met)) ≡ among x met
    go true q ih e = cc
    go false q ih e = ih e ∙ rw q

met-found : (ps : List StackParam) (x : Name) (b : ℕ) (met : List Name) → is_some (position_from (named x) b ps) ≡ true → among x (met_by ps met) ≡ true
unfolding among
met-found [] x b met h = cc
met-found (p ∷ ps) x b met h = go (same x p.identifier) refl (met-found ps x (b + 1) (p.identifier ∷ met)) h
  where
    go : (c : Bool) → same x p.identifier ≡ c → (is_some (position_from (named x) (b + 1) ps) ≡ true → among x (met_by ps (p.identifier ∷ met)) ≡ true) → is_some (cond c (Some b) (position_from (named x) (b + 1) ps)) ≡ true → among x (met_by ps (p.identifier ∷ met)) ≡ true
    go true q ih e = among-kept x (map (λ p. p.identifier) ps) (p.identifier ∷ met) (rw q)
    go false q ih e = ih e

-- the items qs being entered, what entering the items rs gives
unfoldable pub entered : List StackParam → List StackParam → Result Table
entered qs rs = enter (met_by qs []) rs >>= λ t. Ok (map fresh qs ++ t)

params-fresh : (qs : List StackParam) → params (map fresh qs) ≡ qs
params-fresh [] = refl
params-fresh (q ∷ qs) = rw (params-fresh qs)

bind_ok : {A B C : Type 0} (r : Result A) (f : A → B) (g : B → C) → (r >>= λ a. Ok (f a)) >>= (λ b. Ok (g b)) ≡ (r >>= λ a. Ok (g (f a)))
bind_ok (Ok a) f g = refl
bind_ok (Err x) f g = refl

bind-same : {A B : Type 0} (r : Result A) (f g : A → B) → ((a : A) → f a ≡ g a) → (r >>= λ a. Ok (f a)) ≡ (r >>= λ a. Ok (g a))
bind-same (Ok a) f g h = ap Ok (h a)
bind-same (Err x) f g h = refl

map_last : (qs : List StackParam) (q : StackParam) → map fresh (qs ++ (q ∷ [])) ≡ map fresh qs ++ (fresh q ∷ [])
map_last [] q = refl
map_last (p ∷ qs) q = rw (map_last qs q)

names-last : (qs : List StackParam) (q : StackParam) (met : List Name) → met_by (qs ++ (q ∷ [])) met ≡ q.identifier ∷ met_by qs met
names-last [] q met = refl
names-last (p ∷ qs) q met = names-last qs q (p.identifier ∷ met)

module _ (qs : List StackParam) (q : StackParam) (rs : List StackParam) where
  entered-twice : is_some (found_in qs q.identifier) ≡ true → entered qs (q ∷ rs) ≡ refuse DuplicateVariable q.loc
  unfolding entered enter
  entered-twice h = rw (met-found qs q.identifier 0 [] h, enter)

  entered-more : is_some (found_in qs q.identifier) ≡ false → entered (qs ++ (q ∷ [])) rs ≡ entered qs (q ∷ rs)
  unfolding entered enter among
  entered-more h =
      sym (rw (met-missing qs q.identifier 0 [] h, enter)
      (bind_ok (enter (q.identifier ∷ met_by qs []) rs) (λ t. fresh q ∷ t) (λ t. map fresh qs ++ t)
      ∙ bind-same (enter (q.identifier ∷ met_by qs []) rs) (λ t. map fresh qs ++ (fresh q ∷ t)) (λ t. map fresh (qs ++ (q ∷ [])) ++ t) (λ t. sym (rw (map_last qs q) (append_assoc (map fresh qs) (fresh q ∷ []) t)))
      ∙ rw (← names-last qs q [])))

-- ---- a path with one more item

table_more : (s t : List ℕ) (qs : List NamePlace) (n : ℕ) (q : NamePlace) → n < length qs → table_from s t (set qs n q) 0 (suc n) ≡ table_from s t qs 0 n ++ (fresh (item_in s t q.row) ∷ [])
unfolding table_from taken_by
table_more s t [] n q h = absurd (omega arith)
table_more s t (p ∷ []) zero q h = refl
table_more s t (p ∷ r ∷ qs) zero q h = refl
table_more s t (p ∷ qs) (suc n) q h = rw (table_more s t qs n q (omega arith))

module _ {s t : List ℕ} {p : Path} (w : WellFormed s t p) (row : ℕ) (lt : p.count < 32) (named : NamedRow s t row) where
  -- a position that is not the last keeps its place
  other : (k : ℕ) → (k ≡ p.count → ⊥) → get_or (added p row).places k no_place ≡ get_or p.places k no_place
  other k n = get_or-set_other p.places p.count k (record { row = row; line = 0 }) no_place n

  last : (k : ℕ) → k ≡ p.count → get_or (added p row).places k no_place ≡ record { row = row; line = 0 }
  last k e = ap (λ n. get_or (added p row).places n no_place) e ∙ get_or-set_same p.places p.count (record { row = row; line = 0 }) no_place (omega (arith, w.full))

  row_at : (k : ℕ) → k < p.count + 1 → NamedRow s t (get_or (added p row).places k no_place).row
  row_at k h = go (ltb k p.count) refl
    where
      go : (b : Bool) → ltb k p.count ≡ b → NamedRow s t (get_or (added p row).places k no_place).row
      go true e =
          let lower : k < p.count = ltb-true k p.count e in
          subst (λ (q : NamePlace). NamedRow s t q.row) (sym (other k (λ q. omega arith))) (row_named w k lower)
      go false e =
          let upper : p.count ≤ k = ltb-false k p.count e in
          subst (λ (q : NamePlace). NamedRow s t q.row) (sym (last k (omega arith))) named

  pub added-sound : p.taken ≡ 0 → WellFormed s t (added p row)
  added-sound e = record {
    full = simp length-set w.full;
    few = omega arith;
    within = rw e (pow_pos (p.count + 1));
    run = w.run;
    rows = λ k h. rw (get_or-map (λ (q : NamePlace). q.row) (set p.places p.count (record { row = row; line = 0 })) k no_place) (row_at k h);
  }

  added-table : p.taken ≡ 0 → table_of s t (added p row) ≡ table_of s t p ++ (fresh (item_in s t row) ∷ [])
  unfolding table_of
  added-table e = rw (e, add-one p.count) (table_more s t p.places p.count (record { row = row; line = 0 }) (omega (arith, w.full)))

  -- the row before those that are entered
  added-placed : {j : ℕ} → row + suc p.count ≡ j → Placed j p → Placed j (added p row)
  added-placed {j} e h = record {
    row = λ k i. row_of k i (ltb k p.count) refl;
    line = λ k f. line-of k f (eqb k p.count) refl;
    past = λ k i. other k (λ q. omega arith) ∙ h.past k (omega arith);
  }
    where
      row_of : (k : ℕ) → k < p.count + 1 → (b : Bool) → ltb k p.count ≡ b → (get_or (added p row).places k no_place).row + suc k ≡ j
      row_of k i true q =
          let lower : k < p.count = ltb-true k p.count q in
          ap (λ (x : NamePlace). x.row + suc k) (other k (λ z. omega arith)) ∙ h.row k lower
      row_of k i false q =
          let upper : p.count ≤ k = ltb-false k p.count q in
          let z : k ≡ p.count = omega arith in
          ap (λ (x : NamePlace). x.row + suc k) (last k z) ∙ ap (λ n. row + suc n) z ∙ e

      line-of : (k : ℕ) → is_taken p.taken k ≡ false → (b : Bool) → eqb k p.count ≡ b → (get_or (added p row).places k no_place).line ≡ 0
      line-of k f true q = ap (λ (x : NamePlace). x.line) (last k (eqb-true k p.count q))
      line-of k f false q = ap (λ (x : NamePlace). x.line) (other k (eqb-false k p.count q)) ∙ h.line k f

pub none-sound : (s t : List ℕ) → WellFormed s t (record { places = replicate 32 no_place; count = 0; taken = 0 })
none-sound s t = record { full = refl; few = omega arith; within = omega arith; run = run_none; rows = λ k h. absurd (omega arith) }

none-at : (n k : ℕ) → ◌≡◌ {A = NamePlace} (get_or (replicate n no_place) k no_place) no_place
none-at zero k = refl
none-at (suc n) zero = refl
none-at (suc n) (suc k) = none-at n k

none-placed : (j : ℕ) → Placed j (record { places = replicate 32 no_place; count = 0; taken = 0 })
none-placed j = record { row = λ k h. absurd (omega arith); line = λ k h. ap (λ (x : NamePlace). x.line) (none-at 32 k); past = λ k h. none-at 32 k }

-- ---- the loop over `count` items from row `first` on: k of them are entered, the last declared first

down-length : (s t : List ℕ) (i n : ℕ) → length (items_down s t i n) ≡ n
unfolding items_down
down-length s t i zero = refl
down-length s t i (suc n) = ap suc (down-length s t i n)

down-item : (s t : List ℕ) (i n k : ℕ) (d : StackParam) → k < n → get_or (items_down s t i n) k d ≡ item_in s t (i + (n - 1 - k))
unfolding items_down
down-item s t i zero k d h = absurd (omega arith)
down-item s t i (suc n) zero d h = let e : suc n - 1 - 0 ≡ n = omega arith in rw e
down-item s t i (suc n) (suc k) d h = let e : suc n - 1 - suc k ≡ n - 1 - k = omega arith in rw e (down-item s t i n k d (omega arith))

pub record Building (s t : List ℕ) (first count k : ℕ) (p : Path) : Type 0 where
  pub sound : WellFormed s t p
  pub placed : Placed (first + count) p
  pub entries : p.count ≡ k
  pub untouched : p.taken ≡ 0
  pub table : table_of s t p ≡ map fresh (take k (items_down s t first count))
  pub rest : entered (take k (items_down s t first count)) (drop k (items_down s t first count)) ≡ enter [] (items_down s t first count)

pub build-start : (s t : List ℕ) (first count : ℕ) {p : Path} → p ≡ record { places = replicate 32 no_place; count = 0; taken = 0 } → Building s t first count 0 p
unfolding entered table_of table_from
build-start s t first count e = rw e (record { sound = none-sound s t; placed = none-placed (first + count); entries = refl; untouched = refl; table = refl; rest = bind-id (enter [] (items_down s t first count)) })
  where
    bind-id : (r : Result Table) → (r >>= λ t. Ok t) ≡ r
    bind-id (Ok a) = refl
    bind-id (Err x) = refl

-- the items at hand: those entered, the next, those to come
module _ (s t : List ℕ) (first count k : ℕ) (lt : k < count) where
  next-item : StackParam
  next-item = item_in s t (first + (count - 1 - k))

  come : drop k (items_down s t first count) ≡ next-item ∷ drop (suc k) (items_down s t first count)
  unfolding next-item
  come =
      let l = items_down s t first count in
      drop-cons l k next-item (omega (arith, down-length s t first count)) ∙ ap (λ q. q ∷ drop (suc k) l) (down-item s t first count k next-item lt)

  gone : take (suc k) (items_down s t first count) ≡ take k (items_down s t first count) ++ (next-item ∷ [])
  unfolding next-item
  gone =
      let l = items_down s t first count in
      take-suc l k next-item (omega (arith, down-length s t first count)) ∙ ap (λ q. take k l ++ (q ∷ [])) (down-item s t first count k next-item lt)

spelled : (s t : List ℕ) (first count : ℕ) (d : Declaration) → SpellsItems (line_in t) StackParam (item s) count first d (first + count) → enter [] (items_down s t first count) ≡ build d
unfolding build
spelled s t first count d sp = rw (← items-are s t sp)

module _ {s t : List ℕ} {first count k : ℕ} {p : Path} (b : Building s t first count k p) where
  -- the end: what is built is the declaration's that stands at these rows
  pub build-done : {r : Result Path} → count ≤ k → r ≡ Ok p → (d : Declaration) → SpellsItems (line_in t) StackParam (item s) count first d (first + count) → Built s t d (first + count) r
  unfolding entered enter
  build-done h e d sp =
      let l = items_down s t first count in
      let all : length l ≤ k = omega (arith, down-length s t first count) in
      let whole : entered (take k l) (drop k l) ≡ Ok (table_of s t p) = rw (drop_of_length-le l all) (ap Ok (append-nil (map fresh (take k l)) ∙ sym b.table)) in
      record {
        result = rw e (sym whole ∙ b.rest ∙ spelled s t first count d sp);
        onward = λ q o. let m : p ≡ q = cc in rw (← m) (b.sound, b.placed);
      }

  module _ (lt : k < count) (it : Item) (is : line_in t (first + (count - 1 - k)) ≡ line_of it) where
    what : next-item s t first count k lt ≡ item s it.loc it.ty it.name
    unfolding next-item
    what = item-is s t (first + (count - 1 - k)) it is

    -- whether the next name is found among those entered
    found : {b : Bool} → b ≡ is_some (found_in (params (table_of s t p)) (part s it.name)) → is_some (found_in (take k (items_down s t first count)) (next-item s t first count k lt).identifier) ≡ b
    found h = sym (h ∙ ap₂ (λ ps x. is_some (found_in ps x)) (ap params b.table ∙ params-fresh (take k (items_down s t first count))) (ap (λ q. q.identifier) (sym what)))

    pub build-twice : {r : Result Path} → true ≡ is_some (found_in (params (table_of s t p)) (part s it.name)) → r ≡ Err (fault DuplicateVariable it.loc) → (d : Declaration) → SpellsItems (line_in t) StackParam (item s) count first d (first + count) → Built s t d (first + count) r
    build-twice h e d sp =
        let l = items_down s t first count in
        let q = next-item s t first count k lt in
        let fault-is : entered (take k l) (drop k l) ≡ refuse DuplicateVariable it.loc = ap (entered (take k l)) (come s t first count k lt) ∙ entered-twice (take k l) q (drop (suc k) l) (found h) ∙ ap (λ y. refuse DuplicateVariable y.loc) what in
        record { result = rw e (sym fault-is ∙ b.rest ∙ spelled s t first count d sp); onward = λ q o. cc }

    pub build-more : false ≡ is_some (found_in (params (table_of s t p)) (part s it.name)) → count ≤ 32 → NamedRow s t (first + (count - 1 - k)) → Building s t first count (k + 1) (added p (first + (count - 1 - k)))
    unfolding next-item
    build-more h few named =
        let l = items_down s t first count in
        let q = next-item s t first count k lt in
        let room : p.count < 32 = omega (arith, b.entries) in
        rw (add-one k) (record {
          sound = added-sound b.sound (first + (count - 1 - k)) room named b.untouched;
          placed = added-placed b.sound (first + (count - 1 - k)) room named (omega (arith, b.entries)) b.placed;
          entries = omega (arith, b.entries);
          untouched = b.untouched;
          table = added-table b.sound (first + (count - 1 - k)) room named b.untouched ∙ ap (λ tb. tb ++ (fresh q ∷ [])) b.table ∙ sym (map_last (take k l) q) ∙ ap (map fresh) (sym (gone s t first count k lt));
          rest = ap (λ ps. entered ps (drop (suc k) l)) (gone s t first count k lt) ∙ entered-more (take k l) q (drop (suc k) l) (found h) ∙ ap (entered (take k l)) (sym (come s t first count k lt)) ∙ b.rest;
        })

pub at_count : {s t : List ℕ} {first count k : ℕ} (p : Path) (row : ℕ) {n : ℕ} → p.count ≡ n → Building s t first count k (added p row) → Building s t first count k (added_at n p row)
at_count {s} {t} {first} {count} {k} p row e b = subst (λ n. Building s t first count k (added_at n p row)) e b

-- A path's table position by position.
use Prim.Native.Nat.{ℕ, zero, suc, ◌+◌, ◌-◌, ◌*◌, ◌/◌, ◌%◌, ◌≤◌, ◌<◌}
use native.Mathlib.Omega.{arith}
use mathlib.Core.Bool.{Bool, true, false, ◌||◌}
use mathlib.Core.List.{List, [], ◌∷◌, map}
use mathlib.Core.Logic.{◌⊎◌, inl, inr}
use mathlib.Core.Option.{Option, some, none}
use mathlib.Core.Path.{◌≡◌, refl, sym, ap, ap₂, ◌∙◌, subst}
use borrow.Author.Tests.{lt-ltb, le-ltb, eq-eqb, eqb-true, eqb-false}
use lib.Dec.{ltb, leb-suc-suc}
use lib.ListN.{length, get_or, drop, get_elem?, set, length-set, get_or-map}
use lib.Seq.{drop-cons, map-set_same, get_or-set_other}
use Rattle.std.specs.Prelude.{Ok, Some, None, Option as StdOption}
use Rattle.std.specs.List.{position_from}
use Rattle.ast.specs.declared.Location.{Location}
use Rattle.ast.specs.declared.ErrorKind.TheVariants.{UndefinedVariable, VariableConsumed, InvalidConsumptionOrder}
use Rattle.ast.specs.Tree.{Name, same, StackParam}
use Rattle.text.specs.Text.{part}
use Rattle.rows.specs.Rows.{line_in}
use Rattle.rules.specs.Result.{refuse}
use Rattle.rules.specs.Table.{Entry, Table, params}
use Rattle.rules.specs.Usage.{take, free, mark as mark_entry}
use Rattle.rules.proofs.ByPosition.{find, free_below, take_item, take_found, take_found_lem}
use Rattle.names.specs.declared.Item.{Item}
use Rattle.names.specs.Items.{NamedRow, line_of, item_in, found_in}
use Rattle.names.proofs.Laws.{named, name-is}
use Rattle.paths.specs.declared.NamePlace.{NamePlace}
use Rattle.paths.specs.declared.Path.{Path}
use Rattle.taken.specs.Taken.{bit_at, is_taken, with_bit, free_in, first_free}
use Rattle.paths.specs.Path.{taken_by, table_from, table_of, no_place, rows_of, WellFormed, SameItems, marked}
use Rattle.taken.proofs.Bits.{parity, free-even, free-odd, bit-within, bit-same, bit-keeps, taken-bit, free-bit, run_more}

-- ---- the items of a path

module _ (s t : List ℕ) where
  unfoldable pub items_from : List NamePlace → ℕ → List StackParam
  items_from [] n = []
  items_from (q ∷ qs) zero = []
  items_from (q ∷ qs) (suc n) = item_in s t q.row ∷ items_from qs n

  pub params-from : (qs : List NamePlace) (x n : ℕ) → params (table_from s t qs x n) ≡ items_from qs n
  unfolding table_from items_from
  params-from [] x n = refl
  params-from (q ∷ qs) x zero = refl
  params-from (q ∷ qs) x (suc n) = rw (params-from qs (x / 2) n)

  -- the items depend on the rows alone
  rows-items : (qs rs : List NamePlace) (n : ℕ) → map (λ q. q.row) qs ≡ map (λ q. q.row) rs → items_from qs n ≡ items_from rs n
  unfolding items_from
  rows-items [] [] n h = refl
  rows-items [] (r ∷ rs) n h = cc
  rows-items (q ∷ qs) [] n h = cc
  rows-items (q ∷ qs) (r ∷ rs) zero h = refl
  rows-items (q ∷ qs) (r ∷ rs) (suc n) h =
      let e : q.row ≡ r.row = cc in
      let f : map (λ (q : NamePlace). q.row) qs ≡ map (λ (q : NamePlace). q.row) rs = cc in
      rw (e, rows-items qs rs n f)

  -- paths of the same items have tables of the same items
  pub items-params : {p q : Path} → SameItems p q → params (table_of s t q) ≡ params (table_of s t p)
  unfolding table_of
  items-params {p} {q} i = params-from q.places q.taken q.count ∙ rows-items q.places p.places q.count i.rows ∙ ap (items_from p.places) i.count ∙ sym (params-from p.places p.taken p.count)

  pub table-length : (qs : List NamePlace) (x n : ℕ) → length (table_from s t qs x n) ≤ n
  unfolding table_from
  table-length [] x n = omega arith
  table-length (q ∷ qs) x zero = omega arith
  table-length (q ∷ qs) x (suc n) = omega (arith, table-length qs (x / 2) n)

  -- the entry at position k
  unfoldable pub entry_at : List NamePlace → ℕ → ℕ → Entry
  entry_at qs x k = record { param = item_in s t (get_or qs k no_place).row; taken = taken_by (bit_at x k) (get_or qs k no_place).line }

  pub entry-at : (qs : List NamePlace) (x n k : ℕ) → k < n → n ≤ length qs → get_elem? (table_from s t qs x n) k ≡ some (entry_at qs x k)
  unfolding table_from entry_at bit_at
  entry-at [] x n k h le = absurd (omega arith)
  entry-at (q ∷ qs) x zero k h le = absurd (omega arith)
  entry-at (q ∷ qs) x (suc n) zero h le = refl
  entry-at (q ∷ qs) x (suc n) (suc k) h le = entry-at qs (x / 2) n k (omega arith) (omega arith)

  -- a position below k is free just where the first free one is below k; w is any width that holds the table
  free-below : (qs : List NamePlace) (x n k w : ℕ) → k ≤ n → n ≤ length qs → n ≤ w → free_below k (table_from s t qs x n) ≡ ltb (free_in w x) k
  unfolding table_from free_below taken_by free
  free-below qs x n zero w h le wide = sym (le-ltb (free_in w x) 0 (omega arith))
  free-below [] x n (suc k) w h le wide = absurd (omega arith)
  free-below (q ∷ qs) x zero (suc k) w h le wide = absurd (omega arith)
  free-below (q ∷ qs) x (suc n) (suc k) zero h le wide = absurd (omega arith)
  free-below (q ∷ qs) x (suc n) (suc k) (suc w) h le wide = go (parity x) (free-below qs (x / 2) n k w (omega arith) (omega arith) (omega arith))
    where
      go : (x % 2 ≡ 0) ⊎ (x % 2 ≡ 1) → free_below k (table_from s t qs (x / 2) n) ≡ ltb (free_in w (x / 2)) k → (free (taken_by (x % 2) q.line) || free_below k (table_from s t qs (x / 2) n)) ≡ ltb (free_in (suc w) x) (suc k)
      go (inl e) ih = rw (free-even w x e, e) (sym (lt-ltb 0 (suc k) (omega arith)))
      go (inr e) ih = rw (free-odd w x e, e) (ih ∙ sym (leb-suc-suc (suc (free_in w (x / 2))) k))

  -- the entry at position k taken by the line l
  pub mark-at : (qs : List NamePlace) (x n k l : ℕ) → k < n → n ≤ length qs → set (table_from s t qs x n) k (mark_entry l (entry_at qs x k)) ≡ table_from s t (set qs k (record { row = (get_or qs k no_place).row; line = l })) (with_bit x k) n
  unfolding table_from entry_at bit_at with_bit taken_by
  mark-at [] x n k l h le = absurd (omega arith)
  mark-at (q ∷ qs) x zero k l h le = absurd (omega arith)
  mark-at (q ∷ qs) x (suc n) zero l h le =
      let low : (x / 2 * 2 + 1) % 2 ≡ 1 = omega arith in
      let rest : (x / 2 * 2 + 1) / 2 ≡ x / 2 = omega arith in
      rw (low, rest)
  mark-at (q ∷ qs) x (suc n) (suc k) l h le =
      let low : (with_bit (x / 2) k * 2 + x % 2) % 2 ≡ x % 2 = omega arith in
      let rest : (with_bit (x / 2) k * 2 + x % 2) / 2 ≡ with_bit (x / 2) k = omega arith in
      rw (low, rest, mark-at qs (x / 2) n k l (omega arith) (omega arith))

-- the row of a position
pub row_named : {s t : List ℕ} {p : Path} → WellFormed s t p → (k : ℕ) → k < p.count → NamedRow s t (get_or p.places k no_place).row
row_named {s} {t} {p} w k h = rw (← get_or-map (λ (q : NamePlace). q.row) p.places k no_place) (w.rows k h)

-- ---- the position of a name

-- where the position i, counted from b, is
abbrev at_from : ℕ → Option ℕ → StdOption ℕ
at_from b none = None
at_from b (some i) = Some (b + i)

found-find : (tb : Table) (x : Name) (b : ℕ) → position_from (named x) b (params tb) ≡ at_from b (find x tb)
unfolding find
found-find [] x b = refl
found-find (e ∷ tb) x b = go (same x e.param.identifier) refl (found-find tb x (b + 1))
  where
    later : (o : Option ℕ) → at_from (b + 1) o ≡ at_from b (elim o as (λ o'. Option ℕ) [ none ↦ none | some i ↦ some (suc i) ])
    later none = refl
    later (some i) = let e : b + 1 + i ≡ b + suc i = omega arith in ap Some e

    go : (k : Bool) → same x e.param.identifier ≡ k → position_from (named x) (b + 1) (params tb) ≡ at_from (b + 1) (find x tb) → position_from (named x) b (params (e ∷ tb)) ≡ at_from b (find x (e ∷ tb))
    go true q ih = let z : b ≡ b + 0 = omega arith in rw q (rw (q, find) (ap Some z))
    go false q ih = rw q (rw (q, find) (ih ∙ later (find x tb)))

find-missing : (tb : Table) (x : Name) → found_in (params tb) x ≡ None → find x tb ≡ none
find-missing tb x e = go (find x tb) refl (sym (found-find tb x 0) ∙ e)
  where
    go : (o : Option ℕ) → find x tb ≡ o → at_from 0 (find x tb) ≡ None → find x tb ≡ none
    go none q h = q
    go (some i) q h = let a : Some (0 + i) ≡ None = sym (ap (at_from 0) q) ∙ h in cc

find-some : (tb : Table) (x : Name) (k : ℕ) → found_in (params tb) x ≡ Some k → find x tb ≡ some k
find-some tb x k e = go (find x tb) refl (sym (found-find tb x 0) ∙ e)
  where
    go : (o : Option ℕ) → find x tb ≡ o → at_from 0 (find x tb) ≡ Some k → find x tb ≡ some k
    go none q h = let a : None ≡ Some k = sym (ap (at_from 0) q) ∙ h in cc
    go (some i) q h = let a : Some (0 + i) ≡ Some k = sym (ap (at_from 0) q) ∙ h in let n : 0 + i ≡ k = cc in q ∙ ap some (omega arith)

find-below : (tb : Table) (x : Name) (k : ℕ) → find x tb ≡ some k → k < length tb
unfolding find
find-below [] x k e = cc
find-below (e ∷ tb) x k h = go (same x e.param.identifier) refl (find x tb) refl (find-below tb x)
  where
    go : (b : Bool) → same x e.param.identifier ≡ b → (o : Option ℕ) → find x tb ≡ o → ((k : ℕ) → find x tb ≡ some k → k < length tb) → k < suc (length tb)
    go true q o w ih = let a : some 0 ≡ some k = sym (rw (q, find)) ∙ h in let i : 0 ≡ k = cc in omega arith
    go false q none w ih = let a : ◌≡◌ {A = Option ℕ} none (some k) = sym (rw (q, find) (rw w)) ∙ h in cc
    go false q (some i) w ih = let a : some (suc i) ≡ some k = sym (rw (q, find) (rw w)) ∙ h in let n : suc i ≡ k = cc in omega (arith, ih i w)

-- the position found is one of the path's
pub found_below : (s t : List ℕ) (p : Path) (x : Name) {k : ℕ} → found_in (params (table_of s t p)) x ≡ Some k → k < p.count
unfolding table_of
found_below s t p x {k} e = let tb = table_from s t p.places p.taken p.count in omega (arith, find-below tb x k (find-some tb x k e), table-length s t p.places p.taken p.count)

-- the loop from the top down over a path's items, k of which have another name
module _ (s t : List ℕ) (p : Path) (k : ℕ) (x : Name) where
  abbrev pub Left : Type 0
  Left = position_from (named x) k (items_from s t (drop k p.places) (p.count - k)) ≡ position_from (named x) 0 (items_from s t p.places p.count)

  pub find-done : (r : StdOption ℕ) → r ≡ position_from (named x) 0 (items_from s t p.places p.count) → r ≡ found_in (params (table_of s t p)) x
  unfolding table_of
  find-done r e = e ∙ sym (ap (λ ps. position_from (named x) 0 ps) (params-from s t p.places p.taken p.count))

  pub find_none : Left → p.count ≤ k → None ≡ position_from (named x) 0 (items_from s t p.places p.count)
  unfolding items_from
  find_none h le = let e : p.count - k ≡ 0 = omega arith in sym (ap (λ n. position_from (named x) k (items_from s t (drop k p.places) n)) e ∙ go (drop k p.places)) ∙ h
    where
      go : (qs : List NamePlace) → position_from (named x) k (items_from s t qs 0) ≡ None
      go [] = refl
      go (q ∷ qs) = refl

  module _ (full : length p.places ≡ 32) (few : p.count ≤ 32) (lt : k < p.count) (it : Item) (is : line_in t (get_or p.places k no_place).row ≡ line_of it) where
    items_at : items_from s t (drop k p.places) (p.count - k) ≡ item_in s t (get_or p.places k no_place).row ∷ items_from s t (drop (k + 1) p.places) (p.count - (k + 1))
    unfolding items_from
    items_at = let a : k + 1 ≡ suc k = omega arith in let e : p.count - k ≡ suc (p.count - suc k) = omega arith in rw (a, e, drop-cons p.places k no_place (omega arith))

    pub find-here : Left → true ≡ same x (part s it.name) → Some k ≡ position_from (named x) 0 (items_from s t p.places p.count)
    find-here h e = sym (rw items_at (rw (name-is s t (get_or p.places k no_place).row it is x e))) ∙ h

    pub find-next : Left → false ≡ same x (part s it.name) → position_from (named x) (k + 1) (items_from s t (drop (k + 1) p.places) (p.count - (k + 1))) ≡ position_from (named x) 0 (items_from s t p.places p.count)
    find-next h e = sym (rw items_at (rw (name-is s t (get_or p.places k no_place).row it is x e))) ∙ h

-- ---- position k taken by line n

marked-rows : (p : Path) (k n : ℕ) → rows_of (marked p k n) ≡ rows_of p
marked-rows p k n = map-set_same (λ (q : NamePlace). q.row) p.places k (record { row = (get_or p.places k no_place).row; line = n }) no_place refl

pub marked-items : (p : Path) (k n : ℕ) → SameItems p (marked p k n)
unfolding is_taken
marked-items p k n = record {
  rows = marked-rows p k n;
  count = refl;
  more = λ j h. eq-eqb (bit_at (with_bit p.taken k) j) 1 (bit-keeps p.taken k j (eqb-true (bit_at p.taken j) 1 h));
  rest = λ j h. get_or-set_other p.places k j (record { row = (get_or p.places k no_place).row; line = n }) no_place (λ e. eqb-false (bit_at (with_bit p.taken k) j) 1 h (subst (λ m. bit_at (with_bit p.taken k) m ≡ 1) (sym e) (bit-same p.taken k)));
}

-- one of those taken, or the next
pub marked-sound : {s t : List ℕ} {p : Path} → WellFormed s t p → (k n : ℕ) → k < p.count → k ≤ first_free p.taken → WellFormed s t (marked p k n)
marked-sound {s} {t} {p} w k n h le = record {
  full = simp length-set w.full;
  few = w.few;
  within = bit-within p.count p.taken k h w.within;
  run = run_more p.taken k le (omega (arith, w.few)) w.run;
  rows = λ m lt. subst (λ (l : List ℕ). NamedRow s t (get_or l m 0)) (sym (marked-rows p k n)) (w.rows m lt);
}

-- the four answers to a variable
module _ {s t : List ℕ} {p : Path} (w : WellFormed s t p) (l : Location) (n : ℕ) (x : Name) where
  pub take-unknown : found_in (params (table_of s t p)) x ≡ None → take false l n x (table_of s t p) ≡ refuse UndefinedVariable l
  unfolding take_found
  take-unknown e = take_found_lem false l n x (table_of s t p) ∙ rw (find-missing (table_of s t p) x e)

  module _ {k : ℕ} (e : found_in (params (table_of s t p)) x ≡ Some k) where
    lt : k < p.count
    lt = found_below s t p x e

    -- the rule at the position found
    at : take false l n x (table_of s t p) ≡ take_item (ltb (first_free p.taken) k) l n k (table_of s t p) (some (entry_at s t p.places p.taken k))
    unfolding take_found table_of first_free
    at =
        take_found_lem false l n x (table_of s t p)
        ∙ ap (take_found false l n (table_of s t p)) (find-some (table_of s t p) x k e)
        ∙ ap₂ (λ (g : Bool) (o : Option Entry). take_item g l n k (table_of s t p) o) (free-below s t p.places p.taken p.count k 32 (omega (arith, lt)) (omega (arith, w.full, w.few)) w.few) (entry-at s t p.places p.taken p.count k lt (omega (arith, w.full, w.few)))

    pub take-taken : is_taken p.taken k ≡ true → take false l n x (table_of s t p) ≡ refuse VariableConsumed l
    unfolding take_item entry_at taken_by
    take-taken b = at ∙ rw (taken-bit p.taken k b)

    pub take-early : is_taken p.taken k ≡ false → first_free p.taken < k → take false l n x (table_of s t p) ≡ refuse InvalidConsumptionOrder l
    unfolding take_item entry_at taken_by
    take-early b h = at ∙ rw (free-bit p.taken k b, lt-ltb (first_free p.taken) k h)

    pub take_next : is_taken p.taken k ≡ false → k ≤ first_free p.taken → take false l n x (table_of s t p) ≡ Ok (table_of s t (marked p k n))
    unfolding take_item entry_at taken_by table_of
    take_next b h = at ∙ rw (free-bit p.taken k b, le-ltb (first_free p.taken) k h) (ap Ok (mark-at s t p.places p.taken p.count k n lt (omega (arith, w.full, w.few))))

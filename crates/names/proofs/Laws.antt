-- The items of a declaration by their rows, and the position of a name among them.
use Prim.Native.Nat.{ℕ, zero, suc, ◌+◌, ◌-◌, ◌≤◌, ◌<◌}
use native.Mathlib.Omega.{arith}
use mathlib.Core.Bool.{Bool, true, false, cond}
use mathlib.Core.List.{List, [], ◌∷◌, ◌++◌, reverse, reverse-cons, reverse-reverse}
use mathlib.Core.Option.{some, none}
use mathlib.Core.Path.{◌≡◌, refl, sym, ap, ap₂, ◌∙◌, subst}
use lib.ListN.{length, get_or, get_elem?}
use Rattle.std.specs.Prelude.{Option, Some, None}
use Rattle.std.specs.List.{position_from}
use Rattle.std.proofs.lemmas.Grind.{same_number_lists}
use Rattle.ast.specs.Tree.{Name, same, StackParam, Declaration, from_top}
use Rattle.text.specs.Text.{part}
use Rattle.listing.specs.Kinds.{part_of}
use Rattle.rows.specs.Rows.{line_in}
use Rattle.reader.specs.Reading.{item}
use Rattle.reader.specs.Spells.{SpellsItems}
use Rattle.reader.proofs.Items.{items-end}
use Rattle.rules.specs.Types.{type_of}
use Rattle.rules.proofs.Basics.{same_refl, same_not}
use Rattle.nodes.specs.Stands.{Rows}
use Rattle.names.specs.declared.Item.{Item}
use Rattle.names.specs.Items.{ItemsAt, line_of, Inside, NamedRow, item_of, item_in, items_down, found_in}

-- ---- two names, byte by byte

module _ (a b : List ℕ) where
  pub lengths_differ : (length a ≡ length b → ⊥) → false ≡ same a b
  lengths_differ h = sym (same_not a b (λ e. h (ap length e)))

  pub byte_differs : (k : ℕ) → (get_or a k 0 ≡ get_or b k 0 → ⊥) → false ≡ same a b
  byte_differs k d = sym (same_not a b (λ e. d (ap (λ x. get_or x k 0) e)))

  pub bytes_agree : length a ≡ length b → ((k : ℕ) → 0 ≤ k → k < length a → get_or a k 0 ≡ get_or b k 0) → true ≡ same a b
  bytes_agree l h = let e : a ≡ b = same_number_lists a b l (λ k lt. h k (omega arith) lt) in sym (rw e (same_refl b))

-- ---- rows of items

module _ (s t : List ℕ) where
  -- what a row's line says of its item
  pub item-is : (i : ℕ) (p : Item) → line_in t i ≡ line_of p → item_in s t i ≡ item s p.loc p.ty p.name
  unfolding item_in item_of
  item-is i p e = rw e

  pub name-inside : {i : ℕ} (p : Item) → NamedRow s t i → line_in t i ≡ line_of p → Inside s p.name
  name-inside p h e =
      let q : line_of h.holds.held ≡ line_of p = sym h.holds.is ∙ e in
      let n : h.holds.held.name ≡ p.name = cc in
      subst (λ x. Inside s x) n h.inside

  -- the test of a name against a row's
  pub name-is : (i : ℕ) (p : Item) → line_in t i ≡ line_of p → (x : Name) {b : Bool} → b ≡ same x (part s p.name) → same x (item_in s t i).identifier ≡ b
  name-is i p is x e = ap (λ q. same x q.identifier) (item-is i p is) ∙ sym e

  abbrev Spells : ℕ → ℕ → Declaration → ℕ → Type 0
  Spells n i d j = SpellsItems (line_in t) StackParam (item s) n i d j

  down-last : (i n : ℕ) → items_down s t (suc i) n ++ (item_in s t i ∷ []) ≡ items_down s t i (suc n)
  unfolding items_down
  down-last i zero = let e : i + 0 ≡ i = omega arith in rw e
  down-last i (suc n) = let e : suc i + n ≡ i + suc n = omega arith in rw (e, down-last i n)

  -- rows spell one declaration only: their items, from the last row up
  pub items-are : {n i j : ℕ} {d : Declaration} → Spells n i d j → from_top d ≡ items_down s t i n
  unfolding items_down item_in item_of
  items-are SpellsItems.nil = refl
  items-are (SpellsItems.cons {i = i} {n = n} {l = l} {t = ty} {x = x} {p = p} {d = d} q r u) =
      reverse-cons p d ∙ ap₂ (λ (a b : List StackParam). a ++ b) (items-are u) (ap (λ y. y ∷ []) (r ∙ sym (item-is i (record { loc = l; ty = ty; name = x }) q))) ∙ down-last i n

  named-row : {n i j c : ℕ} {d : Declaration} → Spells n i d j → j ≤ c → Rows s t c → (k : ℕ) → k < n → NamedRow s t (i + k)
  unfolding part_of
  named-row {c = c} (SpellsItems.nil {i = i}) h rows k lt = elim lt [ ]
  named-row {i = i} (SpellsItems.cons {l = l} {t = ty} {x = x} q r u) h rows zero lt =
      let e : i + 0 ≡ i = omega arith in
      rw e (record {
        holds = record { held = record { loc = l; ty = ty; name = x }; is = q; room = omega (arith, rows.room, items-end u) };
        inside = rows.parts i (omega (arith, items-end u)) x (ap part_of q);
      })
  named-row {i = i} (SpellsItems.cons q r u) h rows (suc k) lt =
      let e : suc i + k ≡ i + suc k = omega arith in subst (λ m. NamedRow s t m) e (named-row u h rows k (omega arith))

  -- each row of items that stand
  pub items-named : {n i : ℕ} → ItemsAt s t n i → (k : ℕ) → k < n → NamedRow s t (i + k)
  items-named st k h = named-row st.spells st.within st.rows k h

-- ---- the position of a name

-- whether an item has a name
abbrev pub named : Name → StackParam → Bool
named x p = same x p.identifier

found_here : (s t : List ℕ) (i n k : ℕ) (x : Name) → named x (item_in s t (i + n)) ≡ true → position_from (named x) k (items_down s t i (suc n)) ≡ Some k
unfolding items_down
found_here s t i n k x e = rw e

found-next : (s t : List ℕ) (i n k : ℕ) (x : Name) → named x (item_in s t (i + n)) ≡ false → position_from (named x) (k + 1) (items_down s t i n) ≡ position_from (named x) k (items_down s t i (suc n))
unfolding items_down
found-next s t i n k x e = rw e

found_none : (s t : List ℕ) (i k : ℕ) (x : Name) → position_from (named x) k (items_down s t i 0) ≡ None
unfolding items_down
found_none s t i k x = refl

-- the loop from the top down over `count` items, k of which have another name
module _ (s t : List ℕ) (first count k : ℕ) (x : Name) where
  abbrev pub Left : Type 0
  Left = position_from (named x) k (items_down s t first (count - k)) ≡ position_from (named x) 0 (items_down s t first count)

  -- its end, for the declaration that stands there
  pub find-done : (r : Option ℕ) → r ≡ position_from (named x) 0 (items_down s t first count) → (d : Declaration) → SpellsItems (line_in t) StackParam (item s) count first d (first + count) → r ≡ found_in (from_top d) x
  find-done r e d sp = e ∙ rw (items-are s t sp)

  pub find-missing : Left → count ≤ k → None ≡ position_from (named x) 0 (items_down s t first count)
  find-missing h le = let e : count - k ≡ 0 = omega arith in sym (ap (λ n. position_from (named x) k (items_down s t first n)) e ∙ found_none s t first k x) ∙ h

  module _ (lt : k < count) (p : Item) (is : line_in t (first + (count - 1 - k)) ≡ line_of p) where
    at : count - k ≡ suc (count - 1 - k)
    at = omega arith

    pub find-here : Left → true ≡ same x (part s p.name) → Some k ≡ position_from (named x) 0 (items_down s t first count)
    find-here h e = sym (found_here s t first (count - 1 - k) k x (name-is s t (first + (count - 1 - k)) p is x e)) ∙ rw (← at) h

    pub find-next : Left → false ≡ same x (part s p.name) → position_from (named x) (k + 1) (items_down s t first (count - (k + 1))) ≡ position_from (named x) 0 (items_down s t first count)
    find-next h e =
        let b : count - (k + 1) ≡ count - 1 - k = omega arith in
        rw b (found-next s t first (count - 1 - k) k x (name-is s t (first + (count - 1 - k)) p is x e) ∙ rw (← at) h)

-- ---- what a position says of a name's type

-- the item at the position found, and its type; b is the position of the first
record FoundAt (ps : List StackParam) (x : Name) (b k : ℕ) : Type 0 where
  place : ℕ
  param : StackParam
  from_first : k ≡ b + place
  there : get_elem? ps place ≡ some param
  typed : type_of ps x ≡ some param.ty

found_at : (ps : List StackParam) (x : Name) (b k : ℕ) → position_from (named x) b ps ≡ Some k → FoundAt ps x b k
unfolding type_of
found_at [] x b k e = cc
found_at (q ∷ ps) x b k e = go (named x q) refl (found_at ps x (b + 1) k) e
  where
    go : (t : Bool) → named x q ≡ t → (position_from (named x) (b + 1) ps ≡ Some k → FoundAt ps x (b + 1) k) → cond t (Some b) (position_from (named x) (b + 1) ps) ≡ Some k → FoundAt (q ∷ ps) x b k
    go true w f e = let i : b ≡ k = cc in record { place = 0; param = q; from_first = omega arith; there = refl; typed = rw (w, type_of) }
    go false w f e =
        let r = f e in
        record { place = suc r.place; param = r.param; from_first = omega (arith, r.from_first); there = r.there; typed = rw (w, type_of) r.typed }

found-missing : (ps : List StackParam) (x : Name) (b : ℕ) → position_from (named x) b ps ≡ None → type_of ps x ≡ none
unfolding type_of
found-missing [] x b e = refl
found-missing (q ∷ ps) x b e = go (named x q) refl (found-missing ps x (b + 1)) e
  where
    go : (t : Bool) → named x q ≡ t → (position_from (named x) (b + 1) ps ≡ None → type_of ps x ≡ none) → cond t (Some b) (position_from (named x) (b + 1) ps) ≡ None → type_of (q ∷ ps) x ≡ none
    go true w f e = cc
    go false w f e = rw (w, type_of) (f e)

-- the item at position m is that of row i + n - 1 - m
pub down-at : (s t : List ℕ) (i n m : ℕ) {p : StackParam} → get_elem? (items_down s t i n) m ≡ some p → (m < n) × (item_in s t (i + (n - 1 - m)) ≡ p)
unfolding items_down
down-at s t i zero m e = let z : ◌≡◌ {A = ℕ} 0 1 = cc in absurd (omega arith)
down-at s t i (suc n) zero {p} e = let r : suc n - 1 - 0 ≡ n = omega arith in let q : item_in s t (i + n) ≡ p = cc in (omega arith, rw r q)
down-at s t i (suc n) (suc m) e = let r : suc n - 1 - suc m ≡ n - 1 - m = omega arith in let h = down-at s t i n m e in (omega (arith, h.0), rw r h.1)

pub type-missing : (ps : List StackParam) (x : Name) → found_in ps x ≡ None → type_of ps x ≡ none
type-missing ps x e = found-missing ps x 0 e

module _ (s t : List ℕ) {n i j : ℕ} {d : Declaration} (sp : SpellsItems (line_in t) StackParam (item s) n i d j) where
  -- no other declaration stands there
  pub items-one : {j' : ℕ} {d' : Declaration} → SpellsItems (line_in t) StackParam (item s) n i d' j' → d ≡ d'
  items-one {j'} {d'} sp' = sym (reverse-reverse d) ∙ ap reverse (items-are s t sp ∙ sym (items-are s t sp')) ∙ reverse-reverse d'

  -- the type of a name that is found: that of its row
  pub type-found : (x : Name) {k : ℕ} → found_in (from_top d) x ≡ Some k → (k < n) × ((p : Item) → line_in t (i + (n - 1 - k)) ≡ line_of p → type_of (from_top d) x ≡ some p.ty)
  type-found x {k} e =
      let r = found_at (from_top d) x 0 k e in
      let same_place : r.place ≡ k = omega (arith, r.from_first) in
      let at : get_elem? (items_down s t i n) k ≡ some r.param = ap₂ (λ (l : List StackParam) (m : ℕ). get_elem? l m) (sym (items-are s t sp)) (sym same_place) ∙ r.there in
      let h = down-at s t i n k at in
      (h.0, λ p q. r.typed ∙ ap (λ y. some y.ty) (sym h.1 ∙ item-is s t (i + (n - 1 - k)) p q))

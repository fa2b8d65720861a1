-- Rows that spell declarations, whatever is kept of each item: where each declaration stands, and its items from the top.
use Prim.Native.Nat.{ℕ, zero, suc, ◌+◌, ◌-◌, ◌≤◌, ◌<◌}
use native.Mathlib.Numerals.{add-one}
use native.Mathlib.Omega.{arith}
use mathlib.Core.Bool.{Bool, true, false}
use mathlib.Core.List.{List, [], ◌∷◌, ◌++◌, map, reverse, reverse-cons}
use mathlib.Core.Option.{some, none}
use mathlib.Core.Path.{◌≡◌, refl, sym, ap, ap₂, ◌∙◌, subst}
use borrow.Author.Tests.{ltb-true, ltb-false}
use lib.Dec.{ltb}
use lib.ListN.{length, get_or, get_elem?, length-reverse}
use Rattle.ast.specs.declared.Location.{Location}
use Rattle.ast.specs.declared.Target.{Target}
use Rattle.ast.specs.declared.Type.{«Type» as ItemType}
use Rattle.text.specs.declared.Place.{Place}
use Rattle.listing.specs.declared.Line.{Line}
use Rattle.reader.specs.Spells.{SpellsItems, SpellsDeclarations}
use Rattle.reader.proofs.Agree.{declarations-on}
use Rattle.reader.proofs.Items.{items-end, items-count}
use Rattle.names.specs.declared.Item.{Item}
use Rattle.names.specs.Items.{line_of}
use Rattle.declarations.specs.Noted.{head_of, items_said, after_items, row_past, whole_item}

-- ---- the last of a list first

pub past : {A : Type 0} (xs : List A) (k : ℕ) → length xs ≤ k → get_elem? xs k ≡ none
past [] k h = refl
past (x ∷ xs) zero h = absurd (omega arith)
past (x ∷ xs) (suc k) h = past xs k (omega arith)

before : {A : Type 0} (xs ys : List A) (k : ℕ) → k < length xs → get_elem? (xs ++ ys) k ≡ get_elem? xs k
before [] ys k h = absurd (omega arith)
before (x ∷ xs) ys zero h = refl
before (x ∷ xs) ys (suc k) h = before xs ys k (omega arith)

last : {A : Type 0} (xs : List A) (y : A) → get_elem? (xs ++ (y ∷ [])) (length xs) ≡ some y
last [] y = refl
last (x ∷ xs) y = last xs y

-- ---- what a line says

pub head-said : {l : Line} {g : Target} {m : ℕ} → l ≡ Line.Contract g m → head_of l ≡ record { target = g; declarations = m }
unfolding head_of
head-said e = ap head_of e

pub said : {l : Line} {m : ℕ} → l ≡ Line.Declaration m → items_said l ≡ m
unfolding items_said
said e = ap items_said e

-- one declaration more
pub row_more : (L : ℕ → Line) (i p : ℕ) → row_past L i (suc p) ≡ after_items L (row_past L i p)
unfolding row_past
row_more L i zero = refl
row_more L i (suc p) = row_more L (after_items L i) p

module _ (L : ℕ → Line) (A : Type 0) (make : Location → ItemType → Place → A) where
  after_items_lem : {i j m : ℕ} {d : List A} → L i ≡ Line.Declaration m → SpellsItems L A make m (suc i) d j → j ≡ after_items L i
  unfolding after_items
  after_items_lem q u = omega (arith, items-end u, said q)

  -- a declaration at row i, its items d before row j
  pub record At (i : ℕ) (d : List A) (j : ℕ) : Type 0 where
    pub line : L i ≡ Line.Declaration (items_said (L i))
    pub items : SpellsItems L A make (items_said (L i)) (i + 1) d (i + 1 + items_said (L i))
    pub within : i + 1 + items_said (L i) ≤ j

  -- the one that p others precede
  pub declaration-at : {n i j : ℕ} {ds : List (List A)} → SpellsDeclarations L A make n i ds j → (p : ℕ) → p < n → At (row_past L i p) (get_or ds p []) j
  unfolding row_past
  declaration-at SpellsDeclarations.nil p lt = absurd (omega arith)
  declaration-at (SpellsDeclarations.cons {i = i} {m = m} {d = d} q u v) zero lt =
      let e : items_said (L i) ≡ m = said q in
      record {
        line = q ∙ ap Line.Declaration (sym e);
        items = rw (e, add-one i) (subst (λ j. SpellsItems L A make m (suc i) d j) (items-end u) u);
        within = omega (arith, e, items-end u, declarations-on L A make v);
      }
  declaration-at {j = k} (SpellsDeclarations.cons {ds = ds} q u v) (suc p) lt = subst (λ i. At (row_past L i p) (get_or ds p []) k) (after_items_lem q u) (declaration-at v p (omega arith))

  -- they end where the rows say
  pub declarations-end : {n i j : ℕ} {ds : List (List A)} → SpellsDeclarations L A make n i ds j → row_past L i n ≡ j
  unfolding row_past
  declarations-end SpellsDeclarations.nil = refl
  declarations-end (SpellsDeclarations.cons {n = n} q u v) = ap (λ i. row_past L i n) (sym (after_items_lem q u)) ∙ declarations-end v

  -- the item at position k from the top, among n items from row i on: its line, and what is kept of it
  abbrev pub FromTop : ℕ → ℕ → List A → ℕ → Type 0
  FromTop n i xs k = (q : Item) × (L (i + (n - 1 - k)) ≡ line_of q) × (get_elem? (reverse xs) k ≡ some (make q.loc q.ty q.name))

  pub item-from-top : {n i j : ℕ} {xs : List A} → SpellsItems L A make n i xs j → (k : ℕ) → k < n → FromTop n i xs k
  item-from-top SpellsItems.nil k lt = absurd (omega arith)
  item-from-top (SpellsItems.cons {i = i} {n = n} {l = l} {t = t} {x = x} {p = y} {d = d} q r u) k lt = go (ltb k n) refl (item-from-top u k)
    where
      many : length (reverse d) ≡ n
      many = length-reverse d ∙ items-count u

      go : (b : Bool) → ltb k n ≡ b → (k < n → FromTop n (suc i) d k) → FromTop (suc n) i (y ∷ d) k
      go true e ih =
          let g = ltb-true k n e in
          let a = ih g in
          let row : i + (suc n - 1 - k) ≡ suc i + (n - 1 - k) = omega arith in
          (a.0, ap L row ∙ a.1, ap (λ l. get_elem? l k) (reverse-cons y d) ∙ before (reverse d) (y ∷ []) k (omega (arith, many)) ∙ a.2)
      go false e ih =
          let g = ltb-false k n e in
          let m = many in
          let top : k ≡ length (reverse d) = omega arith in
          let row : i + (suc n - 1 - k) ≡ i = omega arith in
          (whole_item l t x, ap L row ∙ q, ap (λ l. get_elem? l k) (reverse-cons y d) ∙ ap (λ k. get_elem? (reverse d ++ (y ∷ [])) k) top ∙ last (reverse d) y ∙ ap some r)

  -- the items, kept whole
  abbrev kept : Item → A
  kept q = make q.loc q.ty q.name

  items-whole : {n i j : ℕ} {d : List A} → SpellsItems L A make n i d j → (qs : List Item) × SpellsItems L Item whole_item n i qs j × (d ≡ map kept qs)
  items-whole SpellsItems.nil = ([], SpellsItems.nil, refl)
  items-whole (SpellsItems.cons {l = l} {t = t} {x = x} q r u) = let h = items-whole u in (whole_item l t x ∷ h.0, SpellsItems.cons q refl h.1, ap₂ (λ a b. a ∷ b) r h.2)

  pub declarations-whole : {n i j : ℕ} {ds : List (List A)} → SpellsDeclarations L A make n i ds j → (qs : List (List Item)) × SpellsDeclarations L Item whole_item n i qs j × (ds ≡ map (map kept) qs)
  declarations-whole SpellsDeclarations.nil = ([], SpellsDeclarations.nil, refl)
  declarations-whole (SpellsDeclarations.cons q u v) =
      let g = items-whole u in
      let h = declarations-whole v in
      (g.0 ∷ h.0, SpellsDeclarations.cons q g.1 h.1, ap₂ (λ a b. a ∷ b) g.2 h.2)

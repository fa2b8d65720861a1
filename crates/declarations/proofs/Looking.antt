-- An item looked up by its path and its position from the top.
use Prim.Native.Nat.{ℕ, zero, suc, ◌+◌, ◌-◌, ◌≤◌, ◌<◌}
use native.Mathlib.Omega.{arith}
use mathlib.Core.Bool.{Bool, true, false}
use mathlib.Core.List.{List, [], ◌∷◌, map, reverse, reverse_aux}
use mathlib.Core.Option
use mathlib.Core.Option.{Option, some, none}
use mathlib.Core.Path.{◌≡◌, refl, sym, ap, ap₂, ◌∙◌}
use borrow.Author.Tests.{ltb-true, ltb-false}
use lib.Dec.{ltb}
use lib.ListN.{get_or, get_elem?, length-reverse, get_or-eq_default, get_or-map}
use Rattle.std.specs.Prelude.{Option as StdOption, Some, None}
use Rattle.std.proofs.lemmas.Option.{none-some}
use Rattle.ast.specs.Tree.{StackParam, Contract, from_top}
use Rattle.listing.specs.Kinds.{part_of}
use Rattle.rows.specs.Rows.{line_in}
use Rattle.reader.specs.Ceilings.{max_items}
use Rattle.reader.specs.Reading.{item}
use Rattle.reader.specs.Spells.{SpellsItems, SpellsContract}
use Rattle.rules.specs.Stack.{declaration_of}
use Rattle.names.specs.declared.Item.{Item}
use Rattle.names.specs.Items.{line_of, HoldsItem, Inside}
use Rattle.declarations.specs.declared.Declared.{Declared}
use Rattle.declarations.specs.Noted.{declared_in, whole_item, Declares, item_at, found}
use Rattle.declarations.specs.Items.{item_rows, ContractAt, DeclaredAs}
use Rattle.reader.proofs.Items.{items-count, declarations-count}
use Rattle.declarations.proofs.Standing.{past, item-from-top, declarations-whole}
use Rattle.declarations.proofs.Declaring.{head_few, count-is, items_of, declared-as}

-- ---- what stands at a position, of items that are kept in part

reverse-map : {A B : Type 0} (f : A → B) (xs ys : List A) → reverse_aux (map f xs) (map f ys) ≡ map f (reverse_aux xs ys)
reverse-map f [] ys = refl
reverse-map f (x ∷ xs) ys = reverse-map f xs (x ∷ ys)

pub element-map : {A B : Type 0} (f : A → B) (xs : List A) (k : ℕ) → get_elem? (map f xs) k ≡ Option.map f (get_elem? xs k)
element-map f [] k = refl
element-map f (x ∷ xs) zero = refl
element-map f (x ∷ xs) (suc k) = element-map f xs k

pub item-at-map : {A B : Type 0} (f : A → B) (ps : List (List A)) (path position : ℕ) → item_at (map (map f) ps) path position ≡ Option.map f (item_at ps path position)
unfolding item_at
item-at-map f ps path position = ap (λ xs. get_elem? (reverse xs) position) (get_or-map (map f) ps path []) ∙ ap (λ xs. get_elem? xs position) (reverse-map f (get_or ps path []) []) ∙ element-map f (reverse (get_or ps path [])) position

-- ---- the answer

pub found_none : {o : Option Item} → o ≡ none → None ≡ found o
found_none e = sym (ap found e)

pub found_some : {o : Option Item} {q : Item} → o ≡ some q → Some q ≡ found o
found_some e = sym (ap found e)

-- and back
pub found-is : (o : Option Item) {q : Item} → Some q ≡ found o → o ≡ some q
found-is none {q} e = absurd (none-some q (sym e))
found-is (some x) {q} e = let same : x ≡ q = cc in ap some same

pub found-not : (o : Option Item) → None ≡ found o → o ≡ none
found-not none e = refl
found-not (some x) e = absurd (none-some x e)

-- a line holds one item
same_item : {p q : Item} → line_of p ≡ line_of q → p ≡ q
same_item {p} {q} e =
    let l : p.loc ≡ q.loc = cc in
    let t : p.ty ≡ q.ty = cc in
    let n : p.name ≡ q.name = cc in
    ap (λ l. whole_item l p.ty p.name) l ∙ ap₂ (whole_item q.loc) t n

module _ {s t : List ℕ} {n : ℕ} (st : ContractAt s t n) {d : Declared} (e : d ≡ declared_in (line_in t)) where
  own : DeclaredAs s t d st.contract n
  own = declared-as st e st.contract st.spells

  pub few-paths : d.count ≤ 32
  few-paths = own.few

  -- the rows of a path's items
  module _ (path : ℕ) (lt : path < d.count) where
    pub item-holds : (k : ℕ) → k < (item_rows d path).count → HoldsItem t ((item_rows d path).first + ((item_rows d path).count - 1 - k))
    item-holds k below =
        let a = item-from-top (line_in t) StackParam (item s) (own.items path lt).spells k below in
        record { held = a.0; is = a.1; room = omega (arith, (own.items path lt).within, st.rows.room) }

  module _ {ps : List (List Item)} (h : Declares t ps) where
    many : d.count ≡ h.count
    many = count-is (line_in t) Item whole_item h.header (head_few st h.header) h.spells e

    -- no such path
    pub past-paths : (path k : ℕ) → d.count ≤ path → item_at ps path k ≡ none
    unfolding item_at
    past-paths path k le = ap (λ xs. get_elem? (reverse xs) k) (get_or-eq_default ps [] (omega (arith, many, declarations-count h.spells)))

    module _ (path : ℕ) (lt : path < d.count) where
      items : SpellsItems (line_in t) Item whole_item (item_rows d path).count (item_rows d path).first (get_or ps path []) ((item_rows d path).first + (item_rows d path).count)
      items = items_of (line_in t) Item whole_item h.header (head_few st h.header) h.spells e path (omega (arith, many))

      -- no such position
      pub past-items : (k : ℕ) → (item_rows d path).count ≤ k → item_at ps path k ≡ none
      unfolding item_at
      past-items k le = past (reverse (get_or ps path [])) k (omega (arith, length-reverse (get_or ps path []), items-count items))

      -- else the item of its row
      pub item-here : (k : ℕ) → k < (item_rows d path).count → {q : Item} → line_in t ((item_rows d path).first + ((item_rows d path).count - 1 - k)) ≡ line_of q → item_at ps path k ≡ some q
      unfolding item_at
      item-here k below f = let a = item-from-top (line_in t) Item whole_item items k below in a.2 ∙ ap some (same_item (sym a.1 ∙ f))

    -- an item that is looked up stands in a row of its path
    item-row : (path k : ℕ) {q : Item} → item_at ps path k ≡ some q → (path < d.count) × (k < (item_rows d path).count) × (line_in t ((item_rows d path).first + ((item_rows d path).count - 1 - k)) ≡ line_of q)
    item-row path k {q} f = declared (ltb path d.count) refl
      where
        absent : {A : Type 0} → item_at ps path k ≡ none → A
        absent a = let z : none ≡ some q = sym a ∙ f in let o : ◌≡◌ {A = ℕ} 0 1 = cc in absurd (omega arith)

        there : (lt : path < d.count) (b : Bool) → ltb k (item_rows d path).count ≡ b → (path < d.count) × (k < (item_rows d path).count) × (line_in t ((item_rows d path).first + ((item_rows d path).count - 1 - k)) ≡ line_of q)
        there lt false g = absent (past-items path lt k (ltb-false k (item_rows d path).count g))
        there lt true g =
            let below = ltb-true k (item_rows d path).count g in
            let a = item-from-top (line_in t) Item whole_item (items path lt) k below in
            let z : some a.0 ≡ some q = sym (item-here path lt k below a.1) ∙ f in
            let same : a.0 ≡ q = cc in
            (lt, below, a.1 ∙ ap line_of same)

        declared : (b : Bool) → ltb path d.count ≡ b → (path < d.count) × (k < (item_rows d path).count) × (line_in t ((item_rows d path).first + ((item_rows d path).count - 1 - k)) ≡ line_of q)
        declared false g = absent (past-paths path k (ltb-false path d.count g))
        declared true g = there (ltb-true path d.count g) (ltb k (item_rows d path).count) refl

    -- its name lies in the listing
    pub item-inside : (path k : ℕ) {q : Item} → item_at ps path k ≡ some q → Inside s q.name
    unfolding part_of
    item-inside path k {q} f = let r = item-row path k f in st.rows.parts _ (omega (arith, (own.items path r.0).within, r.1)) q.name (ap part_of r.2)

    -- and a declaration has few of them
    pub item-below : (path k : ℕ) {q : Item} → item_at ps path k ≡ some q → k < max_items
    item-below path k f = let r = item-row path k f in omega (arith, (own.items path r.0).few, r.1)

    -- it is the item of the contract's declaration
    pub item-declared : (c : Contract) → SpellsContract (line_in t) s c n → (path k : ℕ) → path < d.count → Option.map (λ q. item s q.loc q.ty q.name) (item_at ps path k) ≡ get_elem? (from_top (declaration_of c path)) k
    item-declared c sp path k lt = go (ltb k (item_rows d path).count) refl
      where
        spelled : SpellsItems (line_in t) StackParam (item s) (item_rows d path).count (item_rows d path).first (declaration_of c path) ((item_rows d path).first + (item_rows d path).count)
        spelled = ((declared-as st e c sp).items path lt).spells

        go : (b : Bool) → ltb k (item_rows d path).count ≡ b → Option.map (λ q. item s q.loc q.ty q.name) (item_at ps path k) ≡ get_elem? (from_top (declaration_of c path)) k
        go true g =
            let below = ltb-true k (item_rows d path).count g in
            let a = item-from-top (line_in t) StackParam (item s) spelled k below in
            ap (Option.map (λ q. item s q.loc q.ty q.name)) (item-here path lt k below a.1) ∙ sym a.2
        go false g =
            let above = ltb-false k (item_rows d path).count g in
            ap (Option.map (λ q. item s q.loc q.ty q.name)) (past-items path lt k above) ∙ sym (past (from_top (declaration_of c path)) k (omega (arith, length-reverse (declaration_of c path), items-count spelled)))

-- ---- the rows of a contract declare items

declares : {s t : List ℕ} {c : Contract} {n : ℕ} → SpellsContract (line_in t) s c n → (ps : List (List Item)) × Declares t ps
declares {s} {t} (SpellsContract.contract {j = j} {n = m} {g = g} q u v) = let w = declarations-whole (line_in t) StackParam (item s) u in (w.0, record { target = g; count = m; upto = j; header = q; spells = w.1 })

-- what is found among them: its name lies in the listing, and its position is one of few
pub found_inside : {s t : List ℕ} {n : ℕ} → ContractAt s t n → (path k : ℕ) {q : Item} {r : StdOption Item} → r ≡ Some q → ((ps : List (List Item)) → Declares t ps → r ≡ found (item_at ps path k)) → Inside s q.name × (k < max_items)
found_inside st path k e f =
    let d = declares st.spells in
    let i = found-is (item_at d.0 path k) (sym e ∙ f d.0 d.1) in
    (item-inside st refl d.1 path k i, item-below st refl d.1 path k i)

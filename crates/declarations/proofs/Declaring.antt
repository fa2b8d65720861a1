-- What is noted of the declarations of a contract.
use Prim.Native.Nat.{ℕ, zero, suc, ◌+◌, ◌≤◌, ◌<◌}
use native.Mathlib.Numerals.{add-one}
use native.Mathlib.Omega.{arith}
use mathlib.Core.Bool.{Bool, true, false}
use mathlib.Core.List.{List, []}
use mathlib.Core.Path.{◌≡◌, refl, sym, ap, ◌∙◌, subst}
use borrow.Author.Tests.{eqb-true, eqb-false, leb-true}
use lib.Dec.{eqb}
use lib.ListN.{length, get_or, set, length-set}
use lib.Seq.{get_or-set_same, get_or-set_other}
use Rattle.ast.specs.declared.Location.{Location}
use Rattle.ast.specs.declared.Target.{Target}
use Rattle.ast.specs.declared.Type.{«Type» as ItemType}
use Rattle.ast.specs.Tree.{StackParam, Contract}
use Rattle.text.specs.declared.Place.{Place}
use Rattle.listing.specs.declared.Line.{Line}
use Rattle.rows.specs.Rows.{line_in}
use Rattle.reader.specs.Ceilings.{max_declarations, max_items, max_lines, within_ceilings}
use Rattle.reader.specs.Reading.{item}
use Rattle.reader.specs.Spells.{SpellsItems, SpellsDeclarations, SpellsBlock, SpellsContract, first_declaration}
use Rattle.reader.proofs.Agree.{block_on}
use Rattle.nodes.specs.declared.Head.{Head}
use Rattle.nodes.specs.Stands.{Holds}
use Rattle.declarations.specs.declared.Declared.{Declared}
use Rattle.names.specs.declared.ItemRows.{ItemRows}
use Rattle.declarations.specs.Noted.{items_said, after_items, declaration_row, rows_below, noted, declared_by, declared_in}
use Rattle.declarations.specs.Items.{no_items, item_rows, ContractAt, DeclaredAs}
use Rattle.reader.proofs.Items.{declarations-count}
use Rattle.declarations.proofs.Standing.{head-said, said, row_more, At, declaration-at, declarations-end}

-- ---- notes of declarations

noted-full : (f : ℕ → ItemRows) (n : ℕ) → length (noted f n) ≡ max_declarations
unfolding noted
noted-full f zero = refl
noted-full f (suc n) = length-set (noted f n) n (f n) ∙ noted-full f n

noted-at : (f : ℕ → ItemRows) (n p : ℕ) → p < n → n ≤ max_declarations → get_or (noted f n) p no_items ≡ f p
unfolding noted
noted-at f zero p lt few = absurd (omega arith)
noted-at f (suc n) p lt few = go (eqb p n) refl (noted-at f n p)
  where
    go : (b : Bool) → eqb p n ≡ b → (p < n → n ≤ max_declarations → get_or (noted f n) p no_items ≡ f p) → get_or (set (noted f n) n (f n)) p no_items ≡ f p
    go true e ih = rw (eqb-true p n e) (get_or-set_same (noted f n) n (f n) no_items (omega (arith, noted-full f n)))
    go false e ih = let o = eqb-false p n e in get_or-set_other (noted f n) n p (f n) no_items o ∙ ih (omega arith) (omega arith)

pub noted_more : (f : ℕ → ItemRows) (p : ℕ) {xs : List ItemRows} {v : ItemRows} → xs ≡ noted f p → v ≡ f p → set xs p v ≡ noted f (p + 1)
unfolding noted
noted_more f p e q = rw (add-one p, e, q)

pub rows_next : (L : ℕ → Line) {i at m : ℕ} → at ≡ i → L at ≡ Line.Declaration m → record { first = at + 1; count = m } ≡ rows_below L i
rows_next L {i} {at} {m} e q = rw (sym (said q)) (ap (rows_below L) e)

pub row_next : (L : ℕ → Line) (p : ℕ) {at m : ℕ} → at ≡ declaration_row L p → L at ≡ Line.Declaration m → at + 1 + m ≡ declaration_row L (p + 1)
unfolding after_items
row_next L p {at} {m} e q = ap (λ k. at + 1 + k) (sym (said q)) ∙ ap (after_items L) e ∙ sym (row_more L first_declaration p) ∙ ap (declaration_row L) (sym (add-one p))

pub all_noted : (L : ℕ → Line) {g : Target} {m p at : ℕ} {items : List ItemRows} → L 0 ≡ Line.Contract g m → p ≡ m → items ≡ noted (λ p. rows_below L (declaration_row L p)) p → at ≡ declaration_row L p → record { target = g; count = m; items = items; block = at } ≡ declared_in L
unfolding declared_by
all_noted L header e i a = rw (i, a, e) (ap (λ h. declared_by h L) (sym (head-said header)))

-- what is noted, for declarations that the rows spell
module _ (L : ℕ → Line) (A : Type 0) (make : Location → ItemType → Place → A) {g : Target} {m upto : ℕ} {ds : List (List A)} (header : L 0 ≡ Line.Contract g m) (few : m ≤ max_declarations) (sp : SpellsDeclarations L A make m first_declaration ds upto) {d : Declared} (e : d ≡ declared_in L) where
  is : d ≡ declared_by (record { target = g; declarations = m }) L
  is = e ∙ ap (λ h. declared_by h L) (head-said header)

  pub target_is : d.target ≡ g
  unfolding declared_by
  target_is = ap (λ d. d.target) is

  pub count-is : d.count ≡ m
  unfolding declared_by
  count-is = ap (λ d. d.count) is

  pub block-is : d.block ≡ upto
  unfolding declared_by
  block-is = ap (λ d. d.block) is ∙ declarations-end L A make sp

  module _ (p : ℕ) (lt : p < m) where
    here : At L A make (declaration_row L p) (get_or ds p []) upto
    here = declaration-at L A make sp p lt

    rows-are : item_rows d p ≡ rows_below L (declaration_row L p)
    unfolding declared_by
    rows-are = ap (λ d. item_rows d p) is ∙ noted-at (λ p. rows_below L (declaration_row L p)) m p lt few

    first-is : (item_rows d p).first ≡ declaration_row L p + 1
    first-is = ap (λ r. r.first) rows-are

    items-are : (item_rows d p).count ≡ items_said (L (declaration_row L p))
    items-are = ap (λ r. r.count) rows-are

    pub items_of : SpellsItems L A make (item_rows d p).count (item_rows d p).first (get_or ds p []) ((item_rows d p).first + (item_rows d p).count)
    items_of = rw (first-is, items-are) here.items

    pub items-within : (item_rows d p).first + (item_rows d p).count ≤ upto
    items-within = rw (first-is, items-are) here.within

-- ---- a contract in rows

-- the T line, the declarations and the block
record Parts (s t : List ℕ) (c : Contract) (n : ℕ) : Type 0 where
  count : ℕ
  upto : ℕ
  header : line_in t 0 ≡ Line.Contract c.target count
  spells : SpellsDeclarations (line_in t) StackParam (item s) count first_declaration c.declarations upto
  block : SpellsBlock (line_in t) s upto c.block n

parts : {s t : List ℕ} {c : Contract} {n : ℕ} → SpellsContract (line_in t) s c n → Parts s t c n
parts (SpellsContract.contract q u v) = record { count = _; upto = _; header = q; spells = u; block = v }

module _ {s t : List ℕ} {n : ℕ} (st : ContractAt s t n) where
  abbrev P : Parts s t st.contract n
  P = parts st.spells

  pub head-holds : Holds (λ (h : Head). Line.Contract h.target h.declarations) t 0
  head-holds = record { held = record { target = st.contract.target; declarations = P.count }; is = P.header; room = omega (arith, st.rows.room, block_on (line_in t) s P.block) }

  pub head_few : {g : Target} {m : ℕ} → line_in t 0 ≡ Line.Contract g m → m ≤ max_declarations
  head_few {g} {m} e = leb-true m max_declarations (ap within_ceilings (sym e) ∙ st.fits 0 (omega (arith, block_on (line_in t) s P.block)))

  -- a declaration's row, and how many items it may have
  row-few : {i m : ℕ} → i < n → line_in t i ≡ Line.Declaration m → m ≤ max_items
  row-few {i} {m} lt e = leb-true m max_items (ap within_ceilings (sym e) ∙ st.fits i lt)

  -- the next declaration, at row `at`
  module _ {g : Target} {m : ℕ} (header : line_in t 0 ≡ Line.Contract g m) {p at : ℕ} (lt : p < m) (e : at ≡ declaration_row (line_in t) p) where
    next : At (line_in t) StackParam (item s) at (get_or st.contract.declarations p []) P.upto
    next =
        let f : Line.Contract st.contract.target P.count ≡ Line.Contract g m = sym P.header ∙ header in
        let k : P.count ≡ m = cc in
        subst (λ i. At (line_in t) StackParam (item s) i (get_or st.contract.declarations p []) P.upto) (sym e) (declaration-at (line_in t) StackParam (item s) P.spells p (omega arith))

    pub next_row : at < max_lines
    next_row = omega (arith, next.within, block_on (line_in t) s P.block, st.rows.few)

    pub next-holds : Holds Line.Declaration t at
    next-holds = record { held = items_said (line_in t at); is = next.line; room = omega (arith, next.within, block_on (line_in t) s P.block, st.rows.room) }

    pub next-bounds : {k : ℕ} → line_in t at ≡ Line.Declaration k → at + 1 + k < max_lines
    next-bounds q = omega (arith, next.within, said q, block_on (line_in t) s P.block, st.rows.few)

  -- what is noted is what the contract declares
  pub declared-as : {d : Declared} → d ≡ declared_in (line_in t) → (c : Contract) → SpellsContract (line_in t) s c n → DeclaredAs s t d c n
  declared-as {d} e c sp = record {
    target = target_is (line_in t) StackParam (item s) Q.header few Q.spells e;
    count = count ∙ sym (declarations-count Q.spells);
    few = omega (arith, count, few);
    items = λ p lt. record { spells = items_of (line_in t) StackParam (item s) Q.header few Q.spells e p (omega (arith, count)); few = items-few p (omega (arith, count)); within = omega (arith, items-within (line_in t) StackParam (item s) Q.header few Q.spells e p (omega (arith, count)), block_on (line_in t) s Q.block) };
    block = subst (λ i. SpellsBlock (line_in t) s i c.block n) (sym (block-is (line_in t) StackParam (item s) Q.header few Q.spells e)) Q.block;
  }
    where
      Q : Parts s t c n
      Q = parts sp

      few : Q.count ≤ max_declarations
      few = head_few Q.header

      count : d.count ≡ Q.count
      count = count-is (line_in t) StackParam (item s) Q.header few Q.spells e

      items-few : (p : ℕ) → p < Q.count → (item_rows d p).count ≤ max_items
      items-few p lt =
          let a = declaration-at (line_in t) StackParam (item s) Q.spells p lt in
          omega (arith, items-are (line_in t) StackParam (item s) Q.header few Q.spells e p lt, row-few (omega (arith, a.within, block_on (line_in t) s Q.block)) a.line)

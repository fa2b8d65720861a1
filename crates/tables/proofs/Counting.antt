-- What is asked before the statements.
use Prim.Native.Nat.{ℕ}
use native.Mathlib.Omega.{arith}
use mathlib.Core.List.{List, [], ◌∷◌}
use mathlib.Core.Path.{◌≡◌, refl, sym, ap, ◌∙◌}
use borrow.Author.Tests.{eq-eqb, ne_eqb}
use lib.ListN.{length, get_or}
use Rattle.std.specs.Prelude.{Ok, Err}
use Rattle.ast.specs.declared.Location.{Location}
use Rattle.ast.specs.declared.Type.{«Type» as ItemType}
use Rattle.ast.specs.declared.ErrorKind.TheVariants.{DeclarationPathMismatch}
use Rattle.ast.specs.declared.CompileError.{CompileError}
use Rattle.ast.specs.Tree.{StackParam, Declaration, Contract, fault, nowhere}
use Rattle.text.specs.declared.Place.{Place}
use Rattle.listing.specs.declared.Line.{Line}
use Rattle.rows.specs.Rows.{line_in}
use Rattle.reader.specs.Reading.{item}
use Rattle.reader.specs.Spells.{SpellsItems}
use Rattle.nodes.specs.Stands.{BlockAt}
use Rattle.rules.specs.Result.{both}
use Rattle.rules.specs.Paths.{count}
use Rattle.rules.specs.Flow.{flow}
use Rattle.rules.specs.Analyze.{first_item, counted}
use Rattle.names.specs.declared.Item.{Item}
use Rattle.names.specs.Items.{HoldsItem, line_of}
use Rattle.declarations.specs.declared.Declared.{Declared}
use Rattle.declarations.specs.Items.{item_rows, DeclaredAs, Given}

pub block-stands : {s t : List ℕ} {d : Declared} → Given s t d → BlockAt s t d.block
block-stands G = record { tree = G.contract.block; next = G.count; spells = G.declared.block; count = G.count; within = omega arith; rows = G.rows }

-- the first of some items
record First (L : ℕ → Line) (s : List ℕ) (i : ℕ) (d : Declaration) : Type 0 where
  head : StackParam
  tail : Declaration
  loc : Location
  ty : ItemType
  name : Place
  is : d ≡ head ∷ tail
  line : L i ≡ Line.StackParam loc ty name
  made : head ≡ item s loc ty name

first_of : {L : ℕ → Line} {s : List ℕ} {n i j : ℕ} {d : Declaration} → SpellsItems L StackParam (item s) n i d j → (n ≡ 0 → ⊥) → First L s i d
first_of SpellsItems.nil h = absurd (h refl)
first_of (SpellsItems.cons {l = l} {t = t} {x = x} q r u) h = record { head = _; tail = _; loc = l; ty = t; name = x; is = refl; line = q; made = r }

none_of : {L : ℕ → Line} (s : List ℕ) {n i j : ℕ} {d : Declaration} → SpellsItems L StackParam (item s) n i d j → n ≡ 0 → d ≡ []
none_of s SpellsItems.nil h = refl
none_of s (SpellsItems.cons q r u) h = absurd (omega arith)

module _ {s t : List ℕ} {d : Declared} {c : Contract} {n : ℕ} (D : DeclaredAs s t d c n) where
  pub first-none : d.count ≡ 0 → nowhere ≡ first_item c.declarations
  unfolding first_item
  first-none h = go c.declarations (sym D.count ∙ h)
    where
      go : (ds : List Declaration) → length ds ≡ 0 → nowhere ≡ first_item ds
      go [] e = refl
      go (x ∷ ds) e = absurd (omega arith)

  from-head : (x : Declaration) → (d.count ≡ 0 → ⊥) → get_or c.declarations 0 [] ≡ x → (y : Location) → ((ds : List Declaration) → y ≡ first_item (x ∷ ds)) → y ≡ first_item c.declarations
  from-head x h e y f = go c.declarations D.count e
    where
      go : (ds : List Declaration) → d.count ≡ length ds → get_or ds 0 [] ≡ x → y ≡ first_item ds
      go [] k e = absurd (h k)
      go (z ∷ ds) k e = f ds ∙ ap (λ x. first_item (x ∷ ds)) (sym e)

  pub first-empty : (d.count ≡ 0 → ⊥) → (item_rows d 0).count ≡ 0 → nowhere ≡ first_item c.declarations
  unfolding first_item
  first-empty h k = from-head [] h (none_of s (D.items 0 (omega arith)).spells k) nowhere (λ ds. refl)

  pub first_some : (d.count ≡ 0 → ⊥) → ((item_rows d 0).count ≡ 0 → ⊥) → (p : Item) → line_in t (item_rows d 0).first ≡ line_of p → p.loc ≡ first_item c.declarations
  unfolding first_item
  first_some h k p e =
      let f = first_of (D.items 0 (omega arith)).spells k in
      let q : Line.StackParam f.loc f.ty f.name ≡ line_of p = sym f.line ∙ e in
      let same : f.loc ≡ p.loc = cc in
      from-head (f.head ∷ f.tail) h f.is p.loc (λ ds. sym same ∙ ap (λ x. x.loc) (sym f.made))

  -- the two checks in turn
  pub shape-fault : {x : CompileError} → flow c.block ≡ Err x → Err x ≡ both (flow c.block) (counted (count c.block) c.declarations)
  shape-fault e = rw e

  pub shape-even : flow c.block ≡ Ok tt → count c.block ≡ d.count → Ok tt ≡ both (flow c.block) (counted (count c.block) c.declarations)
  unfolding counted
  shape-even e k = rw (e, eq-eqb (length c.declarations) (count c.block) (sym D.count ∙ sym k), counted)

  pub shape-odd : {l : Location} → flow c.block ≡ Ok tt → (count c.block ≡ d.count → ⊥) → l ≡ first_item c.declarations → Err (fault DeclarationPathMismatch l) ≡ both (flow c.block) (counted (count c.block) c.declarations)
  unfolding counted
  shape-odd e k q = rw (e, ne_eqb (length c.declarations) (count c.block) (λ z. k (sym z ∙ sym D.count)), counted, q)

-- the first item's line
pub first_holds : {s t : List ℕ} {d : Declared} → Given s t d → (d.count ≡ 0 → ⊥) → ((item_rows d 0).count ≡ 0 → ⊥) → HoldsItem t (item_rows d 0).first
first_holds {s} {t} {d} G h k =
    let I = G.declared.items 0 (omega arith) in
    let f = first_of I.spells k in
    record { held = record { loc = f.loc; ty = f.ty; name = f.name }; is = f.line; room = omega (arith, I.within, G.rows.room) }

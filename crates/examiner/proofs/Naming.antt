-- The items of a listing in its rows, and what Name answers.
use Prim.Native.Nat.{ℕ, ◌+◌, ◌≤◌}
use native.Mathlib.Omega.{arith}
use mathlib.Core.List.{List, [], map}
use mathlib.Core.Option
use mathlib.Core.Option.{Option, some, none}
use mathlib.Core.Path.{◌≡◌, refl, sym, ap, ◌∙◌, subst}
use borrow.Author.Tests.{le-leb}
use lib.ListN.{get_or, get_elem?}
use Rattle.ast.specs.declared.Target.{Target}
use Rattle.ast.specs.declared.CompileError.{CompileError}
use Rattle.ast.specs.Tree.{StackParam, Contract, from_top}
use Rattle.text.specs.declared.Place.{Place}
use Rattle.text.specs.Text.{part}
use Rattle.listing.specs.declared.Line.{Line}
use Rattle.listing.specs.Kinds.{contract_line}
use Rattle.listing.proofs.OfKind.{of-kind, contract-kind}
use Rattle.rules.specs.Result.{Result, Checked, answer}
use Rattle.rules.specs.Analyze.{analyze}
use Rattle.rules.proofs.Basics.{Ok-injective}
use Rattle.rows.specs.Rows.{line_in}
use Rattle.std.specs.Prelude.{Ok, Err, Some, None, Option as StdOption, IsErrAnd}
use Rattle.std.specs.Option.{option_flatten}
use Rattle.std.specs.Result.{result_ok}
use Rattle.std.proofs.lemmas.Result.{err_from_is_err_and}
use Rattle.reader.specs.Ceilings.{max_bytes, max_lines}
use Rattle.reader.specs.Source.{Source, source, Read, read, refused}
use Rattle.reader.specs.Reading.{item, declarations, read_listing}
use Rattle.reader.specs.Spells.{SpellsDeclarations, SpellsContract, first_declaration, start, step, lines_of}
use Rattle.reading.specs.Held.{Spelled}
use Rattle.reader.proofs.Parts.{Accepts, refused≢read, after, accepts, accept-opens}
use Rattle.reader.proofs.Agree.{declarations-on, block_on, declarations-agree, contract-agrees}
use Rattle.reader.proofs.Spelling.{lists, declarations-give}
use Rattle.reader.proofs.Naming.{map_read, declarations-map, place_reading, places-named}
use Rattle.names.specs.declared.Item.{Item}
use Rattle.names.specs.Items.{Inside}
use Rattle.declarations.specs.Items.{ContractAt}
use Rattle.declarations.specs.Noted.{row_past, whole_item, Declares, item_at as item_from, found}
use Rattle.declarations.proofs.Standing.{declarations-end}
use Rattle.declarations.proofs.Looking.{item-at-map, found-is, found-not, item-inside}
use Rattle.examiner.specs.Check.{examine, check}
use Rattle.examiner.specs.InOrder.{Accepted}
use Rattle.examiner.specs.Name.{items_of, items, item_at, if_accepted, name_of, name, place_in, named_by, named, name_bytes}
use Rattle.examiner.proofs.Demand3.{Holds}
use Rattle.examiner.proofs.Checking.{check-is}

-- ---- the items that a listing declares

mapped : {A B : Type 0} (f : A → B) (x : Read A) (b : B) (q : Source) → map_read f x ≡ read b q → (a : A) × (x ≡ read a q) × (f a ≡ b)
mapped f (read a p) b q h = let e : p ≡ q = cc in let v : f a ≡ b = cc in (a, ap (read a) e, v)
mapped f (refused x) b q h = absurd (refused≢read h)

-- a listing that is read: its items are, but for what is not kept, those whose names are read
module _ (s : List ℕ) (c : Contract) (q : Source) (h : read_listing s ≡ read c q) where
  places : (ps : List (List Place)) × (r : Source) × (place_reading s ≡ read ps r) × (map (map (part s)) ps ≡ map (map (λ p. p.identifier)) c.declarations)
  places = places-named s c q h

  opened : Accepts contract_line (λ (g, n). declarations (λ l t x. x) n) (source s 0 0) places.0 places.1
  opened = accepts contract_line (λ (g, n). declarations (λ l t x. x) n) (source s 0 0) places.2

  abbrev body : Source
  body = after (source s 0 0) opened.at opened.rest

  whole : (qs : List (List Item)) × (declarations whole_item opened.holds.1 body ≡ read qs places.1) × (map (map (λ x. x.name)) qs ≡ places.0)
  whole = mapped (map (map (λ x. x.name))) (declarations whole_item opened.holds.1 body) places.0 places.1 (sym (declarations-map whole_item (λ x. x.name) opened.holds.1 body) ∙ opened.then)

  are : items s ≡ whole.0
  unfolding items items_of
  are = ap items_of (accept-opens contract_line (λ (g, n). declarations whole_item n) (source s 0 0) opened.line opened.at opened.rest opened.next opened.is (le-leb 1 max_lines opened.few) opened.fits ∙ whole.1)

  -- their names are those of the contract's items
  items-named : map (map (part s)) (map (map (λ x. x.name)) (items s)) ≡ map (map (λ p. p.identifier)) c.declarations
  items-named = ap (λ qs. map (map (part s)) (map (map (λ x. x.name)) qs)) are ∙ ap (map (map (part s))) whole.2 ∙ places.3

  -- and the listing's lines spell them
  header : lines_of s 0 ≡ Line.Contract opened.holds.0 opened.holds.1
  header = lists s (source s 0 0) opened.line opened.at opened.rest start opened.next ∙ of-kind contract_line (λ (g, n). Line.Contract g n) contract-kind opened.is

  spelled : SpellsDeclarations (lines_of s) Item whole_item opened.holds.1 first_declaration whole.0 places.1.index
  spelled = (declarations-give (lines_of s) s (lists s) whole_item opened.holds.1 body whole.0 places.1 (step start opened.next opened.few opened.fits) whole.1).0

-- the declarations of a contract end before its block
items-within : (L : ℕ → Line) (s : List ℕ) {g : Target} {count upto n : ℕ} {qs : List (List Item)} {c : Contract} → L 0 ≡ Line.Contract g count → SpellsDeclarations L Item whole_item count first_declaration qs upto → SpellsContract L s c n → upto ≤ n
items-within L s {g} {count} {upto} e sp (SpellsContract.contract {j = j} {n = m} {g = g'} q u v) =
    let f : Line.Contract g' m ≡ Line.Contract g count = sym q ∙ e in
    let k : m ≡ count = cc in
    let same : j ≡ upto = sym (declarations-end L StackParam (item s) u) ∙ ap (row_past L first_declaration) k ∙ declarations-end L Item whole_item sp in
    omega (arith, block_on L s v)

-- the rows of a listing that is read declare its items
module _ (s t : List ℕ) (n : ℕ) (h : Spelled s t n) where
  within : (places s h.contract h.source h.reads).1.index ≤ n
  within = items-within (lines_of s) s (header s h.contract h.source h.reads) (spelled s h.contract h.source h.reads) (contract-agrees (line_in t) (lines_of s) s h.spells (λ k i. sym (h.lines k i)))

  pub listing-declares : Declares t (items s)
  listing-declares =
      let w = within in
      let o = opened s h.contract h.source h.reads in
      rw (are s h.contract h.source h.reads) (record {
        target = o.holds.0;
        count = o.holds.1;
        upto = (places s h.contract h.source h.reads).1.index;
        header = h.lines 0 (omega (arith, declarations-on (lines_of s) Item whole_item (spelled s h.contract h.source h.reads))) ∙ header s h.contract h.source h.reads;
        spells = declarations-agree (lines_of s) (line_in t) Item whole_item (spelled s h.contract h.source h.reads) (λ k i. h.lines k (omega arith));
      })

-- ---- the place of an item's name

-- an item that is looked up, as the code has it
pub place-found : (o : Option Item) {x : Item} → Some x ≡ found o → Some x.name ≡ place_in o
place-found o e = sym (ap place_in (found-is o e))

pub place-none : (o : Option Item) → None ≡ found o → None ≡ place_in o
place-none o e = sym (ap place_in (found-not o e))

-- by Check's answer
pub named-err : {c : Checked} (o : Option Item) {x : CompileError} (r : Result (StdOption Place)) → c ≡ Err x → IsErrAnd r (λ y. y ≡ x) → r ≡ named_by c o
named-err o r e f = let (y, k, l) = err_from_is_err_and r f in k ∙ ap Err l ∙ sym (ap (λ c. named_by c o) e)

pub named-ok : {c : Checked} (o : Option Item) {p : StdOption Place} → c ≡ Ok tt → p ≡ place_in o → Ok p ≡ named_by c o
named-ok o e f = ap Ok f ∙ sym (ap (λ c. named_by c o) e)

-- it lies in the listing
place_inside : {s t : List ℕ} {n : ℕ} {ps : List (List Item)} → ContractAt s t n → Declares t ps → (path k : ℕ) (c : Checked) (x : Place) → named_by c (item_from ps path k) ≡ Ok (Some x) → Inside s x
place_inside {s} {t} {n} {ps} st h path k (Err y) x e = cc
place_inside {s} {t} {n} {ps} st h path k (Ok _) x e = go (item_from ps path k) refl (Ok-injective e)
  where
    go : (o : Option Item) → item_from ps path k ≡ o → place_in o ≡ Some x → Inside s x
    go none f g = cc
    go (some y) f g = let same : y.name ≡ x = cc in subst (Inside s) same (item-inside st refl h path k f)

-- ---- what Name answers

-- what Name promises of what it hands back
abbrev pub Promised : List ℕ → ℕ → ℕ → ℕ → Result (StdOption Place) → Type 0
Promised s words path position r = (r ≡ named s words path position) × ((x : Place) → r ≡ Ok (Some x) → Inside s x × (x.at + x.len ≤ max_bytes))

module _ (s : List ℕ) (words path position : ℕ) where
  pub refuses : {x : CompileError} → examine s words ≡ Err x → (r : Result (StdOption Place)) → IsErrAnd r (λ z. z ≡ x) → Promised s words path position r
  unfolding named answer
  refuses is r f =
      let (z, k, l) = err_from_is_err_and r f in
      (named-err (item_at s path position) r (check-is s words is) f, λ p g. let o : Err z ≡ Ok (Some p) = sym k ∙ g in cc)

  pub names : {t : List ℕ} {n : ℕ} (c : Contract) → ContractAt s t n → Declares t (items s) → examine s words ≡ analyze c → (r : Result (StdOption Place)) → r ≡ named_by (answer (analyze c)) (item_from (items s) path position) → Promised s words path position r
  unfolding named item_at
  names c st d is r a = (
    a ∙ ap (λ c. named_by c (item_at s path position)) (sym (check-is s words is)),
    λ x o. let i = place_inside st d path position (answer (analyze c)) x (sym a ∙ o) in (i, omega (arith, i, st.rows.short)),
  )

-- the place there is, of an answer
pub flat-some : (q : Result (StdOption Place)) {o : StdOption Place} {x : Place} → o ≡ option_flatten (result_ok q) → o ≡ Some x → q ≡ Ok (Some x)
flat-some (Ok (Some y)) e g = ap Ok (sym e ∙ g)
flat-some (Ok None) {x = x} e g = let z : None ≡ Some x = sym e ∙ g in cc
flat-some (Err y) {x = x} e g = let z : None ≡ Some x = sym e ∙ g in cc

pub flat-none : {q : Result (StdOption Place)} {o : StdOption Place} → o ≡ option_flatten (result_ok q) → o ≡ None → (x : Place) → q ≡ Ok (Some x) → ⊥
flat-none e g x h = let z : None ≡ Some x = sym g ∙ e ∙ ap (λ q. option_flatten (result_ok q)) h in cc

-- the bytes of the part that the place names, and no bytes where there is none
module _ (s : List ℕ) (words path position : ℕ) {r : Result (StdOption Place)} (e : r ≡ named s words path position) where
  go : (c : Checked) (o : Option Item) {q : Result (StdOption Place)} → q ≡ named_by c o → ((x : Place) → q ≡ Ok (Some x) → name_of (if_accepted c o) ≡ some x) × (((x : Place) → q ≡ Ok (Some x) → ⊥) → name_of (if_accepted c o) ≡ none)
  unfolding if_accepted
  go (Err y) o {q} e = (λ x f. let z : Err y ≡ Ok (Some x) = sym e ∙ f in cc, λ f. refl)
  go (Ok _) none {q} e = (λ x f. let z : Ok None ≡ Ok (Some x) = sym e ∙ f in cc, λ f. refl)
  go (Ok _) (some y) {q} e = (λ x f. let z : Ok (Some y.name) ≡ Ok (Some x) = sym e ∙ f in let o : y.name ≡ x = cc in ap some o, λ f. absurd (f y.name e))

  pub part-named : (x : Place) {b : List ℕ} → r ≡ Ok (Some x) → b ≡ part s x → b ≡ name_bytes s words path position
  unfolding named name name_bytes
  part-named x f g = g ∙ rw ((go (check s words) (item_at s path position) e).0 x f, name_bytes) refl

  pub none-named : ((x : Place) → r ≡ Ok (Some x) → ⊥) → [] ≡ name_bytes s words path position
  unfolding named name name_bytes
  none-named f = rw ((go (check s words) (item_at s path position) e).1 f, name_bytes) refl

-- ---- what Name says of an accepted listing

abbrev or_empty : Option (List ℕ) → List ℕ
or_empty none = []
or_empty (some x) = x

-- the name of an item: its declaration by path, its position from the top
unfoldable pub declared_name : Contract → ℕ → ℕ → List ℕ
declared_name c path position = or_empty (Option.map (λ p. p.identifier) (get_elem? (from_top (get_or c.declarations path [])) position))

name-when-accepted : (s : List ℕ) (words path position : ℕ) → Accepted s words → name_bytes s words path position ≡ or_empty (Option.map (part s) (name_of (item_at s path position)))
unfolding name_bytes name if_accepted
name-when-accepted s words path position h = rw (h, name_bytes, name) (go (item_at s path position))
  where
    go : (o : Option Item) → ◌≡◌ {A = List ℕ} (elim (name_of o) [ none ↦ [] | some p ↦ part s p ]) (or_empty (Option.map (part s) (name_of o)))
    go none = refl
    go (some x) = refl

-- Name gives the part of the listing that holds that item's name, empty if no such item exists
pub accepted-name : (s : List ℕ) (words : ℕ) (c : Contract) (path position : ℕ) → Holds s c → Accepted s words → name_bytes s words path position ≡ declared_name c path position
unfolding item_at item_from declared_name
accepted-name s words c path position (q, k) h =
    name-when-accepted s words path position h
    ∙ ap (λ o. or_empty (Option.map (part s) o)) (sym (item-at-map (λ x. x.name) (items s) path position))
    ∙ ap or_empty (sym (item-at-map (part s) (map (map (λ x. x.name)) (items s)) path position) ∙ ap (λ xs. item_from xs path position) (items-named s c q k) ∙ item-at-map (λ p. p.identifier) c.declarations path position)

-- and an empty part if Check refuses
pub refused-name : (s : List ℕ) (words : ℕ) (x : CompileError) (path position : ℕ) → check s words ≡ Err x → name s words path position ≡ none
unfolding name if_accepted
refused-name s words x path position h = rw (h, name) refl

-- What the three operations answer and leave, from what their parts did.
use Prim.Native.Nat.{ℕ, zero, suc, ◌≤◌, ◌<◌}
use native.Mathlib.Omega.{arith}
use mathlib.Core.Bool.{Bool, true, false}
use mathlib.Core.List.{List, [], ◌∷◌}
use mathlib.Core.Option.{Option, some, none, map}
use mathlib.Core.Path.{◌≡◌, refl, sym, ◌∙◌, ap, subst}
use borrow.Author.Tests.{ltb-true, ltb-false}
use lib.Dec.{ltb}
use lib.ListN.{length, get_or, get_elem?}
use Rattle.ast.specs.declared.CompileError.{CompileError}
use Rattle.ast.specs.Tree.{StackParam, Declaration, Contract, from_top}
use Rattle.rules.specs.Result.{Result, Checked, answer}
use Rattle.rules.specs.Paths.{Path, paths}
use Rattle.rules.specs.Table.{Table, params}
use Rattle.rules.specs.Analyze.{Analysis, analyze}
use Rattle.rules.specs.Stack.{meets, declaration_of}
use Rattle.rules.proofs.Takers.{final, final_all, finals}
use Rattle.rules.proofs.Theorem.{check as check_tree}
use Rattle.rules.proofs.Flowing.{count-paths}
use Rattle.rules.proofs.Demand3.{accepted-in-order, accepted-finals}
use Rattle.rows.specs.Rows.{line_in}
use Rattle.std.specs.Prelude.{Ok, Err}
use Rattle.reader.specs.Ceilings.{max_bytes}
use Rattle.reader.specs.Spells.{SpellsContract}
use Rattle.reporting.specs.Text.{WitnessItem}
use Rattle.names.specs.declared.Item.{Item}
use Rattle.names.specs.Items.{Inside}
use Rattle.declarations.specs.Noted.{Declares, item_at as item_from}
use Rattle.declarations.specs.Items.{ContractAt}
use Rattle.declarations.proofs.Declaring.{declared-as}
use Rattle.declarations.proofs.Looking.{item-inside, item-declared}
use Rattle.examiner.specs.Check.{examine}
use Rattle.examiner.specs.Name.{items, item_at, place_or, name_of}
use Rattle.turns.specs.declared.Rehearsal.{Rehearsal}
use Rattle.turns.specs.declared.Rehearsed.{Rehearsed}
use Rattle.turns.specs.declared.Rehearsed.TheVariants.{Due, Refused}
use Rattle.turns.specs.declared.Turn.{Turn}
use Rattle.turns.specs.declared.Turn.TheVariants.{Open, Lay, TakeBack}
use Rattle.turns.specs.State.{beginning, onward, lowered, DueInside}
use Rattle.rehearsal.specs.Rehearse.{shown_of, shown, on_table, on_tables, on_path, is_due, lay_on}
use Rattle.turns.specs.Turns.{param_of, due_of, due_in, is_item, lay_in, turn_in, check_path, turn_by, tests}
use Rattle.rehearsal.specs.Acts.{act, turned}
use Rattle.rehearsal.proofs.Tables.{params-final}

-- ---- a turn on the listing's items is the same turn on the path's

-- the items of a path, as the listing declares them and as its table has them
abbrev Linked : List ℕ → ℕ → List StackParam → Type 0
Linked s path qs = (k : ℕ) → map (param_of s) (item_at s path k) ≡ get_elem? qs k

module _ (s : List ℕ) (qs : List StackParam) where
  shown-same : (r : Rehearsal) → Linked s r.path qs → due_in (items s) r ≡ shown s r qs
  unfolding shown item_at due_of shown_of place_or
  shown-same r h = go (item_at s r.path r.due) refl (h r.due)
    where
      go : (o : Option Item) → item_at s r.path r.due ≡ o → map (param_of s) o ≡ get_elem? qs r.due → due_in (items s) r ≡ shown s r qs
      go none e f = ap (due_of r) e ∙ ap (shown_of s r) f
      go (some x) e f = ap (due_of r) e ∙ sym (ap (λ o. Due (place_or (name_of o)) x.ty r) e) ∙ ap (shown_of s r) f

  due-same : (x : WitnessItem) (o : Option Item) {p : Option StackParam} → map (param_of s) o ≡ p → is_item s x o ≡ is_due x p
  unfolding is_item is_due
  due-same x none f = ap (is_due x) f
  due-same x (some y) f = ap (is_due x) f

  lay-same : (r : Rehearsal) (x : WitnessItem) → Linked s r.path qs → lay_in s (items s) r x ≡ lay_on s r x qs
  unfolding lay_in lay_on item_at
  lay-same r x h = go (is_due x (get_elem? qs r.due)) refl (due-same x (item_at s r.path r.due) (h r.due))
    where
      go : (b : Bool) → is_due x (get_elem? qs r.due) ≡ b → is_item s x (item_at s r.path r.due) ≡ is_due x (get_elem? qs r.due) → lay_in s (items s) r x ≡ lay_on s r x qs
      go true e f = rw (f ∙ e, lay_in) (rw (e, lay_on) (shown-same (onward r.path (suc r.due)) h))
      go false e f = rw (f ∙ e, lay_in) (rw (e, lay_on) refl)

  turn-same : (r : Rehearsal) (turn : Turn) → Linked s r.path qs → turn_in s (items s) r turn ≡ act s r turn qs
  unfolding turn_in act
  turn-same r Open h = shown-same (onward r.path (beginning s)) h
  turn-same r (Lay x k) h = lay-same r (record { name = x.now; ty = k }) h
  turn-same r TakeBack h = shown-same (onward r.path (lowered (beginning s) r.due)) h

-- ---- the tables of an accepted contract: one for each declaration, of its items

finals-none : (ds : List Declaration) (ps : List Path) (n : ℕ) → length ds ≤ n → get_elem? (final_all ds ps) n ≡ none
unfolding final_all
finals-none [] ps n h = refl
finals-none (d ∷ ds) [] n h = refl
finals-none (d ∷ ds) (p ∷ ps) zero h = absurd (omega arith)
finals-none (d ∷ ds) (p ∷ ps) (suc n) h = finals-none ds ps n (omega arith)

finals-some : (ds : List Declaration) (ps : List Path) (n : ℕ) → length ds ≡ length ps → n < length ds → (t : Table) × (get_elem? (final_all ds ps) n ≡ some t) × (params t ≡ from_top (get_or ds n []))
unfolding final_all
finals-some [] ps n e h = absurd (omega arith)
finals-some (d ∷ ds) [] n e h = absurd (omega arith)
finals-some (d ∷ ds) (p ∷ ps) zero e h = (final (from_top d) (meets p), refl, params-final (from_top d) (meets p))
finals-some (d ∷ ds) (p ∷ ps) (suc n) e h = finals-some ds ps n (omega arith) (omega arith)

module _ (c : Contract) (r : Rehearsal) (f : List StackParam → Rehearsed) {a : Rehearsed} (same : r.path < length c.declarations → a ≡ f (from_top (declaration_of c r.path))) where
  on-accepted : check_tree c ≡ Ok tt → turn_by (check_path (length c.declarations) r.path) a ≡ on_table f (get_elem? (finals c) r.path)
  unfolding turn_by check_path on_table
  on-accepted h = go (ltb r.path (length c.declarations)) refl
    where
      go : (b : Bool) → ltb r.path (length c.declarations) ≡ b → turn_by (check_path (length c.declarations) r.path) a ≡ on_table f (get_elem? (finals c) r.path)
      go true e =
          let lt = ltb-true r.path (length c.declarations) e in
          let k = finals-some c.declarations (paths c.block) r.path ((accepted-in-order c h).0.counts ∙ count-paths c.block) lt in
          rw (e, check_path) (same lt ∙ sym (ap (on_table f) k.1 ∙ ap f k.2))
      go false e = rw (e, check_path) (sym (ap (on_table f) (finals-none c.declarations (paths c.block) r.path (ltb-false r.path (length c.declarations) e))))

  -- any contract
  on-analyzed : turn_by (tests (answer (analyze c)) (length c.declarations) r) a ≡ on_tables r.path f (analyze c)
  unfolding turn_by on_tables answer check_tree
  on-analyzed = go (analyze c) refl
    where
      go : (w : Result Analysis) → analyze c ≡ w → turn_by (tests (answer (analyze c)) (length c.declarations) r) a ≡ on_tables r.path f (analyze c)
      go (Err x) e = rw e
      go (Ok x) e =
          let h : check_tree c ≡ Ok tt = ap answer e in
          ap (λ w. turn_by (tests (answer w) (length c.declarations) r) a) e ∙ on-accepted h ∙ sym (ap (on_tables r.path f) (accepted-finals c h))

-- ---- the place of an item due lies in the listing

refused-inside : (s : List ℕ) (x : CompileError) → DueInside s (Refused x)
refused-inside s x p t r e = let z : ◌≡◌ {A = ℕ} 0 1 = cc in absurd (omega arith)

module _ (s : List ℕ) (ps : List (List Item)) (short : length s ≤ max_bytes) (inside : (path k : ℕ) (x : Item) → item_from ps path k ≡ some x → Inside s x.name) where
  due-inside : (r : Rehearsal) → DueInside s (due_in ps r)
  unfolding due_of
  due-inside r = go (item_from ps r.path r.due) refl
    where
      go : (o : Option Item) → item_from ps r.path r.due ≡ o → DueInside s (due_of r o)
      go none e p t q f = let z : ◌≡◌ {A = ℕ} 0 1 = cc in absurd (omega arith)
      go (some x) e p t q f =
          let same : x.name ≡ p = cc in
          let i = subst (Inside s) same (inside r.path r.due x e) in
          (i, omega (arith, i, short))

  turn_inside : (r : Rehearsal) (turn : Turn) → DueInside s (turn_in s ps r turn)
  unfolding turn_in lay_in
  turn_inside r Open = due-inside (onward r.path (beginning s))
  turn_inside r TakeBack = due-inside (onward r.path (lowered (beginning s) r.due))
  turn_inside r (Lay x k) = go (is_item s (record { name = x.now; ty = k }) (item_from ps r.path r.due)) refl
    where
      go : (b : Bool) → is_item s (record { name = x.now; ty = k }) (item_from ps r.path r.due) ≡ b → DueInside s (lay_in s ps r (record { name = x.now; ty = k }))
      go true e = rw (e, lay_in) (due-inside (onward r.path (suc r.due)))
      go false e = rw (e, lay_in) (refused-inside s _)

by-inside : (s : List ℕ) (v : Checked) (a : Rehearsed) → DueInside s a → DueInside s (turn_by v a)
unfolding turn_by
by-inside s (Err x) a h = refused-inside s x
by-inside s (Ok _) a h = h

-- ---- what a turn answers

module _ (s : List ℕ) (words : ℕ) (r : Rehearsal) (turn : Turn) where
  pub refuses : {x : CompileError} → examine s words ≡ Err x → Refused x ≡ turned s words r turn
  unfolding on_path on_tables
  refuses is = sym (ap (on_tables r.path (act s r turn)) is)

  module _ {t : List ℕ} {n : ℕ} (st : ContractAt s t n) (c : Contract) (sp : SpellsContract (line_in t) s c n) (d : Declares t (items s)) where
    pub turns : examine s words ≡ analyze c → turn_by (tests (answer (analyze c)) (length c.declarations) r) (turn_in s (items s) r turn) ≡ turned s words r turn
    unfolding on_path item_at
    turns is =
        let few = (declared-as st refl c sp).count in
        let same : r.path < length c.declarations → turn_in s (items s) r turn ≡ act s r turn (from_top (declaration_of c r.path)) = λ lt. turn-same s (from_top (declaration_of c r.path)) r turn (λ k. item-declared st refl d c sp r.path k (omega (arith, few, lt))) in
        on-analyzed c r (act s r turn) same ∙ sym (ap (on_tables r.path (act s r turn)) is)

    pub turned-inside : (v : Checked) → DueInside s (turn_by v (turn_in s (items s) r turn))
    turned-inside v = by-inside s v (turn_in s (items s) r turn) (turn_inside s (items s) st.rows.short (λ path k x q. item-inside st refl d path k q) r turn)

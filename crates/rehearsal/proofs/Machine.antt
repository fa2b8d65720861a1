-- The plain machine by itself, and the counted state on one table beside it.
use Prim.Native.Nat.{ℕ, zero, suc, ◌+◌, ◌-◌}
use native.Mathlib.Omega.{arith}
use mathlib.Core.Bool.{Bool, true, false}
use mathlib.Core.List.{List, [], ◌∷◌, ◌++◌, map, drop_last, append_assoc, append-nil}
use mathlib.Core.Option
use mathlib.Core.Option.{Option, some, none}
use mathlib.Core.Path.{◌≡◌, refl, sym, ◌∙◌, ap, ap₂, subst}
use lib.Dec.{ltb}
use lib.ListN.{length, drop, get_elem?, length-append}
use borrow.Author.Tests.{ltb-true, ltb-false, eqb-true, eq-eqb}
use Rattle.std.proofs.lemmas.Bool.{and_parts}
use Rattle.ast.specs.declared.CompileError.{CompileError}
use Rattle.ast.specs.Tree.{StackParam}
use Rattle.ast.specs.Numbers.{type_number}
use Rattle.text.specs.Text.{part}
use Rattle.rules.proofs.Basics.{true≢false', same_true, same_refl}
use Rattle.rows.specs.Work.{work_words}
use mathlib.Core.Bool.{and-true as and-all}
use Rattle.declarations.proofs.Looking.{element-map}
use Rattle.reporting.specs.Text.{WitnessItem, item_of}
use Rattle.examiner.specs.Name.{item_at, name_of, place_or}
use Rattle.turns.specs.declared.Rehearsal.{Rehearsal}
use Rattle.turns.specs.declared.Rehearsed.{Rehearsed}
use Rattle.turns.specs.State.{same_item, not_due, onward, lowered}
use Rattle.rehearsal.specs.Rehearse.{shown_of, shown, is_due, lay_on}
use Rattle.rehearsal.specs.Plain.{Said, due, ended, begins, next, Ask, lay, take_back, Step, stay, move, asked}
use Rattle.rehearsal.specs.Calls.{Call, kept, said_by, called, sayings, items_after, standing}

-- ---- the plain machine

same-items : (x y : WitnessItem) → same_item x y ≡ true → x ≡ y
unfolding same_item
same-items x y h =
    let p = and_parts _ _ h in
    let n = same_true x.name y.name p.0 in
    let t = eqb-true x.ty y.ty p.1 in
    ap₂ (λ n t. record { name = n; ty = t }) n t

-- a beginning that is followed by nothing is all
ended-all : (lines xs : List WitnessItem) → begins xs lines ≡ true → next lines xs ≡ ended → xs ≡ lines
unfolding begins next
ended-all [] [] b h = refl
ended-all [] (x ∷ xs) b h = absurd (true≢false' b refl)
ended-all (y ∷ lines) [] b h = let z : ◌≡◌ {A = ℕ} 0 1 = cc in absurd (omega arith)
ended-all (y ∷ lines) (x ∷ xs) b h = let p = and_parts (same_item x y) (begins xs lines) b in ap₂ ◌∷◌ (same-items x y p.0) (ended-all lines xs p.1 h)

all-ended : (lines : List WitnessItem) → next lines lines ≡ ended
unfolding next
all-ended [] = refl
all-ended (y ∷ lines) = all-ended lines

begins-last : (xs lines : List WitnessItem) → begins xs lines ≡ true → begins (drop_last xs) lines ≡ true
unfolding begins
begins-last [] lines h = refl
begins-last (x ∷ []) lines h = refl
begins-last (x ∷ z ∷ xs) [] h = absurd (true≢false' h refl)
begins-last (x ∷ z ∷ xs) (y ∷ lines) h = let p = and_parts (same_item x y) (begins (z ∷ xs) lines) h in rw p.0 (begins-last (z ∷ xs) lines p.1)

length_last : {A : Type 0} (xs : List A) → length (drop_last xs) ≡ length xs - 1
length_last [] = refl
length_last (x ∷ []) = refl
length_last (x ∷ y ∷ xs) = ap suc (length_last (y ∷ xs)) ∙ omega arith

-- the items laid are always a beginning of the lines
asked-begins : (lines xs : List WitnessItem) (a : Ask) → begins xs lines ≡ true → begins (asked lines xs a).items lines ≡ true
unfolding asked
asked-begins lines xs (lay x) h = go (begins (xs ++ (x ∷ [])) lines) refl
  where
    go : (b : Bool) → begins (xs ++ (x ∷ [])) lines ≡ b → begins (asked lines xs (lay x)).items lines ≡ true
    go true e = rw (e, asked) e
    go false e = rw (e, asked) h
asked-begins lines xs take_back h = begins-last xs lines h

called-begins : (lines xs : List WitnessItem) (c : Call) → begins xs lines ≡ true → begins (called lines xs c).items lines ≡ true
unfolding called
called-begins lines xs c h = go (ltb c.words work_words) refl
  where
    go : (b : Bool) → ltb c.words work_words ≡ b → begins (called lines xs c).items lines ≡ true
    go true e = rw (e, called) h
    go false e = rw (e, called) (asked-begins lines xs c.ask h)

pub after-begins : (lines xs : List WitnessItem) (cs : List Call) → begins xs lines ≡ true → begins (items_after lines xs cs) lines ≡ true
unfolding items_after
after-begins lines xs [] h = h
after-begins lines xs (c ∷ cs) h = after-begins lines (called lines xs c).items cs (called-begins lines xs c h)

-- a refusal leaves the items laid; else what is said is what is due after them
data Moves (lines xs : List WitnessItem) : Step → Type 0 where
  stays : (x : CompileError) → Moves lines xs (stay xs x)
  moves : (ys : List WitnessItem) → Moves lines xs (move lines ys)

asked-moves : (lines xs : List WitnessItem) (a : Ask) → Moves lines xs (asked lines xs a)
unfolding asked
asked-moves lines xs (lay x) = go (begins (xs ++ (x ∷ [])) lines) refl
  where
    go : (b : Bool) → begins (xs ++ (x ∷ [])) lines ≡ b → Moves lines xs (asked lines xs (lay x))
    go true e = rw (e, asked) (moves (xs ++ (x ∷ [])))
    go false e = rw (e, asked) (stays not_due)
asked-moves lines xs take_back = moves (drop_last xs)

called-moves : (lines xs : List WitnessItem) (c : Call) → Moves lines xs (called lines xs c)
unfolding called
called-moves lines xs c = go (ltb c.words work_words) refl
  where
    go : (b : Bool) → ltb c.words work_words ≡ b → Moves lines xs (called lines xs c)
    go true e = rw (e, called) (stays _)
    go false e = rw (e, called) (asked-moves lines xs c.ask)

standing-next : (lines ys : List WitnessItem) (a : Said) (later : List Said) → standing a (next lines ys ∷ later) ≡ standing (next lines ys) later
unfolding standing next
standing-next [] ys a later = refl
standing-next (y ∷ lines) [] a later = refl
standing-next (y ∷ lines) (x ∷ xs) a later = standing-next lines xs a later

-- what stands is what is due after the items laid
pub stands : (lines xs : List WitnessItem) (cs : List Call) → standing (next lines xs) (sayings lines xs cs) ≡ next lines (items_after lines xs cs)
unfolding standing sayings items_after
stands lines xs [] = refl
stands lines xs (c ∷ cs) = go (called lines xs c) (called-moves lines xs c) (λ ys. stands lines ys cs)
  where
    go : (k : Step) → Moves lines xs k → ((ys : List WitnessItem) → standing (next lines ys) (sayings lines ys cs) ≡ next lines (items_after lines ys cs)) → standing (next lines xs) (k.said ∷ sayings lines k.items cs) ≡ next lines (items_after lines k.items cs)
    go _ (stays x) ih = ih xs
    go _ (moves ys) ih = standing-next lines ys (next lines xs) (sayings lines ys cs) ∙ ih ys

-- so it is the end exactly when those are all
pub ends : (lines : List WitnessItem) (cs : List Call) → (standing (next lines []) (sayings lines [] cs) ≡ ended → items_after lines [] cs ≡ lines) × (items_after lines [] cs ≡ lines → standing (next lines []) (sayings lines [] cs) ≡ ended)
unfolding begins
ends lines cs = (
  λ h. ended-all lines (items_after lines [] cs) (after-begins lines [] cs refl) (sym (stands lines [] cs) ∙ h),
  λ h. stands lines [] cs ∙ ap (next lines) h ∙ all-ended lines,
)

-- the lines can be laid one after the other
same_item_lem : (x : WitnessItem) → same_item x x ≡ true
unfolding same_item
same_item_lem x = rw (same_refl x.name, same_item) (eq-eqb x.ty x.ty refl)

begins-append : (xs ys : List WitnessItem) → begins xs (xs ++ ys) ≡ true
unfolding begins
begins-append [] ys = refl
begins-append (x ∷ xs) ys = rw (same_item_lem x) (begins-append xs ys)

pub lay-all : (w : ℕ) → ltb w work_words ≡ false → (xs ys : List WitnessItem) → items_after (xs ++ ys) xs (map (λ x. record { words = w; ask = lay x }) ys) ≡ xs ++ ys
unfolding items_after called asked
lay-all w e xs [] = sym (append-nil xs)
lay-all w e xs (y ∷ ys) =
    let a : (xs ++ (y ∷ [])) ++ ys ≡ xs ++ y ∷ ys = append_assoc xs (y ∷ []) ys in
    let b : begins (xs ++ (y ∷ [])) (xs ++ y ∷ ys) ≡ true = subst (λ l. begins (xs ++ (y ∷ [])) l ≡ true) a (begins-append (xs ++ (y ∷ [])) ys) in
    let k : (called (xs ++ y ∷ ys) xs (record { words = w; ask = lay y })).items ≡ xs ++ (y ∷ []) = rw (e, called) (rw (b, asked) refl) in
    ap (λ l. items_after (xs ++ y ∷ ys) l (map (λ x. record { words = w; ask = lay x }) ys)) k
    ∙ subst (λ l. items_after l (xs ++ (y ∷ [])) (map (λ x. record { words = w; ask = lay x }) ys) ≡ l) a (lay-all w e (xs ++ (y ∷ [])) ys)

-- ---- positions in lists

drop_at : {A : Type 0} (b : ℕ) (xs : List A) (n : ℕ) → get_elem? (drop b xs) n ≡ get_elem? xs (b + n)
drop_at zero xs n = let e : n ≡ 0 + n = omega arith in ap (get_elem? xs) e
drop_at (suc b) [] n = refl
drop_at (suc b) (x ∷ xs) n = let e : suc (b + n) ≡ suc b + n = omega arith in drop_at b xs n ∙ ap (get_elem? (x ∷ xs)) e

-- what is due after the items laid is the line at their number
due_at : Option WitnessItem → Said
due_at none = ended
due_at (some y) = due y

next-at : (lines xs : List WitnessItem) → next lines xs ≡ due_at (get_elem? lines (length xs))
unfolding next due_at
next-at [] xs = refl
next-at (y ∷ lines) [] = refl
next-at (y ∷ lines) (x ∷ xs) = next-at lines xs

-- an item may be laid if it is that line
is_at : WitnessItem → Option WitnessItem → Bool
is_at x none = false
is_at x (some y) = same_item x y

lay_at : (xs lines : List WitnessItem) (x : WitnessItem) → begins xs lines ≡ true → begins (xs ++ (x ∷ [])) lines ≡ is_at x (get_elem? lines (length xs))
unfolding begins is_at
lay_at [] [] x h = refl
lay_at [] (y ∷ lines) x h = and-all (same_item x y)
lay_at (z ∷ xs) [] x h = absurd (true≢false' h refl)
lay_at (z ∷ xs) (y ∷ lines) x h = let p = and_parts (same_item z y) (begins xs lines) h in rw p.0 (lay_at xs lines x p.1)

due-at : (x : WitnessItem) (o : Option StackParam) → is_due x o ≡ is_at x (Option.map item_of o)
unfolding is_due is_at
due-at x none = refl
due-at x (some e) = refl

lowered-at : (b n : ℕ) → lowered b (b + n) ≡ b + (n - 1)
unfolding lowered
lowered-at b n = go (ltb b (b + n)) refl
  where
    go : (c : Bool) → ltb b (b + n) ≡ c → lowered b (b + n) ≡ b + (n - 1)
    go true e = let h = ltb-true b (b + n) e in rw (e, lowered) (omega arith)
    go false e = let h = ltb-false b (b + n) e in rw (e, lowered) (omega arith)

-- ---- the counted state on the items of a path, b being the beginning

kept-shown : (s : List ℕ) (t : List StackParam) (r q : Rehearsal) → kept r (shown s q t) ≡ q
unfolding kept shown shown_of
kept-shown s t r q = go (get_elem? t q.due)
  where
    go : (o : Option StackParam) → kept r (shown_of s q o) ≡ q
    go none = refl
    go (some e) = refl

-- the name of each item stands at its place
abbrev pub Named : List ℕ → ℕ → List StackParam → Type 0
Named s path t = (k : ℕ) (p : StackParam) → get_elem? t k ≡ some p → part s (place_or (name_of (item_at s path k))) ≡ p.identifier

-- the position due counts the items laid, which are a beginning of the lines
pub record Stands (path b : ℕ) (lines : List WitnessItem) (r : Rehearsal) (xs : List WitnessItem) : Type 0 where
  pub is : r ≡ onward path (b + length xs)
  pub fits : begins xs lines ≡ true

-- an answer on the items, and what the plain machine does
pub record Alike (s : List ℕ) (path b : ℕ) (lines : List WitnessItem) (r : Rehearsal) (a : Rehearsed) (k : Step) : Type 0 where
  pub said : said_by s a ≡ k.said
  pub then : Stands path b lines (kept r a) k.items

module _ (s : List ℕ) (path : ℕ) (t : List StackParam) (b : ℕ) (named : Named s path t) where
  shown-next : (xs : List WitnessItem) → said_by s (shown s (onward path (b + length xs)) t) ≡ next (drop b (map item_of t)) xs
  unfolding shown shown_of said_by due_at
  shown-next xs = go (get_elem? t (b + length xs)) refl ∙ sym (next-at (drop b (map item_of t)) xs ∙ ap due_at (drop_at b (map item_of t) (length xs) ∙ element-map item_of t (b + length xs)))
    where
      go : (o : Option StackParam) → get_elem? t (b + length xs) ≡ o → said_by s (shown_of s (onward path (b + length xs)) o) ≡ due_at (Option.map item_of o)
      go none e = refl
      go (some x) e = ap (λ n. due (record { name = n; ty = type_number x.ty })) (named (b + length xs) x e)

  -- shown at a count of items that are a beginning
  pub shown-alike : (r : Rehearsal) (xs : List WitnessItem) → begins xs (drop b (map item_of t)) ≡ true → Alike s path b (drop b (map item_of t)) r (shown s (onward path (b + length xs)) t) (move (drop b (map item_of t)) xs)
  shown-alike r xs h = record { said = shown-next xs; then = record { is = kept-shown s t r (onward path (b + length xs)); fits = h } }

  pub lay-alike : (xs : List WitnessItem) (x : WitnessItem) → begins xs (drop b (map item_of t)) ≡ true → Alike s path b (drop b (map item_of t)) (onward path (b + length xs)) (lay_on s (onward path (b + length xs)) x t) (asked (drop b (map item_of t)) xs (lay x))
  unfolding lay_on asked kept said_by
  lay-alike xs x h = go (begins (xs ++ (x ∷ [])) (drop b (map item_of t))) refl
    where
      same_test : is_due x (get_elem? t (b + length xs)) ≡ begins (xs ++ (x ∷ [])) (drop b (map item_of t))
      same_test = due-at x (get_elem? t (b + length xs)) ∙ sym (lay_at xs (drop b (map item_of t)) x h ∙ ap (is_at x) (drop_at b (map item_of t) (length xs) ∙ element-map item_of t (b + length xs)))

      go : (c : Bool) → begins (xs ++ (x ∷ [])) (drop b (map item_of t)) ≡ c → Alike s path b (drop b (map item_of t)) (onward path (b + length xs)) (lay_on s (onward path (b + length xs)) x t) (asked (drop b (map item_of t)) xs (lay x))
      go true e =
          let n : suc (b + length xs) ≡ b + length (xs ++ (x ∷ [])) = omega (arith, length-append xs (x ∷ [])) in
          rw (same_test ∙ e, lay_on) (rw (e, asked) (rw n (shown-alike (onward path (b + length xs)) (xs ++ (x ∷ [])) e)))
      go false e = rw (same_test ∙ e, lay_on) (rw (e, asked) (record { said = refl; then = record { is = refl; fits = h } }))

  pub back-alike : (xs : List WitnessItem) → begins xs (drop b (map item_of t)) ≡ true → Alike s path b (drop b (map item_of t)) (onward path (b + length xs)) (shown s (onward path (lowered b (b + length xs))) t) (asked (drop b (map item_of t)) xs take_back)
  unfolding asked
  back-alike xs h =
      let n : lowered b (b + length xs) ≡ b + length (drop_last xs) = lowered-at b (length xs) ∙ ap (b +◌) (sym (length_last xs)) in
      rw n (shown-alike (onward path (b + length xs)) (drop_last xs) (begins-last xs (drop b (map item_of t)) h))

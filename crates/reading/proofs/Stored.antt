-- Rows that hold a listing's lines: how they are stored one by one, and what they say of the listing.
use Prim.Native.Nat.{ℕ, zero, suc, ◌+◌, ◌≤◌, ◌<◌}
use native.Mathlib.Numerals.{add-one}
use native.Mathlib.Omega.{arith}
use mathlib.Core.Bool.{Bool, true, false}
use mathlib.Core.List.{List}
use mathlib.Core.Logic.{◌⊎◌, inl, inr}
use mathlib.Core.Path.{◌≡◌, refl, sym, ap, ◌∙◌, subst}
use borrow.Author.Tests.{ltb-true, ltb-false}
use lib.Dec.{ltb}
use lib.ListN.{length, drop}
use Rattle.listing.specs.declared.Lexed.TheVariants.{Good, Malformed as NoForm, End as AtEnd}
use Rattle.std.specs.Prelude.{Option, Some, None, option_map}
use Rattle.text.specs.declared.Cursor.{Cursor}
use Rattle.text.specs.Text.{Got, got, failed, read as read_from}
use Rattle.listing.specs.Forms.{line, next_of, lexed, line_at}
use Rattle.rows.specs.declared.Words.{Words}
use Rattle.lines.proofs.Located.{row_and_rest}
use lib.ListN.{drop_of_length-le}
use lib.Seq.{drop-cons}
use Rattle.listing.proofs.Places.{line-good, line-malformed, line-end}
use Rattle.rows.specs.Rows.{line_in as row_line, row_of, with_row, with_rows, HasRows}
use Rattle.rows.proofs.Laws.{rows-length, rows-line}
use Rattle.tree.specs.declared.Lines.{Lines}
use Rattle.reader.specs.Ast.{Line, Contract, Next, found, malformed, ended, next_line}
use Rattle.reader.specs.Ceilings.{max_lines, within_ceilings}
use Rattle.reader.specs.Source.{Source, read}
use Rattle.reader.specs.Reading.{read_listing}
use Rattle.reader.specs.Spells.{Reached, start, step, nth, line_in, lines_of}
use Rattle.tree.specs.Table.{Asked, Found, Malformed, End, asked, standing, Holds}
use Rattle.reading.specs.Held.{Stored}
use Rattle.reader.proofs.Spelling.{Whole, nth-next, reached-nth, reached-few, lists, listing-spells}

-- past the end
past : (s : List ℕ) (n : ℕ) → length s ≤ n → line_at s n ≡ AtEnd
unfolding line_at lexed next_line
past s n h = rw (line_at, next_line, drop_of_length-le s h) refl

-- a line and its row, read at the cursor c
pub record LineRead (c : Cursor) (row : Words) (d : Cursor) : Type 0 where
  pub line : Line
  pub row_is : row ≡ row_of line
  pub stands : line_at c.listing.now c.at ≡ Good line d.at
  pub cursor : d ≡ record c { at = d.at }

-- what stands at a cursor before the end, from what the code read there
module _ (c : Cursor) (h : c.at < length c.listing.now) where
  stands_as : line_at c.listing.now c.at ≡ lexed (next_of (line c.at (drop c.at c.listing.now)))
  unfolding line_at next_line
  stands_as = rw (line_at, drop-cons c.listing.now c.at 0 h, next_line) refl

  pub line-read : {row : Words} {d : Cursor} → option_map row_and_rest (read_from line c) ≡ Some (row, d) → LineRead c row d
  unfolding read_from next_of lexed
  line-read {row} {d} e = go (line c.at (drop c.at c.listing.now)) refl
    where
      go : (x : Got Line) → line c.at (drop c.at c.listing.now) ≡ x → LineRead c row d
      go (got l n t) q =
          let f : ◌≡◌ {A = Option (Words × Cursor)} (Some (row_of l, record c { at = n })) (Some (row, d)) = rw (read_from, q) at e in
          let pair : ◌≡◌ {A = Words × Cursor} (row_of l, record c { at = n }) (row, d) = cc in
          let cursor : record c { at = n } ≡ d = ap (λ p. p.1) pair in
          let place : n ≡ d.at = ap (λ x. x.at) cursor in
          record {
            line = l;
            row_is = sym (ap (λ p. p.0) pair);
            stands = stands_as ∙ ap (λ x. lexed (next_of x)) q ∙ ap (Good l) place;
            cursor = sym cursor ∙ ap (λ k. record c { at = k }) place;
          }
      go failed q = absurd (let z : ◌≡◌ {A = Option (Words × Cursor)} None (Some (row, d)) = rw (read_from, q) at e in let o : ◌≡◌ {A = ℕ} 0 1 = cc in omega arith)

  pub line-none : option_map row_and_rest (read_from line c) ≡ None → line_at c.listing.now c.at ≡ NoForm
  unfolding read_from next_of lexed
  line-none e = go (line c.at (drop c.at c.listing.now)) refl
    where
      go : (x : Got Line) → line c.at (drop c.at c.listing.now) ≡ x → line_at c.listing.now c.at ≡ NoForm
      go (got l n t) q = absurd (let z : ◌≡◌ {A = Option (Words × Cursor)} (Some (row_of l, record c { at = n })) None = rw (read_from, q) at e in let o : ◌≡◌ {A = ℕ} 0 1 = cc in omega arith)
      go failed q = stands_as ∙ ap (λ x. lexed (next_of x)) q

-- the first count lines are stored, and the next one stands at a position
pub record Storing (s w t : List ℕ) (count at : ℕ) : Type 0 where
  pub rows : t ≡ with_rows w count (lines_of s)
  pub found : (k : ℕ) → k < count → standing (nth k 0 s) ≡ Found (lines_of s k)
  pub here : nth count 0 s ≡ next_line at (drop at s)

pub storing-none : (s w : List ℕ) → Storing s w w 0 0
unfolding with_rows nth
storing-none s w = record { rows = refl; found = λ k h. absurd (omega arith); here = refl }

module _ (s w t : List ℕ) (count at : ℕ) (h : Storing s w t count at) where
  -- the line that stands there is the next of the listing
  next-line : (l : Line) (m : ℕ) → line_at s at ≡ Good l m → nth count 0 s ≡ found l m (drop m s)
  next-line l m e = h.here ∙ line-good s at l m e

  line-more : (l : Line) (m : ℕ) → line_at s at ≡ Good l m → (r : List ℕ) → r ≡ with_row t count l → Storing s w r (count + 1) m
  unfolding with_rows standing line_in
  line-more l m e r q =
      let n = next-line l m e in
      let line : lines_of s count ≡ l = ap line_in n in
      record {
        rows = rw (add-one, line, ← h.rows) q;
        found = λ k i. latest k i (k-cases k i);
        here = rw add-one (nth-next count 0 m s (drop m s) l n);
      }
    where
      k-cases : (k : ℕ) → k < count + 1 → (k < count) ⊎ (k ≡ count)
      k-cases k i = below (ltb k count) refl
        where
          below : (b : Bool) → ltb k count ≡ b → (k < count) ⊎ (k ≡ count)
          below true p = inl (ltb-true k count p)
          below false p = let z = ltb-false k count p in inr (omega arith)

      latest : (k : ℕ) → k < count + 1 → (k < count) ⊎ (k ≡ count) → standing (nth k 0 s) ≡ Found (lines_of s k)
      latest k i (inl a) = h.found k a
      latest k i (inr a) = subst (λ k. standing (nth k 0 s) ≡ Found (lines_of s k)) (sym a) (ap standing (next-line l m e) ∙ ap Found (sym (ap line_in (next-line l m e))))

  -- the next line was stored, if there is one
  pub storing-more : {l : Line} {m : ℕ} → line_at s at ≡ Good l m → {r : List ℕ} → r ≡ with_row t count l → Storing s w r (count + 1) m
  storing-more {l} {m} e {r} q = line-more l m e r q

  pub stored-malformed : line_at s at ≡ NoForm → count ≤ suc max_lines → Stored s w t (record { count = count; ended = false })
  unfolding standing
  stored-malformed e f = record { rows = h.rows; few = f; found = h.found; after = λ i. ap standing (h.here ∙ line-malformed s at e) }

  pub stored-end : length s ≤ at → count ≤ suc max_lines → Stored s w t (record { count = count; ended = true })
  unfolding standing
  stored-end e f = record { rows = h.rows; few = f; found = h.found; after = λ i. ap standing (h.here ∙ line-end s at (past s at e)) }

  pub stored-full : suc max_lines ≤ count → count ≤ suc max_lines → Stored s w t (record { count = count; ended = false })
  stored-full g f = record { rows = h.rows; few = f; found = h.found; after = λ i. absurd (omega arith) }

-- a line of the listing that passes no ceiling of its own
record There (s : List ℕ) (k : ℕ) : Type 0 where
  line : Line
  at : ℕ
  rest : List ℕ
  stands : nth k 0 s ≡ found line at rest
  fits : within_ceilings line ≡ true

reached-there : (s : List ℕ) {r : Source} → Reached s r → (k : ℕ) → k < r.index → There s k
reached-there s start k i = absurd (omega arith)
reached-there s (step {r} {l} {n} {t} reached e f w) k i = go (ltb k r.index) refl (λ h. reached-there s reached k h)
  where
    go : (b : Bool) → ltb k r.index ≡ b → (k < r.index → There s k) → There s k
    go true p ih = ih (ltb-true k r.index p)
    go false p ih =
        let x = ltb-false k r.index p in
        let same : k ≡ r.index = omega arith in
        record { line = l; at = n; rest = t; stands = ap (λ k. nth k 0 s) same ∙ reached-nth s reached ∙ e; fits = w }

pub reached-fits : (s : List ℕ) {r : Source} → Reached s r → (k : ℕ) → k < r.index → within_ceilings (lines_of s k) ≡ true
unfolding line_in
reached-fits s reached k i = let l = reached-there s reached k i in ap (λ y. within_ceilings (line_in y)) l.stands ∙ l.fits

-- past a line of no form, and past the end, nothing else stands
abbrev Stops : Next → Type 0
Stops y = (l : Line) (m : ℕ) (u : List ℕ) → y ≡ found l m u → ⊥

pub nth-stops : (c k n : ℕ) (t : List ℕ) (y : Next) → nth c n t ≡ y → Stops y → c ≤ k → nth k n t ≡ y
unfolding nth
nth-stops zero zero n t y h st i = h
nth-stops zero (suc k) n t (found l m u) h st i = absurd (st l m u refl)
nth-stops zero (suc k) n t malformed h st i = rw (h, nth)
nth-stops zero (suc k) n t ended h st i = rw (h, nth)
nth-stops (suc c) zero n t y h st i = absurd (omega arith)
nth-stops (suc c) (suc k) n t y h st i = go (next_line n t) refl (λ m u. nth-stops c k m u y)
  where
    go : (x : Next) → next_line n t ≡ x → ((m : ℕ) (u : List ℕ) → nth c m u ≡ y → Stops y → c ≤ k → nth k m u ≡ y) → nth (suc k) n t ≡ y
    go (found l m u) e ih = rw (e, nth) (ih m u (rw (e, nth) at h) st (omega arith))
    go malformed e ih = rw (e, nth) (rw (e, nth) at h)
    go ended e ih = rw (e, nth) (rw (e, nth) at h)

-- what a table says after its last row
abbrev After : Bool → Asked
After b = elim b [ true ↦ End | false ↦ Malformed ]

after-stops : (b : Bool) (y : Next) → standing y ≡ After b → Stops y
unfolding standing
after-stops true y h l m u e = let q : ◌≡◌ {A = Asked} (Found l) End = sym (ap standing e) ∙ h in let z : ◌≡◌ {A = ℕ} 0 1 = cc in omega arith
after-stops false y h l m u e = let q : ◌≡◌ {A = Asked} (Found l) Malformed = sym (ap standing e) ∙ h in let z : ◌≡◌ {A = ℕ} 0 1 = cc in omega arith

module _ (s w t : List ℕ) (n : Lines) (h : Stored s w t n) (room : HasRows w n.count) where
  pub stored-line : (k : ℕ) → k < n.count → row_line t k ≡ lines_of s k
  stored-line k i = ap (λ t. row_line t k) h.rows ∙ rows-line w n.count (lines_of s) room k i

  pub stored-length : length t ≡ length w
  stored-length = ap length h.rows ∙ rows-length w n.count (lines_of s)

  -- the table says of each line that may be asked what the listing says
  pub stored-holds : Holds s t n
  unfolding asked
  stored-holds k few = go (ltb k n.count) refl
    where
      go : (b : Bool) → ltb k n.count ≡ b → asked t n k ≡ standing (nth k 0 s)
      go true e = let i = ltb-true k n.count e in rw (e, asked) (ap Found (stored-line k i) ∙ sym (h.found k i))
      go false e =
          let i = ltb-false k n.count e in
          let a = h.after (omega arith) in
          rw (e, asked) (sym a ∙ ap standing (sym (nth-stops n.count k 0 s (nth n.count 0 s) refl (after-stops n.ended (nth n.count 0 s) a) i)))

  -- a listing that is read has as many lines as were stored
  pub stored-count : {c : Contract} {q : Source} → read_listing s ≡ read c q → q.index ≡ n.count
  unfolding standing
  stored-count {c} {q} e = ends (ltb q.index n.count) refl (ltb n.count q.index) refl
    where
      whole : Whole (lines_of s) s (lists s) c q × Reached s q
      whole = listing-spells (lines_of s) s (lists s) c q e

      last : nth q.index 0 s ≡ ended
      last = reached-nth s whole.1 ∙ whole.0.ends

      early : (k : ℕ) → k < q.index → k ≡ n.count → ⊥
      early k i p =
          let f = reached-there s whole.1 k i in
          after-stops n.ended (nth k 0 s) (ap (λ k. standing (nth k 0 s)) p ∙ h.after (omega (arith, reached-few whole.1))) f.line f.at f.rest f.stands

      ends : (a : Bool) → ltb q.index n.count ≡ a → (b : Bool) → ltb n.count q.index ≡ b → q.index ≡ n.count
      ends true i b j = let z : ◌≡◌ {A = Asked} End (Found (lines_of s q.index)) = sym (ap standing last) ∙ h.found q.index (ltb-true q.index n.count i) in let o : ◌≡◌ {A = ℕ} 0 1 = cc in absurd (omega arith)
      ends false i true j = absurd (early n.count (ltb-true n.count q.index j) refl)
      ends false i false j = omega (arith, ltb-false q.index n.count i, ltb-false n.count q.index j)

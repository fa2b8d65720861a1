-- What an examination of a listing makes of its reading, and what it leaves.
use Prim.Native.Nat.{ℕ, zero, suc, ◌≤◌, ◌<◌}
use native.Mathlib.Omega.{arith}
use mathlib.Core.Bool.{Bool, true, false}
use mathlib.Core.List.{List}
use mathlib.Core.Path.{◌≡◌, refl, sym, ap, ◌∙◌, subst}
use borrow.Author.Tests.{ltb-false, le-ltb}
use lib.Dec.{ltb}
use lib.ListN.{length, drop}
use Rattle.ast.specs.declared.ErrorKind.TheVariants.{WorkTooShort}
use Rattle.ast.specs.declared.CompileError.{CompileError}
use Rattle.ast.specs.Tree.{Contract, fault, unplaced}
use Rattle.listing.specs.declared.Line.{Line}
use Rattle.listing.specs.declared.Lexed.TheVariants.{Good}
use Rattle.listing.specs.Forms.{Next, found, malformed, ended, next_line, lexed, line_at}
use Rattle.listing.specs.Kinds.{part_of}
use Rattle.listing.proofs.Places.{line-good}
use Rattle.listing.proofs.Parts.{line-part}
use Rattle.rules.specs.Analyze.{analyze}
use Rattle.rows.specs.Rows.{line_in, with_rows}
use Rattle.rows.specs.Work.{work_words, cleared}
use Rattle.rows.proofs.Laws.{clear-rows, rows-length}
use Rattle.reading.specs.Held.{ListingRead, rows_of, rows_left, listing_read, work_read, Spelled}
use Rattle.std.specs.Prelude.{Ok, Err}
use Rattle.reader.specs.Source.{Read, read, refused}
use Rattle.reader.specs.Reading.{read_listing}
use Rattle.reader.specs.Spells.{nth, lines_of, line_in as line_of}
use Rattle.reader.proofs.Complete.{reads-readable}
use Rattle.declarations.specs.Items.{ContractAt}
use Rattle.examiner.specs.Check.{analyzed, examine}
use Rattle.examiner.specs.Lent.{work_after}
use Rattle.examiner.proofs.Demand3.{examined}
use Rattle.std.specs.Fn.{Mut, Called}

refused≢rows : {x : CompileError} {n : ℕ} → Err x ≡ Ok n → ⊥
refused≢rows h = let z : ◌≡◌ {A = ℕ} 0 1 = cc in omega arith

-- a listing that is not read: its refusal is that of the examination, and work is left as after it
module _ (s : List ℕ) (x : CompileError) where
  examine-refused : (words : ℕ) → listing_read s words ≡ Err x → examine s words ≡ Err x
  unfolding listing_read rows_of examine analyzed
  examine-refused words h = go (ltb words work_words) refl
    where
      reading : ltb words work_words ≡ false → (y : Read Contract) → read_listing s ≡ y → examine s words ≡ Err x
      reading e (read c q) f = absurd (refused≢rows (sym (rw (e, f, listing_read) at h)))
      reading e (refused z) f =
          let g : ◌≡◌ {A = ListingRead} (Err z) (Err x) = rw (e, f, listing_read) at h in
          let i : z ≡ x = cc in
          rw (e, f, examine) (ap Err i)

      go : (b : Bool) → ltb words work_words ≡ b → examine s words ≡ Err x
      go true e =
          let g : ◌≡◌ {A = ListingRead} (Err (fault WorkTooShort unplaced)) (Err x) = rw (e, listing_read) at h in
          let i : fault WorkTooShort unplaced ≡ x = cc in
          rw (e, examine) (ap Err i)
      go false e = reading e (read_listing s) refl

  work-refused : (w : List ℕ) → listing_read s (length w) ≡ Err x → work_read s w ≡ work_after w
  unfolding listing_read rows_of work_read work_after rows_left
  work-refused w h = go (ltb (length w) work_words) refl
    where
      reading : ltb (length w) work_words ≡ false → (y : Read Contract) → read_listing s ≡ y → work_read s w ≡ work_after w
      reading e (read c q) f = absurd (refused≢rows (sym (rw (e, f, listing_read) at h)))
      reading e (refused z) f = rw (e, f, work_read, work_after) refl

      go : (b : Bool) → ltb (length w) work_words ≡ b → work_read s w ≡ work_after w
      go true e = rw (e, work_read, work_after) refl
      go false e = reading e (read_listing s) refl

-- a line of the listing stands at some position of it
nth-at : (s : List ℕ) (k n : ℕ) (l : Line) (m : ℕ) (u : List ℕ) → nth k n (drop n s) ≡ found l m u → (a : ℕ) × (line_at s a ≡ Good l m)
unfolding nth line_at lexed
nth-at s zero n l m u h = (n, ap lexed h)
nth-at s (suc k) n l m u h = go (next_line n (drop n s)) refl (λ n h. nth-at s k n l m u h)
  where
    go : (y : Next) → next_line n (drop n s) ≡ y → ((n : ℕ) → nth k n (drop n s) ≡ found l m u → (a : ℕ) × (line_at s a ≡ Good l m)) → (a : ℕ) × (line_at s a ≡ Good l m)
    go (found l' m' u') e ih = ih m' (rw (line-good s n l' m' (ap lexed e), nth) at h)
    go malformed e ih = let g : ◌≡◌ {A = Next} malformed (found l m u) = rw (e, nth) at h in let z : ◌≡◌ {A = ℕ} 0 1 = cc in absurd (omega arith)
    go ended e ih = let g : ◌≡◌ {A = Next} ended (found l m u) = rw (e, nth) at h in let z : ◌≡◌ {A = ℕ} 0 1 = cc in absurd (omega arith)

module _ (s t : List ℕ) (n : ℕ) (h : Spelled s t n) where
  -- the rows that spell a contract can be read
  pub spelled_at : ContractAt s t n
  unfolding line_of
  spelled_at =
      let readable = reads-readable s h.contract h.source h.reads in
      record {
        contract = h.contract;
        spells = h.spells;
        rows = record {
          short = readable.short;
          few = h.few;
          room = h.room;
          parts = λ k i x p.
              let g = readable.good k (subst (λ n. k < n) (sym h.count) i) in
              let line : line_in t k ≡ g.line = h.lines k i ∙ ap line_of g.stands in
              let at = nth-at s k 0 g.line g.at g.rest g.stands in
              line-part s at.0 g.line g.at at.1 x (sym (ap part_of line) ∙ p);
        };
        fits = h.fits;
      }

  module _ (w : List ℕ) (enough : work_words ≤ length w) (e : t ≡ work_read s w) where
    rows : t ≡ with_rows w h.source.index (lines_of s)
    unfolding work_read rows_left
    rows = e ∙ rw (le-ltb (length w) work_words enough, h.reads, work_read) refl

    room-read : work_words ≤ length t
    room-read = subst (λ k. work_words ≤ k) (sym (ap length rows ∙ rows-length w h.source.index (lines_of s))) enough

    work-cleared : cleared t ≡ work_after w
    unfolding work_after
    work-cleared =
        let few = h.few in
        let count = h.count in
        rw (le-ltb (length w) work_words enough, work_after) (ap cleared rows ∙ clear-rows w h.source.index (lines_of s) (omega (arith, few, count)))

-- a listing that is read has work enough
rows-enough : (s : List ℕ) (words n : ℕ) → listing_read s words ≡ Ok n → work_words ≤ words
unfolding listing_read
rows-enough s words n h = go (ltb words work_words) refl
  where
    go : (b : Bool) → ltb words work_words ≡ b → work_words ≤ words
    go true e = absurd (refused≢rows (rw (e, listing_read) at h))
    go false e = ltb-false words work_words e

-- what is answered and left, by what the reading answered and left
module _ (s w t : List ℕ) {y : ListingRead} (answered : y ≡ listing_read s (length w)) (held : t ≡ work_read s w) where
  pub reading-refused : {x : CompileError} → y ≡ Err x → (examine s (length w) ≡ Err x) × (t ≡ work_after w)
  reading-refused {x} e =
      let h = sym answered ∙ e in
      (examine-refused s x (length w) h, held ∙ work-refused s x w h)

  module _ {n : ℕ} (e : y ≡ Ok n) (h : Spelled s t n) where
    enough : work_words ≤ length w
    enough = rows-enough s (length w) n (sym answered ∙ e)

    pub reading-room : work_words ≤ length t
    reading-room = room-read s t n h w enough held

    pub reading-analyzed : examine s (length w) ≡ analyze h.contract
    reading-analyzed = examined s (length w) h.contract enough (h.source, h.reads)

    pub reading-cleared : cleared t ≡ work_after w
    reading-cleared = work-cleared s t n h w enough held

-- a call that gives r
pub called-as : {F A R : Type 0} {g : Mut F A R} {f : F} {a : A} {r x : R} {f' : F} → Called g f a r f' → r ≡ x → Called g f a x f'
called-as {g = g} {f = f} {a = a} {f' = f'} h e = subst (λ x. Called g f a x f') e h

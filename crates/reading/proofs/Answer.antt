-- What reading a listing answers and leaves, from what its parts did.
use Prim.Native.Nat.{ℕ, ◌*◌, ◌≤◌, ◌<◌}
use native.Mathlib.Omega.{arith}
use mathlib.Core.List.{List}
use mathlib.Core.Path.{◌≡◌, refl, sym, ap, ◌∙◌, subst}
use borrow.Author.Tests.{lt-ltb, le-ltb, le-leb, lt-leb}
use lib.ListN.{length}
use Rattle.ast.specs.declared.ErrorKind.TheVariants.{WorkTooShort, ListingTooLong}
use Rattle.ast.specs.Tree.{Contract, fault, unplaced}
use Rattle.rows.specs.Rows.{line_in as row_line, with_rows, row_words, HasRows}
use Rattle.rows.specs.Work.{work_words, cleared}
use Rattle.rows.proofs.Laws.{clear-rows}
use Rattle.tree.specs.declared.Lines.{Lines}
use Rattle.std.specs.Prelude.{Result, Ok, Err, is_err}
use mathlib.Core.Bool.{Bool, true, false}
use Rattle.reader.specs.Ast.{CompileError}
use Rattle.reader.specs.Source.{Source, source, Read, read, refused}
use Rattle.reader.specs.Ceilings.{max_bytes, within_ceilings}
use Rattle.reader.specs.Reading.{contract, read_listing}
use Rattle.reader.specs.Spells.{lines_of}
use Rattle.tree.specs.Table.{stepped}
use Rattle.reading.specs.Held.{Stored, rows_of, rows_kept, rows_left, listing_read, work_read, Spelled}
use Rattle.reader.proofs.Spelling.{lists, listing-spells, reached-few}
use Rattle.reader.proofs.Agree.{contract-agrees}
use Rattle.reading.proofs.Stored.{reached-fits, stored-line, stored-length, stored-count}

-- a contract that was read, and a refusal
pub kept_read : (y : Read Contract) (r : Result ℕ CompileError) (t : List ℕ) → r ≡ stepped y → is_err r ≡ false → (r ≡ rows_of y) × (t ≡ rows_kept y t)
unfolding stepped rows_of rows_kept
kept_read (read c q) r t h e = (h, refl)
kept_read (refused x) r t h e = let z : ◌≡◌ {A = Bool} true false = rw h at e in absurd (let o : ◌≡◌ {A = ℕ} 0 1 = cc in omega arith)

pub kept-refused : (y : Read Contract) (r : Result ℕ CompileError) (t u : List ℕ) → r ≡ stepped y → is_err r ≡ true → u ≡ cleared t → (r ≡ rows_of y) × (u ≡ rows_kept y t)
unfolding stepped rows_of rows_kept
kept-refused (read c q) r t u h e k = let z : ◌≡◌ {A = Bool} false true = rw h at e in absurd (let o : ◌≡◌ {A = ℕ} 0 1 = cc in omega arith)
kept-refused (refused x) r t u h e k = (h, k)

-- nothing is spelled by a refusal
refused≢rows : {x : CompileError} {n : ℕ} → Err x ≡ Ok n → ⊥
refused≢rows h = let z : ◌≡◌ {A = ℕ} 0 1 = cc in omega arith

-- the three things that are promised of an answer r and of work at exit t
abbrev pub Promised : List ℕ → List ℕ → Result ℕ CompileError → List ℕ → Type 0
Promised s w r t = (r ≡ listing_read s (length w)) × ((t ≡ work_read s w) × ((n : ℕ) → r ≡ Ok n → Spelled s t n))

pub read_short : (s w : List ℕ) (x : CompileError) → length w < work_words → x ≡ fault WorkTooShort unplaced → Promised s w (Err x) w
unfolding listing_read work_read
read_short s w x h e = (rw (lt-ltb (length w) work_words h, e, listing_read), (rw (lt-ltb (length w) work_words h, work_read), λ n q. absurd (refused≢rows q)))

pub read-long : (s w t : List ℕ) (x : CompileError) → work_words ≤ length w → max_bytes < length s → t ≡ cleared w → x ≡ fault ListingTooLong unplaced → Promised s w (Err x) t
unfolding listing_read work_read read_listing rows_of rows_left
read-long s w t x h l c e =
    (rw (le-ltb (length w) work_words h, lt-leb (length s) max_bytes l, e, read_listing, listing_read), (rw (le-ltb (length w) work_words h, lt-leb (length s) max_bytes l, read_listing, work_read) c, λ n q. absurd (refused≢rows q)))

-- the rows of a listing that is read spell its contract
module _ (s w u : List ℕ) (n : Lines) (h : Stored s w u n) (few : n.count * row_words ≤ work_words) (long : work_words ≤ length w) where
  room : HasRows w n.count
  room = omega arith

  spelled : {c : Contract} {q : Source} → read_listing s ≡ read c q → Spelled s u q.index
  spelled {c} {q} e =
      let f = listing-spells (lines_of s) s (lists s) c q e in
      let k = stored-count s w u n h room e in
      let agree : (k : ℕ) → k < q.index → row_line u k ≡ lines_of s k = λ j i. stored-line s w u n h room j (omega arith) in
      record {
        contract = c;
        source = q;
        reads = e;
        count = refl;
        few = reached-few f.1;
        room = omega (arith, stored-length s w u n h room);
        lines = agree;
        fits = λ k i. ap within_ceilings (agree k i) ∙ reached-fits s f.1 k i;
        spells = contract-agrees (lines_of s) (row_line u) s f.0.spells agree;
        shallow = f.0.shallow;
        nested = f.0.nested;
      }

  pub read-within : (r : Result ℕ CompileError) (t : List ℕ) → length s ≤ max_bytes → r ≡ rows_of (contract s (source s 0 0)) → t ≡ rows_kept (contract s (source s 0 0)) u → Promised s w r t
  unfolding read_listing rows_of rows_kept rows_left listing_read work_read
  read-within r t l a b = go (read_listing s) refl (a ∙ ap rows_of same) (b ∙ ap (λ y. rows_kept y u) same)
    where
      same : contract s (source s 0 0) ≡ read_listing s
      same = rw (le-leb (length s) max_bytes l, read_listing)

      go : (y : Read Contract) → read_listing s ≡ y → r ≡ rows_of (read_listing s) → t ≡ rows_kept (read_listing s) u → Promised s w r t
      go (read c q) e a b =
          let k = stored-count s w u n h room e in
          let kept : t ≡ u = b ∙ ap (λ y. rows_kept y u) e in
          let rows : u ≡ with_rows w q.index (lines_of s) = h.rows ∙ ap (λ k. with_rows w k (lines_of s)) (sym k) in
          let is : r ≡ Ok q.index = a ∙ ap rows_of e in (
            rw (le-ltb (length w) work_words long, listing_read) a,
            (
              rw (le-ltb (length w) work_words long, e, work_read) (kept ∙ rows),
              λ m f. let g : ◌≡◌ {A = Result ℕ CompileError} (Ok q.index) (Ok m) = sym is ∙ f in let i : q.index ≡ m = cc in subst (Spelled s t) i (subst (λ t. Spelled s t q.index) (sym kept) (spelled e)),
            ),
          )
      go (refused x) e a b =
          let kept : t ≡ cleared u = b ∙ ap (λ y. rows_kept y u) e in
          let clear : cleared u ≡ cleared w = ap cleared h.rows ∙ clear-rows w n.count (lines_of s) few in
          let is : r ≡ Err x = a ∙ ap rows_of e in (
            rw (le-ltb (length w) work_words long, listing_read) a,
            (rw (le-ltb (length w) work_words long, e, work_read) (kept ∙ clear), λ m f. absurd (refused≢rows (sym is ∙ f))),
          )

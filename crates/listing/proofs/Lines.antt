-- What the code that reads lines cites: the fields of a form read one after another, byte 10 after them, and the letter before them.
use Prim.Native.Nat.{ℕ, ◌+◌, ◌≤◌, ◌<◌}
use native.Mathlib.Numerals.{add-one}
use mathlib.Core.List.{List, [], ◌∷◌}
use mathlib.Core.Path.{◌≡◌, refl, sym}
use borrow.Author.Tests.{ne_eqb}
use lib.ListN.{length, drop, get_or, drop_of_length-le}
use lib.Seq.{drop-cons}
use Rattle.listing.specs.Ast.{Location}
use Rattle.listing.specs.declared.Line.{Line}
use Rattle.std.specs.Prelude.{None}
use Rattle.text.specs.declared.Cursor.{Cursor}
use Rattle.text.specs.Text.{failed, Reader, read, ◌>>=◌, ◌<∘>◌, yield, fail, location}
use Rattle.listing.specs.Forms.{with, with₂, Form, forms, fields_of, closed, line}
use Rattle.text.proofs.Places.{bind-failed}
use Rattle.listing.proofs.Places.{fields-each}

-- what is not read, changed
pub map-failed : {A B : Type 0} (f : A → B) (r : Reader A) (s : List ℕ) (n : ℕ) → r n (drop n s) ≡ failed → (f <∘> r) n (drop n s) ≡ failed
unfolding ◌<∘>◌
map-failed f r s n h = bind-failed r (λ a. yield (f a)) s n h

-- where no w stands, none of the forms that have one does
module _ (s : List ℕ) (n : ℕ) (h : location n (drop n s) ≡ failed) where
  placed-failed : {A : Type 0} (g : Location → Reader A) → (location >>= g) n (drop n s) ≡ failed
  placed-failed g = bind-failed location g s n h

  mapped-failed : {A : Type 0} (f : A → Line) (g : Location → Reader A) → (f <∘> (location >>= g)) n (drop n s) ≡ failed
  mapped-failed f g = map-failed f (location >>= g) s n (placed-failed g)

  pub unplaced-failed : (b : ℕ) → (b ≡ 84 → ⊥) → (b ≡ 68 → ⊥) → (b ≡ 66 → ⊥) → fields_of forms b n (drop n s) ≡ failed
  unfolding with with₂ ◌<∘>◌ fail
  unplaced-failed b t d k =
      fields-each
      (λ r. r n (drop n s) ≡ failed)
      b
      forms
      (λ e. absurd (t (sym e)), (λ e. absurd (d (sym e)), (λ e. placed-failed _, (λ e. absurd (k (sym e)), (λ e. mapped-failed _ _, (λ e. mapped-failed _ _, (λ e. mapped-failed _ _, (λ e. mapped-failed _ _, (λ e. mapped-failed _ _, (λ e. mapped-failed _ _, (λ e. mapped-failed _ _, (λ e. mapped-failed _ _, (λ e. mapped-failed _ _, (λ e. mapped-failed _ _, (λ e. mapped-failed _ _, (λ e. mapped-failed _ _, (λ e. mapped-failed _ _, (λ e. mapped-failed _ _, (λ e. mapped-failed _ _, (λ e. mapped-failed _ _, (λ e. mapped-failed _ _, refl)))))))))))))))))))))

-- what stands at a cursor: nothing, or the form of a letter
pub line-past : (c : Cursor) → length c.listing.now ≤ c.at → read line c ≡ None
unfolding read line
line-past c h = rw (read, drop_of_length-le c.listing.now h, line) refl

pub line-form : (c : Cursor) → c.at < length c.listing.now → read line c ≡ read (closed (fields_of forms (get_or c.listing.now c.at 0))) (record c { at = c.at + 1 })
unfolding read line
line-form c h = rw (read, drop-cons c.listing.now c.at 0 h, line, add-one) refl

-- the letter k is that of none of these forms: what a `match` on it knows in its last arm
abbrev pub Apart : ℕ → Type 0 → List Form → Type 0
Apart k A [] = A
Apart k A (f ∷ fs) = Apart k (A × (k ≡ f.letter → ⊥)) fs

pub apart_from : (k : ℕ) (A B : Type 0) (fs : List Form) → (A → B) → Apart k A fs → Apart k B fs
apart_from k A B [] g h = g h
apart_from k A B (f ∷ fs) g h = apart_from k (A × (k ≡ f.letter → ⊥)) (B × (k ≡ f.letter → ⊥)) fs (λ x. (g x.0, x.1)) h

apart-first : (k : ℕ) (A : Type 0) (fs : List Form) → Apart k A fs → A
apart-first k A [] h = h
apart-first k A (f ∷ fs) h = (apart-first k (A × (k ≡ f.letter → ⊥)) fs h).0

pub apart-fails : (k : ℕ) (A : Type 0) (fs : List Form) → Apart k A fs → fields_of fs k ≡ fail
unfolding fields_of
apart-fails k A [] h = refl
apart-fails k A (f ∷ fs) h =
    let other = (apart-first k (A × (k ≡ f.letter → ⊥)) fs h).1 in
    rw (ne_eqb f.letter k (λ e. other (sym e)), fields_of) (apart-fails k (A × (k ≡ f.letter → ⊥)) fs h)

-- A form that begins with a location: what follows it gives the row; and the form of a letter.
use Rattle.std.proofs.Common.{◌≡◌, ℕ, ◌+◌, ◌<◌, ◌≤◌, ◌^◌, List, length, get_or, drop, refl, sym, ap, ◌∙◌, arith}
use Rattle.std.specs.Prelude.{Option, Some, None, option_map, option_and_then}
use Rattle.ast.specs.declared.Location.{Location}
use Rattle.text.specs.declared.Cursor.{Cursor}
use Rattle.text.specs.Text.{Got, got, failed, Reader, read, fail, ◌>>=◌, ◌<∘>◌, yield, index, choice, location}
use Rattle.text.proofs.Places.{location-keeps, index-keeps}
use Rattle.listing.specs.declared.Line.{Line}
use Rattle.listing.specs.Forms.{with, forms, fields_of, closed, line}
use Rattle.listing.proofs.Lines.{line-past, line-form, unplaced-failed, Apart, apart_from, apart-fails}
use Rattle.rows.specs.declared.Words.{Words}
use Rattle.rows.specs.Rows.{row_with, row_of}
use Rattle.forms.specs.Rowed.{row_read, ended_row}
use Rattle.forms.proofs.Rowed.{rowed-bind, rowed-choice, rowed-map, rowed-end, bind_assoc, read-got, Numbered, number-back}

-- one of some variants, as its number
choice_as : {A B : Type 0} (f : A → Line) (g : B → A) (xs : List B) (dflt : B) (d : Cursor) → row_read (f <∘> (choice xs >>= λ b. yield (g b))) d ≡ row_read ((λ v. f (g (get_or xs v dflt))) <∘> index (length xs)) d
unfolding ◌<∘>◌ ◌>>=◌ yield
choice_as f g xs dflt d =
    let h : ℕ × Cursor → Option (Words × Cursor) = λ p. ended_row (row_of (f (g (get_or xs p.0 dflt)))) p.1 in
    ap (λ r. row_read r d) (bind_assoc (choice xs) (λ b. yield (g b)) (λ a. yield (f a))) ∙
    rowed-choice xs (λ b. yield (f (g b))) h dflt d (λ v e l. rowed-end (f (g (get_or xs v dflt))) e) ∙
    sym (rowed-map (λ v. f (g (get_or xs v dflt))) (index (length xs)) h (index-keeps (length xs)) d (λ v e. refl))

-- after a location
module _ (c : Cursor) where
  module _ (w : Location) (d : Cursor) (h : read location c ≡ Some (w, d)) where
    pub bare : (g : Location → Reader Line) → row_read (location >>= g) c ≡ row_read (g w) d
    bare g = rowed-bind location g (λ p. row_read (g p.0) p.1) location-keeps c (λ a e q. refl) ∙ ap (option_and_then _) h

    pub mapped : {A : Type 0} (f : A → Line) (g : Location → Reader A) → row_read (f <∘> (location >>= g)) c ≡ row_read (f <∘> g w) d
    unfolding ◌<∘>◌
    mapped f g = ap (λ r. row_read r c) (bind_assoc location g (λ a. yield (f a))) ∙ bare (λ w. g w >>= λ a. yield (f a))

    -- one of some variants, from the form with its number
    pub operator : {A B : Type 0} (f : A → Line) (g : Location → B → A) (number : B → ℕ) (xs : List B) → Numbered number 0 xs → (dflt : B) (k : ℕ) → ((b : B) → row_with k w (number b) 0 0 0 ≡ row_of (f (g w b))) → {x : Option (Words × Cursor)} → ((l : ℕ → Line) → ((v : ℕ) → v < length xs → row_with k w v 0 0 0 ≡ row_of (l v)) → x ≡ row_read (l <∘> index (length xs)) d) → x ≡ row_read (f <∘> with (choice xs) g) c
    unfolding with
    operator f g number xs order dflt k rows y =
        y (λ v. f (g w (get_or xs v dflt))) (λ v i. ap (λ a. row_with k w a 0 0 0) (number-back number xs order dflt v i) ∙ rows (get_or xs v dflt)) ∙
        sym (mapped f (λ w. choice xs >>= λ b. yield (g w b)) ∙ choice_as f (g w) xs dflt d)

    -- the listing after a location is the same
    pub small_after : length c.listing.now < 2 ^ 32 → length d.listing.now < 2 ^ 32
    small_after l = let same = ap (λ x. length x.listing.now) (read-got location location-keeps c {d = d} h).1 in omega (arith, same)

-- fields that are not read
rowed-failed : (f : Reader Line) (c : Cursor) → f c.at (drop c.at c.listing.now) ≡ failed → row_read f c ≡ None
unfolding row_read read closed ◌>>=◌
rowed-failed f c h = rw (row_read, read, closed, ◌>>=◌, h) refl

not_read : {A : Type 0} (r : Reader A) (c : Cursor) → read r c ≡ None → r c.at (drop c.at c.listing.now) ≡ failed
unfolding read
not_read {A} r c h = go (r c.at (drop c.at c.listing.now)) refl
  where
    go : (x : Got A) → r c.at (drop c.at c.listing.now) ≡ x → r c.at (drop c.at c.listing.now) ≡ failed
    go (got a n s) e = absurd (let z : ◌≡◌ {A = Option (A × Cursor)} (Some (a, record c { at = n })) None = rw (read, e) at h in let o : ◌≡◌ {A = ℕ} 0 1 = cc in omega arith)
    go failed e = e

-- where no location stands, none of the forms that have one does
pub unlocated : (c : Cursor) (k : ℕ) → read location c ≡ None → (k ≡ 84 → ⊥) → (k ≡ 68 → ⊥) → (k ≡ 66 → ⊥) → row_read (fields_of forms k) c ≡ None
unlocated c k h contract declaration block = rowed-failed (fields_of forms k) c (unplaced-failed c.listing.now c.at (not_read location c h) k contract declaration block)

-- a letter of no form with a location
pub no_form : (k : ℕ) (c : Cursor) → (k ≡ 84 → ⊥) → (k ≡ 68 → ⊥) → (k ≡ 66 → ⊥) → Apart k (Unit {0} × (k ≡ 80 → ⊥)) (drop 4 forms) → row_read (fields_of forms k) c ≡ None
unfolding fail
no_form k c contract declaration block rest =
    let none = apart_from k (Unit {0} × (k ≡ 80 → ⊥)) ((((Unit {0} × (k ≡ 84 → ⊥)) × (k ≡ 68 → ⊥)) × (k ≡ 80 → ⊥)) × (k ≡ 66 → ⊥)) (drop 4 forms) (λ x. ((((tt, contract), declaration), x.1), block)) rest in
    rowed-failed (fields_of forms k) c (ap (λ (r : Reader Line). r c.at (drop c.at c.listing.now)) (apart-fails k (Unit {0}) forms none))

-- a line's row, and the cursor after it
abbrev pub row_and_rest : Line × Cursor → Words × Cursor
row_and_rest p = (row_of p.0, p.1)

-- no line past the end
pub no_line : (c : Cursor) → length c.listing.now ≤ c.at → None ≡ option_map row_and_rest (read line c)
no_line c h = sym (ap (option_map row_and_rest) (line-past c h))

-- the form of a letter, after it and from it on
pub letter_row : (k b : ℕ) (c : Cursor) {x : Option (Words × Cursor)} → k ≡ b → x ≡ row_read (fields_of forms b) c → x ≡ row_read (fields_of forms k) c
letter_row k b c e x = x ∙ ap (λ k. row_read (fields_of forms k) c) (sym e)

pub line_row : (c : Cursor) (k : ℕ) {x : Option (Words × Cursor)} → c.at < length c.listing.now → k ≡ get_or c.listing.now c.at 0 → x ≡ row_read (fields_of forms k) (record c { at = c.at + 1 }) → x ≡ option_map (λ p. (row_of p.0, p.1)) (read line c)
unfolding row_read
line_row c k h e x = x ∙ ap (λ k. row_read (fields_of forms k) (record c { at = c.at + 1 })) e ∙ sym (ap (option_map (λ p. (row_of p.0, p.1))) (line-form c h))

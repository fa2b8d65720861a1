-- What a cursor reads: one equation for each reader of the code, over the readers that it is made of.
use Rattle.std.proofs.Common.{◌≡◌, ℕ, suc, ◌+◌, ◌*◌, ◌-◌, ◌<◌, ◌≤◌, Bool, true, false, List, [], ◌∷◌, length, get_or, take, drop, refl, sym, ap, ◌∙◌, arith, length-drop, get_or-drop, drop-drop}
use Rattle.std.specs.List.{list_all}
use borrow.Author.Tests.{le-leb, lt-leb}
use lib.Dec.{eqb}
use Rattle.std.specs.Prelude.{Option, Some, None, option_map, option_and_then, if◌then◌else◌}
use Rattle.text.specs.declared.Cursor.{Cursor}
use Rattle.text.specs.declared.Place.{Place}
use Rattle.text.specs.Text.{Got, got, failed, Reader, given, read, after, ◌>>=◌, ◌>>◌, byte, within, comma, span, guard, yield, run_end, is_digit, digits, capped, up_to, decimal, minus, sign, after_minus, unsigned}
use Rattle.text.proofs.Places.{Keeps, byte-keeps, digits-grow, drop-tail}
use Rattle.text.proofs.Fields.{digit-range, byte-same, byte-other, byte_past, end-run, digits_step, digits-stop, digits-past, decimal-past, decimal-zero, decimal_digit, decimal-other, end-steps}
use Rattle.text.proofs.Every.{each-of_all}

pub some≢none : {A : Type 0} {x : A} → ◌≡◌ {A = Option A} (Some x) None → ⊥
some≢none h = cc

-- the byte that had to stand there, another, none
pub taken : (b : ℕ) (c : Cursor) → c.at < length c.listing.now → get_or c.listing.now c.at 0 ≡ b → after (byte b) c ≡ Some (record c { at = c.at + 1 })
unfolding read
taken b c h e = rw (byte-same b c.listing.now c.at h e) refl

pub other : (b : ℕ) (c : Cursor) → c.at < length c.listing.now → (get_or c.listing.now c.at 0 ≡ b → ⊥) → after (byte b) c ≡ None
unfolding read
other b c h e = rw (byte-other b c.listing.now c.at h e) refl

pub past : (b : ℕ) (c : Cursor) → length c.listing.now ≤ c.at → after (byte b) c ≡ None
unfolding read
past b c h = rw (byte_past b c.listing.now c.at h) refl

-- one reader, then another
pub read_bind : {A B : Type 0} (r : Reader A) (f : A → Reader B) → Keeps r → (c : Cursor) → read (r >>= f) c ≡ option_and_then (λ p. read (f p.0) p.1) (read r c)
unfolding read ◌>>=◌
read_bind {A} {B} r f k c = go (r c.at (drop c.at c.listing.now)) refl
  where
    go : (x : Got A) → r c.at (drop c.at c.listing.now) ≡ x → given c (elim x [ got a m t ↦ f a m t | failed ↦ failed ]) ≡ option_and_then (λ p. read (f p.0) p.1) (given c x)
    go (got a m t) e = rw (k c.listing.now c.at (drop c.at c.listing.now) refl a m t e).rest refl
    go failed e = refl

-- the part from a cursor up to the end of a run
abbrev pub part_to : Cursor → ℕ → Place × Cursor
part_to c m = (record { at = c.at; len = m - c.at }, record c { at = m })

-- what follows where a cursor is, and where there is none
read_on : {A B : Type 0} (f : Cursor → Option B) (x : Option (A × Cursor)) {d : Cursor} → option_map (λ p. p.1) x ≡ Some d → option_and_then (λ y. f y.1) x ≡ f d
read_on f None h = absurd (some≢none (sym h))
read_on f (Some y) {d} h = let q : y.1 ≡ d = cc in ap f q

read_off : {A B : Type 0} (f : Cursor → Option B) (x : Option (A × Cursor)) → option_map (λ p. p.1) x ≡ None → option_and_then (λ y. f y.1) x ≡ None
read_off f None h = refl
read_off f (Some y) h = absurd (some≢none h)

-- a part whose length passes a test, after a comma
module _ (p : ℕ → Bool) (fits : ℕ → Bool) (c : Cursor) where
  tail : Reader Place
  tail = span p >>= λ x. guard (fits x.len) x

  abbrev pub Field : Reader Place
  Field = byte comma >>= λ _. span p >>= λ x. guard (fits x.len) x

  pub field-failed : after (byte comma) c ≡ None → read Field c ≡ None
  unfolding tail
  field-failed h = read_bind (byte comma) (λ _. tail) (byte-keeps comma) c ∙ read_off (read tail) (read (byte comma) c) h

  module _ (d : Cursor) (h : after (byte comma) c ≡ Some d) {m : ℕ} (e : m ≡ run_end p d.listing.now d.at) where
    reads : read Field c ≡ read tail d
    unfolding tail
    reads = read_bind (byte comma) (λ _. tail) (byte-keeps comma) c ∙ read_on (read tail) (read (byte comma) c) h

    pub field-got : fits (m - d.at) ≡ true → read Field c ≡ Some (part_to d m)
    unfolding read tail span guard yield ◌>>=◌
    field-got f = reads ∙ rw (read, tail, span, ◌>>=◌, (end-run p d.listing.now d.at e).1, f, guard) refl

    pub field-none : fits (m - d.at) ≡ false → read Field c ≡ None
    unfolding read tail span guard yield ◌>>=◌
    field-none f = reads ∙ rw (read, tail, span, ◌>>=◌, (end-run p d.listing.now d.at e).1, f, guard) refl

-- a byte of the rest is one of the listing
module _ (c : Cursor) {rest : List ℕ} {k : ℕ} (e : rest ≡ drop c.at c.listing.now) (h : k < length rest) where
  pub rest_inside : c.at + k < length c.listing.now
  rest_inside = omega (arith, h, ap length e, length-drop c.at c.listing.now)

  pub rest_byte : get_or rest k 0 ≡ get_or c.listing.now (c.at + k) 0
  rest_byte = ap (λ l. get_or l k 0) e ∙ get_or-drop c.at c.listing.now k 0

-- the digits from a cursor on, after the number v
module _ (limit : ℕ) where
  abbrev pub number_from : ℕ → Cursor → Option (ℕ × Cursor)
  number_from v c = read (capped limit (digits v)) c

  pub number_step : (v : ℕ) (c : Cursor) → c.at < length c.listing.now → is_digit (get_or c.listing.now c.at 0) ≡ true → number_from (v * 10 + (get_or c.listing.now c.at 0 - 48)) (record c { at = c.at + 1 }) ≡ number_from v c
  unfolding read capped ◌>>=◌
  number_step v c h d = rw (read, digits_step v c.listing.now c.at h d, ◌>>=◌) refl

  number-got : (v : ℕ) (c : Cursor) → v ≤ limit → digits v c.at (drop c.at c.listing.now) ≡ got v c.at (drop c.at c.listing.now) → Some (v, c) ≡ number_from v c
  unfolding read capped ◌>>=◌ guard
  number-got v c h e = rw (read, ◌>>=◌, e, le-leb v limit h, guard) refl

  pub number-stop : (v : ℕ) (c : Cursor) → v ≤ limit → c.at < length c.listing.now → is_digit (get_or c.listing.now c.at 0) ≡ false → Some (v, c) ≡ number_from v c
  number-stop v c l h d = number-got v c l (digits-stop v c.listing.now c.at h d)

  pub number-past : (v : ℕ) (c : Cursor) → v ≤ limit → length c.listing.now ≤ c.at → Some (v, c) ≡ number_from v c
  number-past v c l h = number-got v c l (digits-past v c.listing.now c.at h)

  pub number-over : (v : ℕ) (c : Cursor) → limit < v → None ≡ number_from v c
  unfolding read capped ◌>>=◌ guard
  number-over v c h = go (digits v c.at (drop c.at c.listing.now)) refl
    where
      go : (x : Got ℕ) → digits v c.at (drop c.at c.listing.now) ≡ x → None ≡ number_from v c
      go (got a m t) e = let g = digits-grow (drop c.at c.listing.now) v c.at a m t e in let w : limit < a = omega arith in rw (read, ◌>>=◌, e, lt-leb a limit w, guard) refl
      go failed e = rw (read, ◌>>=◌, e) refl

  -- a number from 0 to the limit: no byte, a zero, another digit, another byte
  pub up_to-past : (c : Cursor) → length c.listing.now ≤ c.at → None ≡ read (up_to limit) c
  unfolding read
  up_to-past c h = rw (read, decimal-past limit c.listing.now c.at h) refl

  pub up_to-zero : (c : Cursor) → c.at < length c.listing.now → get_or c.listing.now c.at 0 ≡ 48 → Some (0, record c { at = c.at + 1 }) ≡ read (up_to limit) c
  unfolding read
  up_to-zero c h e = rw (read, decimal-zero limit c.listing.now c.at h e) refl

  pub up_to_digit : (c : Cursor) → c.at < length c.listing.now → (get_or c.listing.now c.at 0 ≡ 48 → ⊥) → is_digit (get_or c.listing.now c.at 0) ≡ true → number_from (get_or c.listing.now c.at 0 - 48) (record c { at = c.at + 1 }) ≡ read (up_to limit) c
  unfolding read
  up_to_digit c h z d = rw (read, decimal_digit limit c.listing.now c.at h z d) refl

  pub up_to-other : (c : Cursor) → c.at < length c.listing.now → (get_or c.listing.now c.at 0 ≡ 48 → ⊥) → is_digit (get_or c.listing.now c.at 0) ≡ false → None ≡ read (up_to limit) c
  unfolding read
  up_to-other c h z d = rw (read, decimal-other limit c.listing.now c.at h z d) refl

-- one reader, then another, from what the first gave
module _ {A B : Type 0} (r : Reader A) (f : A → Reader B) (k : Keeps r) (c : Cursor) where
  pub bind-some : {a : A} {d : Cursor} → read r c ≡ Some (a, d) → read (r >>= f) c ≡ read (f a) d
  bind-some h = read_bind r f k c ∙ ap (option_and_then (λ p. read (f p.0) p.1)) h

  pub bind-none : read r c ≡ None → read (r >>= f) c ≡ None
  bind-none h = read_bind r f k c ∙ ap (option_and_then (λ p. read (f p.0) p.1)) h

-- a byte, then another reader
module _ (b : ℕ) {B : Type 0} (q : Reader B) (c : Cursor) where
  pub byte-some : {d : Cursor} → after (byte b) c ≡ Some d → read (byte b >> q) c ≡ read q d
  unfolding ◌>>◌
  byte-some h = read_bind (byte b) (λ _. q) (byte-keeps b) c ∙ read_on (read q) (read (byte b) c) h

  pub byte-none : after (byte b) c ≡ None → read (byte b >> q) c ≡ None
  unfolding ◌>>◌
  byte-none h = read_bind (byte b) (λ _. q) (byte-keeps b) c ∙ read_off (read q) (read (byte b) c) h

-- a value with nothing read, where a test is passed or not
pub yield-some : {A : Type 0} (a : A) (c : Cursor) → read (yield a) c ≡ Some (a, c)
unfolding read yield
yield-some a c = refl

pub guard-some : {A : Type 0} {t : Bool} (a : A) (c : Cursor) → t ≡ true → read (guard t a) c ≡ Some (a, c)
unfolding read guard
guard-some a c h = rw (read, h, guard) refl

pub guard-none : {A : Type 0} {t : Bool} (a : A) (c : Cursor) → t ≡ false → read (guard t a) c ≡ None
unfolding read guard
guard-none a c h = rw (read, h, guard) refl

-- with a minus sign or without
module _ (c : Cursor) where
  pub sign-some : {d : Cursor} → after (byte minus) c ≡ Some d → read sign c ≡ read after_minus d
  unfolding read sign byte
  sign-some {d} h = go (drop c.at c.listing.now) refl
    where
      test : (x : ℕ) (s : List ℕ) → drop c.at c.listing.now ≡ x ∷ s → (b : Bool) → eqb x minus ≡ b → read sign c ≡ read after_minus d
      test x s e true q =
          let f : Some (record c { at = suc c.at }) ≡ Some d = rw (read, e, byte, q) at h in
          let same : record c { at = suc c.at } ≡ d = cc in
          let step : read sign c ≡ read after_minus (record c { at = suc c.at }) = rw (read, e, sign, q, (drop-tail c.listing.now c.at x s e).0) refl in
          step ∙ ap (read after_minus) same
      test x s e false q = absurd (some≢none (sym (rw (read, e, byte, q) at h)))

      go : (s : List ℕ) → drop c.at c.listing.now ≡ s → read sign c ≡ read after_minus d
      go [] e = absurd (some≢none (sym (rw (read, e, byte) at h)))
      go (x ∷ s) e = test x s e (eqb x minus) refl

  pub sign-none : after (byte minus) c ≡ None → read sign c ≡ read unsigned c
  unfolding read sign byte unsigned up_to capped ◌>>=◌ decimal
  sign-none h = go (drop c.at c.listing.now) refl
    where
      test : (x : ℕ) (s : List ℕ) → drop c.at c.listing.now ≡ x ∷ s → (b : Bool) → eqb x minus ≡ b → read sign c ≡ read unsigned c
      test x s e true q = absurd (some≢none (rw (read, e, byte, q) at h))
      test x s e false q = rw (read, e, sign, q) refl

      go : (s : List ℕ) → drop c.at c.listing.now ≡ s → read sign c ≡ read unsigned c
      go [] e = rw (read, e, sign, unsigned) refl
      go (x ∷ s) e = test x s e (eqb x minus) refl

-- one reader, then another, as code with `?` has it
pub bind_as : {A B : Type 0} (r : Reader A) (f : A → Reader B) (g : A × Cursor → Option (B × Cursor)) → Keeps r → ((a : A) (d : Cursor) → read (f a) d ≡ g (a, d)) → (c : Cursor) → read (r >>= f) c ≡ option_and_then g (read r c)
bind_as {A} {B} r f g k h c = read_bind r f k c ∙ go (read r c)
  where
    go : (x : Option (A × Cursor)) → option_and_then (λ p. read (f p.0) p.1) x ≡ option_and_then g x
    go None = refl
    go (Some p) = h p.0 p.1

-- a value where a test is passed
pub guard_as : {A : Type 0} (t : Bool) (a : A) (c : Cursor) → read (guard t a) c ≡ (if t then Some (a, c) else None)
guard_as true a c = guard-some a c refl
guard_as false a c = guard-none a c refl

-- bytes of the rest that all pass a test
pub end-chunk : (p : ℕ → Bool) (s : List ℕ) (at k n : ℕ) {rest : List ℕ} → rest ≡ drop at s → 0 < n → k + n ≤ length rest → list_all p (take n (drop k rest)) ≡ true → run_end p s (at + (k + n)) ≡ run_end p s (at + k)
end-chunk p s at k n e z h a =
    let inside : at + k + n ≤ length s = omega (arith, z, h, ap length e, length-drop at s) in
    let same : at + (k + n) ≡ at + k + n = omega arith in
    let there : list_all p (take n (drop (at + k) s)) ≡ true = rw (e, drop-drop k at s) at a in
    rw same (end-steps p s (at + k) n inside (each-of_all p s (at + k) n inside there))

-- what a digit's number says of the byte
module _ (b : ℕ) where
  abbrev pub Digit : Option ℕ
  Digit = if is_digit b then Some (b - 48) else None

  pub digit-some : {n : ℕ} → Digit ≡ Some n → (is_digit b ≡ true) × (b ≡ n + 48) × (n ≤ 9)
  digit-some {n} h = go (is_digit b) refl
    where
      go : (d : Bool) → is_digit b ≡ d → (is_digit b ≡ true) × (b ≡ n + 48) × (n ≤ 9)
      go true e =
          let f : Some (b - 48) ≡ Some n = rw e at h in
          let same : b - 48 ≡ n = cc in
          (e, omega (arith, digit-range b e), omega (arith, digit-range b e))
      go false e = absurd (some≢none (sym (rw e at h)))

  pub digit-none : Digit ≡ None → is_digit b ≡ false
  digit-none h = go (is_digit b) refl
    where
      go : (d : Bool) → is_digit b ≡ d → is_digit b ≡ false
      go true e = absurd (some≢none (rw e at h))
      go false e = e

-- b, the byte at a cursor, as a digit: one more after a number, the first one of a number
module _ (limit : ℕ) (c : Cursor) (h : c.at < length c.listing.now) {b : ℕ} (e : b ≡ get_or c.listing.now c.at 0) where
  pub number-digit : (v : ℕ) {n : ℕ} → Digit b ≡ Some n → number_from limit (v * 10 + n) (record c { at = c.at + 1 }) ≡ number_from limit v c
  number-digit v {n} d =
      let f = digit-some b d in
      let q : n ≡ get_or c.listing.now c.at 0 - 48 = omega (arith, f.1, e) in
      rw q (number_step limit v c h (ap is_digit (sym e) ∙ f.0))

  pub up_to-none : Digit b ≡ None → None ≡ read (up_to limit) c
  unfolding is_digit within
  up_to-none d =
      let f : is_digit b ≡ false = digit-none b d in
      up_to-other limit c h (λ z. let w : b ≡ 48 = e ∙ z in let t : ◌≡◌ {A = Bool} true false = rw w at f in let o : ◌≡◌ {A = ℕ} 0 1 = cc in omega arith) (ap is_digit (sym e) ∙ f)

  pub up_to-nought : {n : ℕ} → Digit b ≡ Some n → n ≡ 0 → Some (0, record c { at = c.at + 1 }) ≡ read (up_to limit) c
  up_to-nought d z = up_to-zero limit c h (omega (arith, digit-some b d, z, e))

  pub up_to-more : {n : ℕ} → Digit b ≡ Some n → (n ≡ 0 → ⊥) → number_from limit n (record c { at = c.at + 1 }) ≡ read (up_to limit) c
  up_to-more {n} d z =
      let f = digit-some b d in
      let q : n ≡ get_or c.listing.now c.at 0 - 48 = omega (arith, f.1, e) in
      rw q (up_to_digit limit c h (λ w. z (omega (arith, f.1, e, w))) (ap is_digit (sym e) ∙ f.0))

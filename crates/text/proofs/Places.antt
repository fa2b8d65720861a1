-- How positions and the bytes from there on go together: a reader that begins at `drop n s` ends at `drop m s`, for the position m it gives.
use Prim.Native.Nat.{ℕ, zero, suc, ◌+◌, ◌*◌, ◌-◌, ◌^◌, ◌%◌, ◌≤◌}
use native.Mathlib.Omega.{arith}
use mathlib.Core.Bool.{Bool, true, false}
use mathlib.Core.List.{List, [], ◌∷◌}
use mathlib.Core.Option.{Option, some, none}
use mathlib.Core.Path.{◌≡◌, refl, sym, ◌∙◌, ap, subst}
use lib.Dec.{leb, ltb, eqb}
use lib.ListN.{length, drop, get_elem?}
use Rattle.text.specs.declared.Place.{Place}
use Rattle.text.specs.Text.{Got, got, failed, Reader, ◌>>=◌, ◌>>◌, ◌<∘>◌, yield, fail, guard, comma, minus, byte, is_digit, digits, decimal, capped, up_to, word, index, choice, bit, after_minus, unsigned, sign, signed, location, run, span, is_name_byte, is_hex_digit, name, literal}

-- from position n to position m of s, where t is what is left
pub record Kept (s : List ℕ) (n m : ℕ) (t : List ℕ) : Type 0 where
  pub rest : drop m s ≡ t
  pub forth : n ≤ m
  pub inside : n ≤ length s → m ≤ length s

abbrev pub Keeps : {A : Type 0} → Reader A → Type 0
Keeps {A} r = (s : List ℕ) (n : ℕ) (u : List ℕ) → drop n s ≡ u → (a : A) (m : ℕ) (t : List ℕ) → r n u ≡ got a m t → Kept s n m t

failed≢got : {A : Type 0} {a : A} {m : ℕ} {t : List ℕ} → ◌≡◌ {A = Got A} failed (got a m t) → ⊥
failed≢got h = let z : ◌≡◌ {A = ℕ} 0 1 = cc in omega arith

got-value : {A : Type 0} {a b : A} {n m : ℕ} {u t : List ℕ} → ◌≡◌ {A = Got A} (got a n u) (got b m t) → a ≡ b
got-value h = cc

got-at : {A : Type 0} {a b : A} {n m : ℕ} {u t : List ℕ} → ◌≡◌ {A = Got A} (got a n u) (got b m t) → n ≡ m
got-at h = cc

got-rest : {A : Type 0} {a b : A} {n m : ℕ} {u t : List ℕ} → ◌≡◌ {A = Got A} (got a n u) (got b m t) → u ≡ t
got-rest h = cc

nil≢cons : {x : ℕ} {u : List ℕ} → ◌≡◌ {A = List ℕ} [] (x ∷ u) → ⊥
nil≢cons p = let z : ◌≡◌ {A = ℕ} 0 1 = cc in omega arith

-- one byte on
pub drop-tail : (s : List ℕ) (n x : ℕ) (u : List ℕ) → drop n s ≡ x ∷ u → (drop (suc n) s ≡ u) × (suc n ≤ length s)
drop-tail [] zero x u h = absurd (nil≢cons h)
drop-tail [] (suc n) x u h = absurd (nil≢cons h)
drop-tail (y ∷ s) zero x u h = (cc, omega arith)
drop-tail (y ∷ s) (suc n) x u h = let r = drop-tail s n x u h in (r.0, omega (arith, r.1))

-- nothing read; one byte read
stay : {A : Type 0} {a b : A} {s : List ℕ} {n m : ℕ} {u t : List ℕ} → drop n s ≡ u → ◌≡◌ {A = Got A} (got a n u) (got b m t) → Kept s n m t
stay {A} {a} {b} {s} {n} {m} {u} {t} e h = record { rest = subst (λ k. drop k s ≡ t) (got-at h) (e ∙ got-rest h); forth = omega (arith, got-at h); inside = λ k. omega (arith, got-at h) }

onward : {s : List ℕ} {n m x : ℕ} {u t : List ℕ} → drop n s ≡ x ∷ u → Kept s (suc n) m t → Kept s n m t
onward {s} {n} {m} {x} {u} e k = let r = drop-tail s n x u e in record { rest = k.rest; forth = omega (arith, k.forth); inside = λ h. k.inside r.1 }

chain : {s : List ℕ} {n m k : ℕ} {t u : List ℕ} → Kept s n m t → Kept s m k u → Kept s n k u
chain a b = record { rest = b.rest; forth = omega (arith, a.forth, b.forth); inside = λ h. b.inside (a.inside h) }

pub bind-keeps : {A B : Type 0} (r : Reader A) (f : A → Reader B) → Keeps r → ((a : A) → Keeps (f a)) → Keeps (r >>= f)
unfolding ◌>>=◌
bind-keeps {A} {B} r f h k s n u e b m t p = go (r n u) refl
  where
    go : (x : Got A) → r n u ≡ x → Kept s n m t
    go (got a j v) q = let w = h s n u e a j v q in chain w (k a s j v w.rest b m t (rw (q, ◌>>=◌) at p))
    go failed q = absurd (failed≢got (rw (q, ◌>>=◌) at p))

pub then_keeps : {A B : Type 0} (r : Reader A) (q : Reader B) → Keeps r → Keeps q → Keeps (r >> q)
unfolding ◌>>◌
then_keeps r q h k = bind-keeps r (λ _. q) h (λ _. k)

pub yield-keeps : {A : Type 0} (a : A) → Keeps (yield a)
unfolding yield
yield-keeps a s n u e b m t p = stay e p

pub map-keeps : {A B : Type 0} (f : A → B) (r : Reader A) → Keeps r → Keeps (f <∘> r)
unfolding ◌<∘>◌
map-keeps f r h = bind-keeps r (λ a. yield (f a)) h (λ a. yield-keeps (f a))

pub fail-keeps : {A : Type 0} → Keeps (fail {A = A})
unfolding fail
fail-keeps s n u e b m t p = absurd (failed≢got p)

pub guard-keeps : {A : Type 0} (c : Bool) (a : A) → Keeps (guard c a)
unfolding guard
guard-keeps true a s n u e b m t p = stay e p
guard-keeps false a s n u e b m t p = absurd (failed≢got p)

pub byte-keeps : (b : ℕ) → Keeps (byte b)
unfolding byte
byte-keeps b s n [] e a m t p = absurd (failed≢got p)
byte-keeps b s n (x ∷ u) e a m t p = go (eqb x b) refl
  where
    go : (c : Bool) → eqb x b ≡ c → Kept s n m t
    go true q = onward e (stay (drop-tail s n x u e).0 (rw (q, byte) at p))
    go false q = absurd (failed≢got (rw (q, byte) at p))

pub digits_from : (u : List ℕ) (v : ℕ) (s : List ℕ) (n : ℕ) → drop n s ≡ u → (a m : ℕ) (t : List ℕ) → digits v n u ≡ got a m t → Kept s n m t
unfolding digits
digits_from [] v s n e a m t p = stay e p
digits_from (x ∷ u) v s n e a m t p = go (is_digit x) refl (digits_from u (v * 10 + (x - 48)) s (suc n) (drop-tail s n x u e).0 a m t)
  where
    go : (c : Bool) → is_digit x ≡ c → (digits (v * 10 + (x - 48)) (suc n) u ≡ got a m t → Kept s (suc n) m t) → Kept s n m t
    go true q ih = onward e (ih (rw (q, digits) at p))
    go false q ih = stay e (rw (q, digits) at p)

pub digits-keeps : (v : ℕ) → Keeps (digits v)
digits-keeps v s n u = digits_from u v s n

pub decimal-keeps : Keeps decimal
unfolding decimal
decimal-keeps s n [] e a m t p = absurd (failed≢got p)
decimal-keeps s n (x ∷ u) e a m t p = zero? (eqb x 48) refl
  where
    next : drop (suc n) s ≡ u
    next = (drop-tail s n x u e).0

    digit? : eqb x 48 ≡ false → (c : Bool) → is_digit x ≡ c → Kept s n m t
    digit? z true q = onward e (digits-keeps (x - 48) s (suc n) u next a m t (rw (z, q, decimal) at p))
    digit? z false q = absurd (failed≢got (rw (z, q, decimal) at p))

    zero? : (c : Bool) → eqb x 48 ≡ c → Kept s n m t
    zero? true q = onward e (stay next (rw (q, decimal) at p))
    zero? false q = digit? q (is_digit x) refl

pub capped-keeps : (limit : ℕ) (r : Reader ℕ) → Keeps r → Keeps (capped limit r)
unfolding capped
capped-keeps limit r h = bind-keeps r (λ v. guard (leb v limit) v) h (λ v. guard-keeps (leb v limit) v)

pub up_to-keeps : (limit : ℕ) → Keeps (up_to limit)
unfolding up_to
up_to-keeps limit = capped-keeps limit decimal decimal-keeps

pub word_keeps : Keeps word
unfolding word
word_keeps = then_keeps (byte comma) (up_to 4294967295) (byte-keeps comma) (up_to-keeps 4294967295)

pub index-keeps : (count : ℕ) → Keeps (index count)
unfolding index
index-keeps count = bind-keeps word (λ v. guard (ltb v count) v) word_keeps (λ v. guard-keeps (ltb v count) v)

pub choice-keeps : {A : Type 0} (xs : List A) → Keeps (choice xs)
unfolding choice
choice-keeps {A} xs = bind-keeps word (λ v. elim (get_elem? xs v) [ none ↦ fail | some a ↦ yield a ]) word_keeps (λ v. go (get_elem? xs v))
  where
    go : (o : Option A) → Keeps {A = A} (elim o [ none ↦ fail | some a ↦ yield a ])
    go none = fail-keeps
    go (some a) = yield-keeps a

pub bit-keeps : Keeps bit
unfolding bit
bit-keeps = choice-keeps (false ∷ true ∷ [])

pub after_minus-keeps : Keeps after_minus
unfolding after_minus
after_minus-keeps = bind-keeps (up_to (2 ^ 63)) (λ v. guard (ltb 0 v) (record { negative = true; magnitude = v })) (up_to-keeps (2 ^ 63)) (λ v. guard-keeps (ltb 0 v) (record { negative = true; magnitude = v }))

pub unsigned-keeps : Keeps unsigned
unfolding unsigned
unsigned-keeps = bind-keeps (up_to (2 ^ 63 - 1)) (λ v. yield (record { negative = false; magnitude = v })) (up_to-keeps (2 ^ 63 - 1)) (λ v. yield-keeps (record { negative = false; magnitude = v }))

pub sign-keeps : Keeps sign
unfolding sign
sign-keeps s n [] e a m t p = absurd (failed≢got p)
sign-keeps s n (x ∷ u) e a m t p = go (eqb x minus) refl
  where
    go : (c : Bool) → eqb x minus ≡ c → Kept s n m t
    go true q = onward e (after_minus-keeps s (suc n) u (drop-tail s n x u e).0 a m t (rw (q, sign) at p))
    go false q = unsigned-keeps s n (x ∷ u) e a m t (rw (q, sign) at p)

pub signed-keeps : Keeps signed
unfolding signed
signed-keeps = then_keeps (byte comma) sign (byte-keeps comma) sign-keeps

pub location-keeps : Keeps location
unfolding location
location-keeps =
    bind-keeps word (λ a. word >>= λ b. word >>= λ c. word >>= λ d. yield (record { start = a; end = b; line = c; column = d })) word_keeps λ a.
    bind-keeps word (λ b. word >>= λ c. word >>= λ d. yield (record { start = a; end = b; line = c; column = d })) word_keeps λ b.
    bind-keeps word (λ c. word >>= λ d. yield (record { start = a; end = b; line = c; column = d })) word_keeps λ c.
    bind-keeps word (λ d. yield (record { start = a; end = b; line = c; column = d })) word_keeps λ d.
    yield-keeps (record { start = a; end = b; line = c; column = d })

pub run-from : (u : List ℕ) (p : ℕ → Bool) (k : ℕ) (s : List ℕ) (n : ℕ) → drop n s ≡ u → (a m : ℕ) (t : List ℕ) → run p k n u ≡ got a m t → Kept s n m t
unfolding run
run-from [] p k s n e a m t h = stay e h
run-from (x ∷ u) p k s n e a m t h = go (p x) refl (run-from u p (suc k) s (suc n) (drop-tail s n x u e).0 a m t)
  where
    go : (c : Bool) → p x ≡ c → (run p (suc k) (suc n) u ≡ got a m t → Kept s (suc n) m t) → Kept s n m t
    go true q ih = onward e (ih (rw (q, run) at h))
    go false q ih = stay e (rw (q, run) at h)

pub span-keeps : (p : ℕ → Bool) → Keeps (span p)
unfolding span
span-keeps p s n u e a m t h = bind-keeps (run p 0) (λ k. yield (record { at = n; len = k })) (λ s n u. run-from u p 0 s n) (λ k. yield-keeps (record { at = n; len = k })) s n u e a m t h

pub name-keeps : Keeps name
unfolding name
name-keeps = then_keeps (byte comma) (span is_name_byte >>= λ x. guard (ltb 0 x.len) x) (byte-keeps comma) (bind-keeps (span is_name_byte) (λ x. guard (ltb 0 x.len) x) (span-keeps is_name_byte) (λ x. guard-keeps (ltb 0 x.len) x))

pub literal-keeps : Keeps literal
unfolding literal
literal-keeps = then_keeps (byte comma) (span is_hex_digit >>= λ x. guard (eqb (x.len % 2) 0) x) (byte-keeps comma) (bind-keeps (span is_hex_digit) (λ x. guard (eqb (x.len % 2) 0) x) (span-keeps is_hex_digit) (λ x. guard-keeps (eqb (x.len % 2) 0) x))

-- a span is read from any bytes
pub run-total : (u : List ℕ) (p : ℕ → Bool) (k n : ℕ) → run p k n u ≡ failed → ⊥
unfolding run
run-total [] p k n h = let z : ◌≡◌ {A = ℕ} 0 1 = cc in omega arith
run-total (x ∷ u) p k n h = go (p x) refl (run-total u p (suc k) (suc n))
  where
    go : (c : Bool) → p x ≡ c → (run p (suc k) (suc n) u ≡ failed → ⊥) → ⊥
    go true q ih = ih (rw (q, run) at h)
    go false q ih = let g : ◌≡◌ {A = Got ℕ} (got k n (x ∷ u)) failed = rw (q, run) at h in let z : ◌≡◌ {A = ℕ} 0 1 = cc in omega arith

-- how many bytes passed the test: a span's place ends where the reader comes to
pub run_length : (u : List ℕ) (p : ℕ → Bool) (k n a m : ℕ) (t : List ℕ) → run p k n u ≡ got a m t → a + n ≡ k + m
unfolding run
run_length [] p k n a m t h = omega (arith, got-value h, got-at h)
run_length (x ∷ u) p k n a m t h = go (p x) refl (run_length u p (suc k) (suc n) a m t)
  where
    go : (c : Bool) → p x ≡ c → (run p (suc k) (suc n) u ≡ got a m t → a + suc n ≡ suc k + m) → a + n ≡ k + m
    go true q ih = omega (arith, ih (rw (q, run) at h))
    go false q ih = let g = rw (q, run) at h in omega (arith, got-value g, got-at g)

pub span-ends : (p : ℕ → Bool) (n : ℕ) (u : List ℕ) (x : Place) (m : ℕ) (t : List ℕ) → span p n u ≡ got x m t → (x.at ≡ n) × (x.at + x.len ≡ m)
unfolding span yield ◌>>=◌
span-ends p n u x m t h = go (run p 0 n u) refl
  where
    go : (g : Got ℕ) → run p 0 n u ≡ g → (x.at ≡ n) × (x.at + x.len ≡ m)
    go (got k j v) e =
        let q : ◌≡◌ {A = Got Place} (got (record { at = n; len = k }) j v) (got x m t) = rw (e, span, ◌>>=◌) at h in
        let a : record { at = n; len = k } ≡ x = cc in
        let b : j ≡ m = cc in
        (ap (λ y. y.at) (sym a), omega (arith, run_length u p 0 n k j v e, ap (λ y. y.at) a, ap (λ y. y.len) a))
    go failed e = absurd (failed≢got (rw (e, span, ◌>>=◌) at h))

-- the number read only grows with its digits: code may stop at the first that passes its bound
pub digits-grow : (u : List ℕ) (v n a m : ℕ) (t : List ℕ) → digits v n u ≡ got a m t → v ≤ a
unfolding digits
digits-grow [] v n a m t h = omega (arith, got-value h)
digits-grow (x ∷ u) v n a m t h = go (is_digit x) refl (digits-grow u (v * 10 + (x - 48)) (suc n) a m t)
  where
    go : (c : Bool) → is_digit x ≡ c → (digits (v * 10 + (x - 48)) (suc n) u ≡ got a m t → v * 10 + (x - 48) ≤ a) → v ≤ a
    go true q ih = omega (arith, ih (rw (q, digits) at h))
    go false q ih = omega (arith, got-value (rw (q, digits) at h))

-- For code that knows a value and a position: what was read, at the position after it.
pub got-place : {A : Type 0} (r : Reader A) → Keeps r → (s : List ℕ) (n : ℕ) {a : A} {m : ℕ} {t : List ℕ} → r n (drop n s) ≡ got a m t → r n (drop n s) ≡ got a m (drop m s)
got-place r k s n {a} {m} {t} h = h ∙ ap (got a m) (sym (k s n (drop n s) refl a m t h).rest)

-- and the reader that follows
pub bind-got : {A B : Type 0} (r : Reader A) (f : A → Reader B) (s : List ℕ) (n : ℕ) {a : A} {m : ℕ} → r n (drop n s) ≡ got a m (drop m s) → (r >>= f) n (drop n s) ≡ f a m (drop m s)
unfolding ◌>>=◌
bind-got r f s n h = rw (h, ◌>>=◌) refl

pub bind-failed : {A B : Type 0} (r : Reader A) (f : A → Reader B) (s : List ℕ) (n : ℕ) → r n (drop n s) ≡ failed → (r >>= f) n (drop n s) ≡ failed
unfolding ◌>>=◌
bind-failed r f s n h = rw (h, ◌>>=◌) refl

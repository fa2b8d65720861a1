-- What the field readers of the code cite: digits and spans at a position, and what the code's answer says of a reader.
use Prim.Native.Nat.{ℕ, zero, suc, ◌+◌, ◌*◌, ◌-◌, ◌≤◌, ◌<◌}
use native.Mathlib.Numerals.{add-one}
use native.Mathlib.Omega.{arith}
use mathlib.Core.Bool.{Bool, true, false}
use mathlib.Core.List.{List, [], ◌∷◌}
use mathlib.Core.Option.{some, none}
use mathlib.Core.Path.{◌≡◌, refl, sym, ap, ◌∙◌}
use borrow.Author.Tests.{ltb-true, ltb-false, leb-true, le-leb, eq-eqb, ne_eqb}
use lib.Dec.{leb, ltb}
use lib.ListN.{length, drop, get_or, get_elem?, drop_of_length-le}
use lib.Seq.{drop-cons}
use Rattle.std.specs.Prelude.{not}
use Rattle.std.specs.List.{position_or_len}
use Rattle.text.specs.Text.{Got, got, failed, ◌>>=◌, yield, fail, guard, byte, within, is_digit, digits, decimal, capped, up_to, word, index, choice, run, run_end, position_after}
use Rattle.text.proofs.Every.{Every}
use Rattle.text.proofs.Places.{run-from, run_length, run-total, got-place}

-- the byte that had to stand there, another, none
pub byte-same : (b : ℕ) (s : List ℕ) (i : ℕ) → i < length s → get_or s i 0 ≡ b → byte b i (drop i s) ≡ got (get_or s i 0) (i + 1) (drop (i + 1) s)
unfolding byte
byte-same b s i h e = rw (add-one, drop-cons s i 0 h, eq-eqb (get_or s i 0) b e, byte)

pub byte-other : (b : ℕ) (s : List ℕ) (i : ℕ) → i < length s → (get_or s i 0 ≡ b → ⊥) → byte b i (drop i s) ≡ failed
unfolding byte
byte-other b s i h e = rw (drop-cons s i 0 h, ne_eqb (get_or s i 0) b e, byte)

pub byte_past : (b : ℕ) (s : List ℕ) (i : ℕ) → length s ≤ i → byte b i (drop i s) ≡ failed
unfolding byte
byte_past b s i h = rw (drop_of_length-le s h)

-- a digit is from `0` to `9`
pub digit-range : (b : ℕ) → is_digit b ≡ true → (48 ≤ b) × (b ≤ 57)
unfolding is_digit within
digit-range b h = go (leb 48 b) refl (leb b 57) refl
  where
    go : (x : Bool) → leb 48 b ≡ x → (y : Bool) → leb b 57 ≡ y → (48 ≤ b) × (b ≤ 57)
    go true e true f = (leb-true 48 b e, leb-true b 57 f)
    go true e false f = let z : ◌≡◌ {A = Bool} false true = rw (e, f, is_digit, within) at h in let o : ◌≡◌ {A = ℕ} 0 1 = cc in absurd (omega arith)
    go false e y f = let z : ◌≡◌ {A = Bool} false true = rw (e, is_digit, within) at h in let o : ◌≡◌ {A = ℕ} 0 1 = cc in absurd (omega arith)

-- one digit more, none more, no byte more
pub digits_step : (v : ℕ) (s : List ℕ) (i : ℕ) → i < length s → is_digit (get_or s i 0) ≡ true → digits v i (drop i s) ≡ digits (v * 10 + (get_or s i 0 - 48)) (i + 1) (drop (i + 1) s)
unfolding digits
digits_step v s i h d = rw (add-one, drop-cons s i 0 h, d, digits)

pub digits-stop : (v : ℕ) (s : List ℕ) (i : ℕ) → i < length s → is_digit (get_or s i 0) ≡ false → digits v i (drop i s) ≡ got v i (drop i s)
unfolding digits
digits-stop v s i h d = rw (drop-cons s i 0 h, d, digits)

pub digits-past : (v : ℕ) (s : List ℕ) (i : ℕ) → length s ≤ i → digits v i (drop i s) ≡ got v i (drop i s)
unfolding digits
digits-past v s i h = rw (drop_of_length-le s h)

-- a number from 0 to the limit: no byte, a zero, another digit, another byte
pub decimal-past : (limit : ℕ) (s : List ℕ) (i : ℕ) → length s ≤ i → up_to limit i (drop i s) ≡ failed
unfolding up_to capped ◌>>=◌ decimal
decimal-past limit s i h = rw (drop_of_length-le s h)

pub decimal-zero : (limit : ℕ) (s : List ℕ) (i : ℕ) → i < length s → get_or s i 0 ≡ 48 → up_to limit i (drop i s) ≡ got 0 (i + 1) (drop (i + 1) s)
unfolding up_to capped ◌>>=◌ decimal guard
decimal-zero limit s i h e = rw (add-one, drop-cons s i 0 h, eq-eqb (get_or s i 0) 48 e, ◌>>=◌, decimal, le-leb 0 limit (omega arith), guard)

pub decimal_digit : (limit : ℕ) (s : List ℕ) (i : ℕ) → i < length s → (get_or s i 0 ≡ 48 → ⊥) → is_digit (get_or s i 0) ≡ true → up_to limit i (drop i s) ≡ capped limit (digits (get_or s i 0 - 48)) (i + 1) (drop (i + 1) s)
unfolding up_to capped ◌>>=◌ decimal
decimal_digit limit s i h e d = rw (add-one, drop-cons s i 0 h, ne_eqb (get_or s i 0) 48 e, d, ◌>>=◌, decimal)

pub decimal-other : (limit : ℕ) (s : List ℕ) (i : ℕ) → i < length s → (get_or s i 0 ≡ 48 → ⊥) → is_digit (get_or s i 0) ≡ false → up_to limit i (drop i s) ≡ failed
unfolding up_to capped ◌>>=◌ decimal
decimal-other limit s i h e d = rw (drop-cons s i 0 h, ne_eqb (get_or s i 0) 48 e, d, ◌>>=◌, decimal)

-- what an enum number numbers
element-in : {A : Type 0} (xs : List A) (v : ℕ) (d : A) → v < length xs → get_elem? xs v ≡ some (get_or xs v d)
element-in [] v d h = absurd (omega arith)
element-in (x ∷ xs) zero d h = refl
element-in (x ∷ xs) (suc v) d h = element-in xs v d (omega arith)

element-out : {A : Type 0} (xs : List A) (v : ℕ) → length xs ≤ v → get_elem? xs v ≡ none
element-out [] v h = refl
element-out (x ∷ xs) zero h = absurd (omega arith)
element-out (x ∷ xs) (suc v) h = element-out xs v (omega arith)

module _ {A : Type 0} (xs : List A) (s : List ℕ) (n : ℕ) where
  pub choice-got : (d : A) {v m : ℕ} {t : List ℕ} → index (length xs) n (drop n s) ≡ got v m t → choice xs n (drop n s) ≡ got (get_or xs v d) m t
  unfolding index choice ◌>>=◌ guard yield fail
  choice-got d {v} {m} {t} h = go (word n (drop n s)) refl
    where
      test : (a k : ℕ) (r : List ℕ) → word n (drop n s) ≡ got a k r → (b : Bool) → ltb a (length xs) ≡ b → choice xs n (drop n s) ≡ got (get_or xs v d) m t
      test a k r e true q =
          let g : ◌≡◌ {A = Got ℕ} (got a k r) (got v m t) = rw (e, q, guard, ◌>>=◌) at h in
          let f : ◌≡◌ {A = Got A} (got (get_or xs a d) k r) (got (get_or xs v d) m t) = cc in
          rw (e, element-in xs a d (ltb-true a (length xs) q), ◌>>=◌) f
      test a k r e false q = let g : ◌≡◌ {A = Got ℕ} failed (got v m t) = rw (e, q, guard, ◌>>=◌) at h in let o : ◌≡◌ {A = ℕ} 0 1 = cc in absurd (omega arith)

      go : (x : Got ℕ) → word n (drop n s) ≡ x → choice xs n (drop n s) ≡ got (get_or xs v d) m t
      go (got a k r) e = test a k r e (ltb a (length xs)) refl
      go failed e = let g : ◌≡◌ {A = Got ℕ} failed (got v m t) = rw (e, ◌>>=◌) at h in let o : ◌≡◌ {A = ℕ} 0 1 = cc in absurd (omega arith)

  pub choice-failed : index (length xs) n (drop n s) ≡ failed → choice xs n (drop n s) ≡ failed
  unfolding index choice ◌>>=◌ guard yield fail
  choice-failed h = go (word n (drop n s)) refl
    where
      test : (a k : ℕ) (r : List ℕ) → word n (drop n s) ≡ got a k r → (b : Bool) → ltb a (length xs) ≡ b → choice xs n (drop n s) ≡ failed
      test a k r e true q = let g : ◌≡◌ {A = Got ℕ} (got a k r) failed = rw (e, q, guard, ◌>>=◌) at h in let o : ◌≡◌ {A = ℕ} 0 1 = cc in absurd (omega arith)
      test a k r e false q = rw (e, element-out xs a (ltb-false a (length xs) q), ◌>>=◌)

      go : (x : Got ℕ) → word n (drop n s) ≡ x → choice xs n (drop n s) ≡ failed
      go (got a k r) e = test a k r e (ltb a (length xs)) refl
      go failed e = rw (e, ◌>>=◌)

-- an enum number is below its count
pub index_below : (count n : ℕ) (u : List ℕ) {v m : ℕ} {t : List ℕ} → index count n u ≡ got v m t → v < count
unfolding index ◌>>=◌ guard
index_below count n u {v} {m} {t} h = go (word n u) refl
  where
    test : (a k : ℕ) (r : List ℕ) → word n u ≡ got a k r → (b : Bool) → ltb a count ≡ b → v < count
    test a k r e true q = let g : ◌≡◌ {A = Got ℕ} (got a k r) (got v m t) = rw (e, q, guard, ◌>>=◌) at h in let x : a ≡ v = cc in omega (arith, ltb-true a count q)
    test a k r e false q = let g : ◌≡◌ {A = Got ℕ} failed (got v m t) = rw (e, q, guard, ◌>>=◌) at h in let o : ◌≡◌ {A = ℕ} 0 1 = cc in absurd (omega arith)

    go : (x : Got ℕ) → word n u ≡ x → v < count
    go (got a k r) e = test a k r e (ltb a count) refl
    go failed e = let g : ◌≡◌ {A = Got ℕ} failed (got v m t) = rw (e, ◌>>=◌) at h in let o : ◌≡◌ {A = ℕ} 0 1 = cc in absurd (omega arith)

-- a span: one byte more, none more, no byte more
module _ (p : ℕ → Bool) where
  run_step : (k : ℕ) (s : List ℕ) (i : ℕ) → i < length s → p (get_or s i 0) ≡ true → run p k i (drop i s) ≡ run p (suc k) (i + 1) (drop (i + 1) s)
  unfolding run
  run_step k s i h d = rw (add-one, drop-cons s i 0 h, d, run)

  run-stop : (k : ℕ) (s : List ℕ) (i : ℕ) → i < length s → p (get_or s i 0) ≡ false → run p k i (drop i s) ≡ got k i (drop i s)
  unfolding run
  run-stop k s i h d = rw (drop-cons s i 0 h, d, run)

  run_past : (k : ℕ) (s : List ℕ) (i : ℕ) → length s ≤ i → run p k i (drop i s) ≡ got k i (drop i s)
  unfolding run
  run_past k s i h = rw (drop_of_length-le s h)

  -- however many bytes passed before
  end-count : (u : List ℕ) (k n : ℕ) → position_after (run p (suc k) n u) ≡ position_after (run p k n u)
  unfolding run
  end-count [] k n = refl
  end-count (x ∷ u) k n = go (p x) refl (end-count u (suc k) (suc n))
    where
      go : (b : Bool) → p x ≡ b → position_after (run p (suc (suc k)) (suc n) u) ≡ position_after (run p (suc k) (suc n) u) → position_after (run p (suc k) n (x ∷ u)) ≡ position_after (run p k n (x ∷ u))
      go true e ih = rw (e, run) ih
      go false e ih = rw (e, run)

  end_step : (s : List ℕ) (i : ℕ) → i < length s → p (get_or s i 0) ≡ true → run_end p s (i + 1) ≡ run_end p s i
  unfolding run_end
  end_step s i h d = rw (run_end, run_step 0 s i h d) (sym (end-count (drop (i + 1) s) 0 (i + 1)))

  -- as std counts the bytes before the first that fails
  pub end-first : (u : List ℕ) (k n : ℕ) → position_after (run p k n u) ≡ n + position_or_len (λ b. not (p b)) u
  unfolding run
  end-first [] k n = omega arith
  end-first (x ∷ u) k n = go (p x) refl (end-first u (suc k) (suc n))
    where
      go : (b : Bool) → p x ≡ b → position_after (run p (suc k) (suc n) u) ≡ suc n + position_or_len (λ b. not (p b)) u → position_after (run p k n (x ∷ u)) ≡ n + position_or_len (λ b. not (p b)) (x ∷ u)
      go true e ih = rw (e, run) (ih ∙ omega arith)
      go false e ih = let q : n ≡ n + 0 = omega arith in rw (e, run) q

  -- many bytes at once
  pub end-steps : (s : List ℕ) (i n : ℕ) → i + n ≤ length s → Every (λ j. p (get_or s (i + j) 0)) n → run_end p s (i + n) ≡ run_end p s i
  end-steps s i zero h e = let q : i + 0 ≡ i = omega arith in rw q
  end-steps s i (suc n) h e =
      let q : i + suc n ≡ i + n + 1 = omega arith in
      rw q (end_step s (i + n) (omega arith) (e n (omega arith)) ∙ end-steps s i n (omega arith) (λ j l. e j (omega arith)))

  -- what the position after a span says of it
  pub end-run : (s : List ℕ) (n : ℕ) {m : ℕ} → m ≡ run_end p s n → (n ≤ m) × (run p 0 n (drop n s) ≡ got (m - n) m (drop m s))
  unfolding run_end
  end-run s n {m} h = go (run p 0 n (drop n s)) refl
    where
      go : (x : Got ℕ) → run p 0 n (drop n s) ≡ x → (n ≤ m) × (run p 0 n (drop n s) ≡ got (m - n) m (drop m s))
      go (got a k t) e =
          let q : m ≡ k = h ∙ ap position_after e in
          let l : a + n ≡ 0 + k = run_length (drop n s) p 0 n a k t e in
          let d : a ≡ m - n = omega arith in
          (omega arith, got-place (run p 0) (λ s n u. run-from u p 0 s n) s n {t = t} (e ∙ cc))
      go failed e = absurd (run-total (drop n s) p 0 n e)

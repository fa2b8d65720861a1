-- Laws of numbers in decimal, and of texts put one after another.
use Rattle.std.proofs.Common.{◌≡◌, refl, sym, ap, ◌∙◌, Bool, true, false, List, [], ◌∷◌, ◌++◌, append_assoc, ℕ, zero, suc, ◌+◌, ◌*◌, ◌/◌, ◌%◌, ◌^◌, ◌≤◌, ◌<◌, arith, length, length-append}
use native.Mathlib.Nat.{pow-suc}
use borrow.Author.Tests.{lt-ltb, le-ltb, ltb-true, ltb-false}
use Rattle.std.specs.Prelude.{ltb}
use Rattle.output.specs.Decimal.{digits, decimal, last_digit}
use Rattle.output.specs.Sink.{SinkLaws}

-- ---- a number in decimal

none : (n : ℕ) (after : List ℕ) → digits zero n after ≡ after
unfolding digits
none n after = refl

last : (k n : ℕ) (after : List ℕ) → n < 10 → digits (suc k) n after ≡ (48 + n) ∷ after
unfolding digits
last k n after h = rw (lt-ltb n 10 h, digits)

step : (k n : ℕ) (after : List ℕ) → 10 ≤ n → digits (suc k) n after ≡ digits k (n / 10) ((48 + n % 10) ∷ after)
unfolding digits
step k n after h = rw (le-ltb n 10 h, digits)

-- what is already written stays
digits-before : (k n : ℕ) (a b : List ℕ) → digits k n (a ++ b) ≡ digits k n a ++ b
digits-before zero n a b = none n (a ++ b) ∙ ap (λ (l : List ℕ). l ++ b) (sym (none n a))
digits-before (suc k) n a b = go (ltb n 10) refl (digits-before k (n / 10) ((48 + n % 10) ∷ a) b)
  where
    go : (t : Bool) → ltb n 10 ≡ t → digits k (n / 10) ((48 + n % 10) ∷ a ++ b) ≡ digits k (n / 10) ((48 + n % 10) ∷ a) ++ b → digits (suc k) n (a ++ b) ≡ digits (suc k) n a ++ b
    go true t ih = rw (last k n (a ++ b) (ltb-true n 10 t), last k n a (ltb-true n 10 t))
    go false t ih = rw (step k n (a ++ b) (ltb-false n 10 t), step k n a (ltb-false n 10 t)) ih

-- a larger bound changes nothing
digits-enough : (j k n : ℕ) (after : List ℕ) → n < j → n < k → digits j n after ≡ digits k n after
digits-enough zero k n after p q = absurd (omega arith)
digits-enough (suc j) zero n after p q = absurd (omega arith)
digits-enough (suc j) (suc k) n after p q =
    go (ltb n 10) refl (λ h. digits-enough j k (n / 10) ((48 + n % 10) ∷ after) (omega arith) (omega arith))
  where
    go : (t : Bool) → ltb n 10 ≡ t → (10 ≤ n → digits j (n / 10) ((48 + n % 10) ∷ after) ≡ digits k (n / 10) ((48 + n % 10) ∷ after)) → digits (suc j) n after ≡ digits (suc k) n after
    go true t ih = last j n after (ltb-true n 10 t) ∙ sym (last k n after (ltb-true n 10 t))
    go false t ih =
        let h : 10 ≤ n = ltb-false n 10 t in
        step j n after h ∙ ih h ∙ sym (step k n after h)

pub decimal-one : (n : ℕ) → n < 10 → decimal n ≡ (48 + n % 10) ∷ []
unfolding decimal
decimal-one n h = last n n [] h ∙ ap (λ d. (48 + d) ∷ []) (omega arith)

decimal-more : (n : ℕ) → 10 ≤ n → decimal n ≡ decimal (n / 10) ++ ((48 + n % 10) ∷ [])
unfolding decimal
decimal-more n h =
    step n n [] h ∙ digits-before n (n / 10) [] ((48 + n % 10) ∷ [])
    ∙ ap (λ (l : List ℕ). l ++ ((48 + n % 10) ∷ [])) (digits-enough n (suc (n / 10)) (n / 10) [] (omega arith) (omega arith))

-- numbers of two and of three digits
pub decimal_two : (n : ℕ) → 10 ≤ n → n < 100 → decimal n ≡ last_digit (n / 10) ∷ last_digit n ∷ []
decimal_two n h l = decimal-more n h ∙ ap (λ a. a ++ (last_digit n ∷ [])) (decimal-one (n / 10) (omega arith))

tens : (n : ℕ) → n / 10 / 10 ≡ n / 100
tens n = omega arith

pub decimal_three : (n : ℕ) → 100 ≤ n → n < 1000 → decimal n ≡ last_digit (n / 100) ∷ last_digit (n / 10) ∷ last_digit n ∷ []
decimal_three n h l =
    decimal-more n (omega arith) ∙ ap (λ a. a ++ (last_digit n ∷ [])) (decimal_two (n / 10) (omega arith) (omega arith))
    ∙ ap (λ m. last_digit m ∷ last_digit (n / 10) ∷ last_digit n ∷ []) (tens n)

-- the last three digits of a longer one
pub decimal_thousands : (n : ℕ) → 1000 ≤ n → decimal n ≡ decimal (n / 1000) ++ (last_digit (n / 100) ∷ last_digit (n / 10) ∷ last_digit n ∷ [])
decimal_thousands n h =
    let hundreds : decimal (n / 100) ≡ decimal (n / 1000) ++ (last_digit (n / 100) ∷ []) =
    let e : n / 100 / 10 ≡ n / 1000 = omega arith in
    decimal-more (n / 100) (omega arith) ∙ ap (λ m. decimal m ++ (last_digit (n / 100) ∷ [])) e in
    let two : decimal (n / 10) ≡ decimal (n / 1000) ++ (last_digit (n / 100) ∷ last_digit (n / 10) ∷ []) =
    decimal-more (n / 10) (omega arith) ∙ ap (λ m. decimal m ++ (last_digit (n / 10) ∷ [])) (tens n)
    ∙ ap (λ a. a ++ (last_digit (n / 10) ∷ [])) hundreds
    ∙ append_assoc (decimal (n / 1000)) (last_digit (n / 100) ∷ []) (last_digit (n / 10) ∷ []) in
    decimal-more n (omega arith) ∙ ap (λ a. a ++ (last_digit n ∷ [])) two
    ∙ append_assoc (decimal (n / 1000)) (last_digit (n / 100) ∷ last_digit (n / 10) ∷ []) (last_digit n ∷ [])

-- how many digits a number has
pub length_one : (n : ℕ) → n < 10 → length (decimal n) ≡ 1
length_one n h = ap length (decimal-one n h)

pub length_two : (n : ℕ) → 10 ≤ n → n < 100 → length (decimal n) ≡ 2
length_two n h l = ap length (decimal_two n h l)

pub length_three : (n : ℕ) → 100 ≤ n → n < 1000 → length (decimal n) ≡ 3
length_three n h l = ap length (decimal_three n h l)

pub length_thousands : (n : ℕ) → 1000 ≤ n → length (decimal n) ≡ length (decimal (n / 1000)) + 3
length_thousands n h = ap length (decimal_thousands n h) ∙ length-append (decimal (n / 1000)) (last_digit (n / 100) ∷ last_digit (n / 10) ∷ last_digit n ∷ [])

-- from the tens power at or below it
pub length_power : (k n : ℕ) → 10 ^ k ≤ n → n < 10 * 10 ^ k → length (decimal n) ≡ suc k
length_power zero n h l = length_one n (omega arith)
length_power (suc k) n h l =
    let rest = length_power k (n / 10) (omega (arith, pow-suc 10 k)) (omega (arith, pow-suc 10 k)) in
    omega (arith, rest, ap length (decimal-more n (omega (arith, pow-suc 10 k))), length-append (decimal (n / 10)) (last_digit n ∷ []))

-- a number of 32 bits has at most ten digits
decimal-within : (k n : ℕ) → n < 10 ^ suc k → length (decimal n) ≤ suc k
decimal-within zero n h = omega (arith, ap length (decimal-one n (omega (arith, pow-suc 10 0))))
decimal-within (suc k) n h = go (ltb n 10) refl (decimal-within k (n / 10) (omega (arith, pow-suc 10 (suc k))))
  where
    go : (t : Bool) → ltb n 10 ≡ t → length (decimal (n / 10)) ≤ suc k → length (decimal n) ≤ suc (suc k)
    go true t ih = omega (arith, ap length (decimal-one n (ltb-true n 10 t)))
    go false t ih = omega (arith, ap length (decimal-more n (ltb-false n 10 t)), length-append (decimal (n / 10)) ((48 + n % 10) ∷ []))

pub decimal-short : (n : ℕ) → n < 2 ^ 32 → length (decimal n) ≤ 10
decimal-short n h = decimal-within 9 n (omega arith)

-- ---- texts put one after another

module _ {S : Type 0} {after : S → List ℕ → S} {fits : S → List ℕ → Type 0} (laws : SinkLaws after fits) {s : S} {text : List ℕ} (a b : List ℕ) (whole : text ≡ a ++ b) where
  -- where a text fits, so does its start
  pub fits-first : fits s text → fits s a
  fits-first h = laws.first s a b (rw whole at h)

  module _ {t : S} (put : t ≡ after s a) where
    -- and after the start the rest
    pub fits-next : fits s text → fits t b
    fits-next h = rw put (laws.next s a b (rw whole at h))

    -- which makes the text
    pub after-both : {u : S} → u ≡ after t b → u ≡ after s text
    after-both e = rw (e, put, whole) (laws.both s a b)

-- what is left of a text, for a sink that was `s` before it
pub record Left {S : Type 0} (after : S → List ℕ → S) (fits : S → List ℕ → Type 0) (s : S) (text : List ℕ) (t : S) (rest : List ℕ) : Type 0 where
  pub room : fits t rest
  pub whole : after t rest ≡ after s text

module _ {S : Type 0} {after : S → List ℕ → S} {fits : S → List ℕ → Type 0} (laws : SinkLaws after fits) {s : S} {text : List ℕ} where
  pub left-all : {rest : List ℕ} → rest ≡ text → fits s text → Left after fits s text s rest
  left-all e h = record { room = rw e h; whole = ap (after s) e }

  module _ {t : S} {rest : List ℕ} (left : Left after fits s text t rest) where
    pub left-done : rest ≡ [] → t ≡ after s text
    left-done e = sym (laws.nothing t (rw e at left.room)) ∙ ap (after t) (sym e) ∙ left.whole

    module _ (a b : List ℕ) (e : rest ≡ a ++ b) where
      pub left-fits : fits t a
      left-fits = fits-first laws a b e left.room

      pub left-next : {u : S} → u ≡ after t a → Left after fits s text u b
      left-next put = record {
        room = fits-next laws a b e put left.room;
        whole = ap (λ x. after x b) put ∙ laws.both t a b ∙ ap (after t) (sym e) ∙ left.whole;
      }

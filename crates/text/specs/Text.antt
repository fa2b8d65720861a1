-- Reading a text from the left. A reader is given how many bytes precede and the bytes from there on.
use Rattle.std.specs.Prelude.{Option, Some, None, option_map, ℕ, suc, ◌+◌, ◌*◌, ◌-◌, ◌^◌, ◌%◌, Bool, true, false, ◌&&◌, ◌||◌, List, [], ◌∷◌, leb, ltb, eqb, take, drop}
use Rattle.std.proofs.Math.Option.{some, none}
use Rattle.std.proofs.Math.ListN.{get_elem?}
use Rattle.ast.specs.declared.Location.{Location}
use Rattle.ast.specs.declared.Signed.{Signed}
use Rattle.text.specs.declared.Place.{Place}
use Rattle.text.specs.declared.Cursor.{Cursor}

-- what a reader gives: a value, the position after it and the bytes from there on; or nothing
pub data Got (A : Type 0) : Type 0 where
  got : A → ℕ → List ℕ → Got A
  failed : Got A

abbrev pub Reader : Type 0 → Type 0
Reader A = ℕ → List ℕ → Got A

infixl 20 ◌>>=◌ ◌>>◌
infixr 30 ◌<∘>◌
-- as the code has it: a value and the cursor after it, or nothing
abbrev pub given : {A : Type 0} → Cursor → Got A → Option (A × Cursor)
given c (got a n s) = Some (a, record c { at = n })
given c failed = None

-- what a reader gives from a cursor on
unfoldable pub read : {A : Type 0} → Reader A → Cursor → Option (A × Cursor)
read r c = given c (r c.at (drop c.at c.listing.now))

-- the position after what a reader gives, 0 where it gives nothing
abbrev pub position_after : {A : Type 0} → Got A → ℕ
position_after (got a n s) = n
position_after failed = 0

-- the cursor after what a reader reads
abbrev pub after : {A : Type 0} → Reader A → Cursor → Option Cursor
after r c = option_map (λ p. p.1) (read r c)

-- one reader, then another
unfoldable pub ◌>>=◌ : {A B : Type 0} → Reader A → (A → Reader B) → Reader B
◌>>=◌ m f n s = elim (m n s) [ got a k r ↦ f a k r | failed ↦ failed ]

unfoldable pub ◌>>◌ : {A B : Type 0} → Reader A → Reader B → Reader B
unfolding ◌>>=◌
◌>>◌ m r = m >>= λ _. r

-- a value, with nothing read
unfoldable pub yield : {A : Type 0} → A → Reader A
yield a n s = got a n s

-- a value, changed by f
unfoldable pub ◌<∘>◌ : {A B : Type 0} → (A → B) → Reader A → Reader B
◌<∘>◌ f r = r >>= λ a. yield (f a)

unfoldable pub fail : {A : Type 0} → Reader A
fail n s = failed

-- go on only where a test is passed
unfoldable pub guard : {A : Type 0} → Bool → A → Reader A
guard true a n s = got a n s
guard false a n s = failed

abbrev pub newline : ℕ
newline = 10

abbrev pub comma : ℕ
comma = 44

abbrev pub minus : ℕ
minus = 45

-- the byte b itself
unfoldable pub byte : ℕ → Reader ℕ
byte b n [] = failed
byte b n (x ∷ s) = elim (eqb x b) [ true ↦ got x (suc n) s | false ↦ failed ]

-- from low to high, both included
unfoldable pub within : ℕ → ℕ → ℕ → Bool
within low high b = leb low b && leb b high

-- 0 to 9
unfoldable pub is_digit : ℕ → Bool
is_digit b = within 48 57 b

-- the digits from here on, after the number v
unfoldable pub digits : ℕ → Reader ℕ
digits v n [] = got v n []
digits v n (b ∷ s) = elim (is_digit b) [ true ↦ digits (v * 10 + (b - 48)) (suc n) s | false ↦ got v n (b ∷ s) ]

-- a number: no plus sign, no leading zero
unfoldable pub decimal : Reader ℕ
decimal n [] = failed
decimal n (b ∷ s) = elim (eqb b 48) [
  | true ↦ got 0 (suc n) s
  | false ↦ elim (is_digit b) [ true ↦ digits (b - 48) (suc n) s | false ↦ failed ]
]

-- the number that a reader gives, if it is at most the limit
unfoldable pub capped : ℕ → Reader ℕ → Reader ℕ
capped limit r = r >>= λ v. guard (leb v limit) v

-- a number from 0 to the limit
unfoldable pub up_to : ℕ → Reader ℕ
up_to limit = capped limit decimal

-- a field that is a number of 32 bits: 0 to 4294967295
unfoldable pub word : Reader ℕ
word = byte comma >> up_to 4294967295

-- a field that is an enum number: below the count of its variants
unfoldable pub index : ℕ → Reader ℕ
index count = word >>= λ v. guard (ltb v count) v

-- a field that numbers one of these, from 0; one past the last is no form
unfoldable pub choice : {A : Type 0} → List A → Reader A
choice xs = do
  v ← word
  elim (get_elem? xs v) [ none ↦ fail | some a ↦ yield a ]

-- a field that is 0 or 1
unfoldable pub bit : Reader Bool
bit = choice (false ∷ true ∷ [])

-- what follows a minus sign: at most 2^63, no zero
unfoldable pub after_minus : Reader Signed
after_minus = do
  v ← up_to (2 ^ 63)
  guard (ltb 0 v) (record { negative = true; magnitude = v })

-- a number with no sign: at most 2^63 - 1
unfoldable pub unsigned : Reader Signed
unsigned = do
  v ← up_to (2 ^ 63 - 1)
  yield (record { negative = false; magnitude = v })

-- with a minus sign or without
unfoldable pub sign : Reader Signed
sign n [] = failed
sign n (b ∷ s) = elim (eqb b minus) [ true ↦ after_minus (suc n) s | false ↦ unsigned n (b ∷ s) ]

-- a field that is a signed number of 64 bits
unfoldable pub signed : Reader Signed
signed = byte comma >> sign

-- w: start, end, line, column
unfoldable pub location : Reader Location
location = do
  a ← word
  b ← word
  c ← word
  d ← word
  yield (record { start = a; end = b; line = c; column = d })

-- an ASCII letter, digit or underscore
unfoldable pub is_name_byte : ℕ → Bool
is_name_byte b = is_digit b || within 65 90 b || within 97 122 b || eqb b 95

-- a lower-case hex digit
unfoldable pub is_hex_digit : ℕ → Bool
is_hex_digit b = is_digit b || within 97 102 b

-- how many bytes from here on pass a test, k having passed before
unfoldable pub run : (ℕ → Bool) → ℕ → Reader ℕ
run p k n [] = got k n []
run p k n (b ∷ s) = elim (p b) [ true ↦ run p (suc k) (suc n) s | false ↦ got k n (b ∷ s) ]

-- the position after the bytes from position n on that pass a test
unfoldable pub run_end : (ℕ → Bool) → List ℕ → ℕ → ℕ
run_end p s n = position_after (run p 0 n (drop n s))

-- the part from here on whose bytes pass a test
unfoldable pub span : (ℕ → Bool) → Reader Place
span p n s = (run p 0 >>= λ k. yield (record { at = n; len = k })) n s

-- a field that is a name: one or more bytes
unfoldable pub name : Reader Place
name = do
  byte comma
  x ← span is_name_byte
  guard (ltb 0 x.len) x

-- a field that is a literal's bytes: pairs of digits, possibly none
unfoldable pub literal : Reader Place
literal = do
  byte comma
  x ← span is_hex_digit
  guard (eqb (x.len % 2) 0) x

-- a part of a listing
unfoldable pub part : List ℕ → Place → List ℕ
part s p = take p.len (drop p.at s)

-- what a lower-case hex digit stands for
unfoldable pub hex_value : ℕ → ℕ
hex_value b = elim (leb b 57) [ true ↦ b - 48 | false ↦ b - 87 ]

-- the bytes that pairs of hex digits spell
unfoldable pub unhex : List ℕ → List ℕ
unhex [] = []
unhex (a ∷ []) = []
unhex (a ∷ b ∷ s) = (hex_value a * 16 + hex_value b) ∷ unhex s

-- a literal's bytes
unfoldable pub bytes_of : List ℕ → Place → List ℕ
bytes_of s p = unhex (part s p)

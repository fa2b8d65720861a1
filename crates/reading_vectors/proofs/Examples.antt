-- Readings, computed: each form, each fault of a field, each kind where it may not follow, early ends, and each ceiling at it and one past.
use Rattle.std.proofs.Common.{◌≡◌, ℕ, zero, suc, ◌+◌, true, false, eqb, List, [], ◌∷◌, ◌++◌, map, refl}
use Prim.Native.String.{String}
use Rattle.reader.specs.Source.{at_line}
use Rattle.reader.proofs.Computed.{bytes, times, Outcome, reads, refuses, computed}

-- a listing, and what its reading gives
record Example : Type 0 where
  listing : List ℕ
  answer : Outcome

-- refusal k at line n
abbrev fails : ℕ → ℕ → Outcome
fails k n = refuses k (at_line n)

-- the examples of each x
unfoldable each : {A : Type 0} → List A → (A → List Example) → List Example
each [] f = []
each (x ∷ xs) f = f x ++ each xs f

-- a field: a text that is good, and texts that have no form there
record Field : Type 0 where
  good : String
  faults : List String

abbrev word : Field
word = record { good = "0"; faults = "" ∷ "00" ∷ "+1" ∷ "-0" ∷ " 0" ∷ "0\r" ∷ "4294967296" ∷ "99999999999999999999999" ∷ [] }

-- an enum number, e, b or a mark, given one past the last
abbrev below : String → Field
below n = record { good = "0"; faults = n ∷ "" ∷ "00" ∷ "+0" ∷ "-0" ∷ "0 " ∷ "4294967296" ∷ [] }

abbrev signed : Field
signed = record { good = "-1"; faults = "" ∷ "-" ∷ "-0" ∷ "00" ∷ "-01" ∷ "+1" ∷ "--1" ∷ "- 1" ∷ "9223372036854775808" ∷ "-9223372036854775809" ∷ "99999999999999999999999" ∷ [] }

abbrev name : Field
name = record { good = "aZ_09"; faults = "" ∷ "a-b" ∷ "a b" ∷ "a\r" ∷ "@" ∷ "[" ∷ "`" ∷ "{" ∷ "/" ∷ ":" ∷ "é" ∷ [] }

abbrev literal : Field
literal = record { good = "00ff"; faults = "6" ∷ "616" ∷ "6A" ∷ "6g" ∷ "6`" ∷ " 61" ∷ "61\r" ∷ "/6" ∷ "6:" ∷ [] }

abbrev w : List Field → List Field
w fs = word ∷ word ∷ word ∷ word ∷ fs

-- a kind of line: its number, the least lines after which one is due, and the line at which it then stands
record Kind : Type 0 where
  number : ℕ
  before : String
  line : ℕ

abbrev contract : Kind
contract = record { number = 0; before = ""; line = 1 }

abbrev declaration : Kind
declaration = record { number = 1; before = "T,0,1\n"; line = 2 }

abbrev item : Kind
item = record { number = 2; before = "T,0,1\nD,1\n"; line = 3 }

abbrev block : Kind
block = record { number = 3; before = "T,0,0\n"; line = 2 }

abbrev statement : Kind
statement = record { number = 4; before = "T,0,0\nB,1\n"; line = 3 }

abbrev expression : Kind
expression = record { number = 5; before = "T,0,0\nB,1\nE,0,0,0,0\n"; line = 4 }

abbrev factor : Kind
factor = record { number = 6; before = "T,0,0\nB,1\nE,0,0,0,0\ng,0,0,0,0\n"; line = 5 }

-- after a contract that has ended
abbrev nothing : Kind
nothing = record { number = 7; before = "T,0,0\nB,0\n"; line = 3 }

abbrev kinds : List Kind
kinds = contract ∷ declaration ∷ item ∷ block ∷ statement ∷ expression ∷ factor ∷ nothing ∷ []

-- a form: where its lines may stand, its letter, its fields, what completes a contract after such a line, and the lines of that contract
record Form : Type 0 where
  kind : Kind
  letter : String
  fields : List Field
  after : String
  lines : ℕ

forms : List Form
forms =
    record { kind = contract; letter = "T"; fields = below "3" ∷ word ∷ []; after = "B,0\n"; lines = 2 } ∷
    record { kind = declaration; letter = "D"; fields = word ∷ []; after = "B,0\n"; lines = 3 } ∷
    record { kind = item; letter = "P"; fields = w (below "4" ∷ name ∷ []); after = "B,0\n"; lines = 4 } ∷
    record { kind = block; letter = "B"; fields = word ∷ []; after = ""; lines = 2 } ∷
    record { kind = statement; letter = "I"; fields = w (below "2" ∷ []); after = "b,1,1,1,1,1\nB,0\n"; lines = 5 } ∷
    record { kind = statement; letter = "L"; fields = w (below "3" ∷ signed ∷ []); after = ""; lines = 3 } ∷
    record { kind = statement; letter = "V"; fields = w []; after = "b,1,1,1,1,1\n"; lines = 4 } ∷
    record { kind = statement; letter = "E"; fields = w []; after = "b,1,1,1,1,1\n"; lines = 4 } ∷
    record { kind = expression; letter = "v"; fields = w (name ∷ []); after = ""; lines = 4 } ∷
    record { kind = expression; letter = "n"; fields = w (signed ∷ []); after = ""; lines = 4 } ∷
    record { kind = expression; letter = "b"; fields = w (below "2" ∷ []); after = ""; lines = 4 } ∷
    record { kind = expression; letter = "s"; fields = w (literal ∷ below "2" ∷ []); after = ""; lines = 4 } ∷
    record { kind = expression; letter = "l"; fields = w (below "2" ∷ []); after = "b,1,1,1,1,1\nb,1,1,1,1,1\n"; lines = 6 } ∷
    record { kind = expression; letter = "c"; fields = w (below "8" ∷ []); after = "b,1,1,1,1,1\nb,1,1,1,1,1\n"; lines = 6 } ∷
    record { kind = expression; letter = "m"; fields = w (below "4" ∷ []); after = "b,1,1,1,1,1\nb,1,1,1,1,1\n"; lines = 6 } ∷
    record { kind = expression; letter = "u"; fields = w (below "5" ∷ []); after = "b,1,1,1,1,1\n"; lines = 5 } ∷
    record { kind = expression; letter = "h"; fields = w (below "2" ∷ []); after = "b,1,1,1,1,1\n"; lines = 5 } ∷
    record { kind = expression; letter = "z"; fields = w []; after = "b,1,1,1,1,1\n"; lines = 5 } ∷
    record { kind = expression; letter = "g"; fields = w []; after = "S,0,0,0,0\nb,1,1,1,1,1\nb,1,1,1,1,1\n"; lines = 7 } ∷
    record { kind = factor; letter = "S"; fields = w []; after = "b,1,1,1,1,1\nb,1,1,1,1,1\n"; lines = 7 } ∷
    record { kind = factor; letter = "M"; fields = w (word ∷ word ∷ []); after = ""; lines = 5 } ∷
    []

-- the good texts of fields
unfoldable good : List Field → List ℕ
unfolding bytes
good [] = []
good (f ∷ fs) = bytes "," ++ (bytes f.good ++ good fs)

-- the texts of fields with one fault: a text that is at fault, a field missing, a field too many
unfoldable faulty : List ℕ → List Field → List (List ℕ)
unfolding bytes good
faulty s [] = (s ++ bytes ",0") ∷ []
faulty s (f ∷ fs) = (s ++ good fs) ∷ (map (λ t. s ++ (bytes "," ++ (bytes t ++ good fs))) f.faults ++ faulty (s ++ (bytes "," ++ bytes f.good)) fs)

-- a line of the form
unfoldable good-line : Form → List ℕ
unfolding bytes good
good-line f = bytes f.letter ++ good f.fields

-- each form is read
unfoldable read-forms : List Example
unfolding bytes each forms good-line
read-forms = each forms (λ f. record { listing = bytes f.kind.before ++ (good-line f ++ (bytes "\n" ++ bytes f.after)); answer = reads f.lines } ∷ [])

-- each fault of each field is 2, wherever the line stands, and so is a line without its byte 10
unfoldable faulty-forms : List Example
unfolding bytes each forms faulty good-line
faulty-forms = each forms (λ f.
    record { listing = bytes f.kind.before ++ good-line f; answer = fails 2 f.kind.line } ∷
    map (λ l. record { listing = l ++ bytes "\n"; answer = fails 2 1 }) (faulty (bytes f.letter) f.fields))

-- each form where another kind is due is 3
unfoldable elsewhere : Kind → Form → List Example
unfolding bytes good-line
elsewhere k f = elim (eqb k.number f.kind.number) [
  | true ↦ []
  | false ↦ record { listing = bytes k.before ++ (good-line f ++ bytes "\n"); answer = fails 3 k.line } ∷ []
]

unfoldable wrong-kinds : List Example
unfolding each forms elsewhere
wrong-kinds = each kinds (λ k. each forms (elsewhere k))

-- n lines that were read, then each of the lines t: an end too early is 3, at last line plus 1
unfoldable cut : List ℕ → ℕ → List String → List Example
unfolding bytes
cut s n [] = record { listing = s; answer = reads n } ∷ []
cut s n (t ∷ ts) = record { listing = s; answer = fails 3 (suc n) } ∷ cut (s ++ bytes t) (suc n) ts

-- all forms, with operands and factors in every place
abbrev whole : List String
whole =
    "T,2,2\n" ∷ "D,2\n" ∷ "P,0,1,1,0,2,p\n" ∷ "P,3,4,1,3,3,c\n" ∷ "D,0\n" ∷ "B,3\n" ∷
    "L,1,2,3,4,1,65535\n" ∷ "V,5,6,7,8\n" ∷ "l,1,1,1,1,1\n" ∷ "c,2,2,2,2,7\n" ∷ "m,3,3,3,3,3\n" ∷ "n,4,4,4,4,-7\n" ∷ "z,5,5,5,5\n" ∷
    "s,6,6,6,6,,1\n" ∷ "u,7,7,7,7,3\n" ∷ "n,8,8,8,8,0\n" ∷ "g,1,1,1,1\n" ∷ "M,2,2,2,2,2,3\n" ∷ "S,3,3,3,3\n" ∷ "v,4,4,4,4,sig\n" ∷
    "s,5,5,5,5,02ff,0\n" ∷ "M,6,6,6,6,0,0\n" ∷ "M,7,7,7,7,1,1\n" ∷ "S,8,8,8,8\n" ∷ "v,9,9,9,9,t\n" ∷ "s,1,1,1,1,00,1\n" ∷
    "I,20,60,3,0,1\n" ∷ "v,23,24,3,3,c\n" ∷ "B,1\n" ∷ "I,1,2,3,4,0\n" ∷ "b,1,1,1,1,0\n" ∷ "B,0\n" ∷
    "B,2\n" ∷ "L,4,3,2,1,0,-1\n" ∷ "E,50,58,6,0\n" ∷ "h,53,58,6,3,1\n" ∷ "v,53,54,6,3,n\n" ∷ []

-- 1022 lines: a block of n statements, the first 255 of them ifs; then a text
unfoldable ifs : String → String → List ℕ
unfolding bytes times
ifs n t = bytes "T,0,0\nB," ++ (bytes n ++ (bytes "\n" ++ (times 255 (bytes "I,0,0,0,0,1\nb,0,0,0,0,0\nB,0\nB,0\n") ++ bytes t)))

abbrev operand : String
operand = "b,1,1,1,1,1\n"

-- a return of these lines
unfoldable returned : List ℕ → List ℕ
unfolding bytes
returned s = bytes expression.before ++ s

-- a return of a signature check whose factor is these lines
unfoldable checked : List ℕ → List ℕ
unfolding bytes
checked s = bytes factor.before ++ s

-- n times a text, then another
unfoldable then : ℕ → String → String → List ℕ
unfolding bytes times
then n t u = times n (bytes t) ++ bytes u

-- a verify and a return, of n and m times not
unfoldable twice : ℕ → ℕ → List ℕ
unfolding bytes then
twice n m = bytes "T,0,0\nB,2\nV,0,0,0,0\n" ++ (then n "u,0,0,0,0,4\n" operand ++ (bytes "E,0,0,0,0\n" ++ then m "u,0,0,0,0,4\n" operand))

written : List Example
written =
    -- bytes, lines
    record { listing = times 32768 (bytes "\n"); answer = fails 2 1 } ∷
    record { listing = times 32769 (bytes "\n"); answer = fails 1 0 } ∷
    record { listing = ifs "257" "L,0,0,0,0,0,0\nL,0,0,0,0,0,0\n"; answer = reads 1024 } ∷
    record { listing = ifs "258" "L,0,0,0,0,0,0\nL,0,0,0,0,0,0\nL,0,0,0,0,0,0\n"; answer = fails 4 1025 } ∷
    record { listing = ifs "258" "L,0,0,0,0,0,0\nL,0,0,0,0,0,0\n\n"; answer = fails 2 1025 } ∷
    record { listing = ifs "257" "L,0,0,0,0,0,0\nL,0,0,0,0,0,0\nL,0,0,0,0,0,0\n"; answer = fails 3 1025 } ∷
    -- counts
    record { listing = bytes "T,0,32\n" ++ then 32 "D,0\n" "B,0\n"; answer = reads 34 } ∷
    record { listing = bytes "T,0,33\n" ++ then 33 "D,0\n" "B,0\n"; answer = fails 4 1 } ∷
    record { listing = bytes "T,0,4294967295\n"; answer = fails 4 1 } ∷
    record { listing = bytes "T,0,1\nD,32\n" ++ then 32 "P,0,0,0,0,0,a\n" "B,0\n"; answer = reads 35 } ∷
    record { listing = bytes "T,0,1\nD,33\n" ++ then 33 "P,0,0,0,0,0,a\n" "B,0\n"; answer = fails 4 2 } ∷
    record { listing = checked (bytes "M,0,0,0,0,1,64\n" ++ times 64 (bytes "M,0,0,0,0,0,0\n")); answer = reads 69 } ∷
    record { listing = checked (bytes "M,0,0,0,0,1,65\n" ++ times 65 (bytes "M,0,0,0,0,0,0\n")); answer = fails 4 5 } ∷
    record { listing = checked (bytes "M,0,0,0,0,1,1\nM,0,0,0,0,1,65\n"); answer = fails 4 6 } ∷
    record { listing = checked (bytes "M,0,0,0,0,4294967295,0\n"); answer = reads 5 } ∷
    record { listing = bytes "T,0,0\nB,4294967295\nL,0,0,0,0,0,0\n"; answer = fails 3 4 } ∷
    record { listing = bytes "T,0,1\nD,0\nD,0\n"; answer = fails 3 3 } ∷
    record { listing = bytes "T,0,1\nD,0\nP,0,0,0,0,0,a\n"; answer = fails 3 3 } ∷
    record { listing = bytes "T,0,0\nB,1\nL,0,0,0,0,0,0\nL,0,0,0,0,0,0\n"; answer = fails 3 4 } ∷
    record { listing = checked (bytes "M,0,0,0,0,1,0\nS,0,0,0,0\n"); answer = fails 3 6 } ∷
    -- names, literals
    record { listing = bytes "T,0,1\nD,1\nP,0,0,0,0,0," ++ then 32 "a" "\nB,0\n"; answer = reads 4 } ∷
    record { listing = bytes "T,0,1\nD,1\nP,0,0,0,0,0," ++ then 33 "a" "\nB,0\n"; answer = fails 4 3 } ∷
    record { listing = returned (bytes "v,0,0,0,0," ++ then 32 "Z" "\n"); answer = reads 4 } ∷
    record { listing = returned (bytes "v,0,0,0,0," ++ then 33 "Z" "\n"); answer = fails 4 4 } ∷
    record { listing = returned (bytes "s,0,0,0,0," ++ then 1200 "7f" ",1\n"); answer = reads 4 } ∷
    record { listing = returned (bytes "s,0,0,0,0," ++ then 1201 "7f" ",1\n"); answer = fails 4 4 } ∷
    -- numbers at their ends
    record { listing = returned (bytes "n,4294967295,4294967295,4294967295,4294967295,9223372036854775807\n"); answer = reads 4 } ∷
    record { listing = returned (bytes "n,0,0,0,0,-9223372036854775808\n"); answer = reads 4 } ∷
    -- depth 32 and 33: by one operand, by the first of two, by the second, by checks, by inner multi-signatures
    record { listing = returned (then 31 "u,0,0,0,0,4\n" operand); answer = reads 35 } ∷
    record { listing = returned (then 32 "u,0,0,0,0,4\n" operand); answer = fails 4 36 } ∷
    record { listing = returned (then 32 "z,0,0,0,0\n" operand); answer = fails 4 36 } ∷
    record { listing = returned (times 31 (bytes "l,0,0,0,0,0\n") ++ times 32 (bytes operand)); answer = reads 66 } ∷
    record { listing = returned (times 32 (bytes "c,0,0,0,0,0\n") ++ times 33 (bytes operand)); answer = fails 4 36 } ∷
    record { listing = returned (then 31 "m,0,0,0,0,0\nb,1,1,1,1,1\n" operand); answer = reads 66 } ∷
    record { listing = returned (then 32 "m,0,0,0,0,0\nb,1,1,1,1,1\n" operand); answer = fails 4 67 } ∷
    record { listing = returned (then 15 "g,0,0,0,0\nS,0,0,0,0\n" "u,0,0,0,0,4\n" ++ times 16 (bytes operand)); answer = reads 50 } ∷
    record { listing = returned (then 15 "g,0,0,0,0\nS,0,0,0,0\n" "u,0,0,0,0,4\nu,0,0,0,0,4\n" ++ times 16 (bytes operand)); answer = fails 4 36 } ∷
    record { listing = returned (then 31 "u,0,0,0,0,4\n" "g,0,0,0,0\nM,0,0,0,0,0,0\n"); answer = fails 4 36 } ∷
    record { listing = checked (then 30 "M,0,0,0,0,1,1\n" "M,0,0,0,0,0,0\n"); answer = reads 35 } ∷
    record { listing = checked (then 31 "M,0,0,0,0,1,1\n" "M,0,0,0,0,0,0\n"); answer = fails 4 36 } ∷
    record { listing = checked (then 29 "M,0,0,0,0,1,1\n" "S,0,0,0,0\nb,1,1,1,1,1\nb,1,1,1,1,1\n"); answer = reads 36 } ∷
    record { listing = checked (then 30 "M,0,0,0,0,1,1\n" "S,0,0,0,0\nb,1,1,1,1,1\nb,1,1,1,1,1\n"); answer = fails 4 36 } ∷
    record { listing = twice 31 31; answer = reads 68 } ∷
    record { listing = twice 31 32; answer = fails 4 69 } ∷
    -- blocks 32 and 33 deep: the if-block, the else-block
    record { listing = bytes "T,0,0\nB,1\n" ++ then 31 "I,0,0,0,0,0\nb,1,1,1,1,1\nB,1\n" "L,0,0,0,0,0,0\n"; answer = reads 96 } ∷
    record { listing = bytes "T,0,0\nB,1\n" ++ then 32 "I,0,0,0,0,0\nb,1,1,1,1,1\nB,1\n" "L,0,0,0,0,0,0\n"; answer = fails 4 98 } ∷
    record { listing = bytes "T,0,0\nB,1\n" ++ then 31 "I,0,0,0,0,1\nb,1,1,1,1,1\nB,0\nB,1\n" "L,0,0,0,0,0,0\n"; answer = reads 127 } ∷
    record { listing = bytes "T,0,0\nB,1\n" ++ then 32 "I,0,0,0,0,1\nb,1,1,1,1,1\nB,0\nB,1\n" "L,0,0,0,0,0,0\n"; answer = fails 4 129 } ∷
    -- on one line 2, then 3, then 4
    record { listing = bytes "T,3,33\n"; answer = fails 2 1 } ∷
    record { listing = bytes "D,33\n"; answer = fails 3 1 } ∷
    record { listing = bytes "v,0,0,0,0," ++ then 33 "a" "-\n"; answer = fails 2 1 } ∷
    record { listing = bytes "v,0,0,0,0," ++ then 33 "a" "\n"; answer = fails 3 1 } ∷
    record { listing = returned (then 32 "u,0,0,0,0,4\n" "b,0,0,0,0,2\n"); answer = fails 2 36 } ∷
    record { listing = returned (then 32 "u,0,0,0,0,4\n" "B,0\n"); answer = fails 3 36 } ∷
    record { listing = returned (times 32 (bytes "u,0,0,0,0,4\n")); answer = fails 3 36 } ∷
    -- no line, an empty line, lines of no form, and what follows the end
    record { listing = []; answer = fails 3 1 } ∷
    record { listing = bytes "\n"; answer = fails 2 1 } ∷
    record { listing = bytes "T"; answer = fails 2 1 } ∷
    record { listing = bytes "T,0,0,\nB,0\n"; answer = fails 2 1 } ∷
    record { listing = bytes "t,0,0\nB,0\n"; answer = fails 2 1 } ∷
    record { listing = bytes ",T,0,0\nB,0\n"; answer = fails 2 1 } ∷
    record { listing = bytes "T,0,0\r\nB,0\r\n"; answer = fails 2 1 } ∷
    record { listing = bytes "T,0,0\n\nB,0\n"; answer = fails 2 2 } ∷
    record { listing = bytes "T,0,0\nB,0\n\n"; answer = fails 2 3 } ∷
    record { listing = bytes "T,0,0\nB,0\nB,0"; answer = fails 2 3 } ∷
    record { listing = bytes "T,0,0\nB,0\nB,0\n"; answer = fails 3 3 } ∷
    []

unfoldable examples : List Example
unfolding written read-forms faulty-forms wrong-kinds cut
examples = written ++ (read-forms ++ (faulty-forms ++ (wrong-kinds ++ cut [] 0 whole)))

table : map (λ e. computed e.listing) examples ≡ map (λ e. e.answer) examples
unfolding bytes times computed each forms good faulty good-line read-forms faulty-forms elsewhere wrong-kinds cut ifs returned checked then twice written examples
table = refl

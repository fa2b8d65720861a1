-- Rows: a line kept in a few words of work memory.
use Rattle.std.specs.Prelude.{ℕ, zero, suc, ◌+◌, ◌*◌, ◌/◌, ◌%◌, ◌^◌, ◌≤◌, ◌<◌, Bool, true, false, List, [], ◌∷◌, eqb, length, get_or}
use Rattle.std.proofs.lemmas.List.Edits.{sets}
use Rattle.ast.specs.declared.Location.{Location}
use Rattle.ast.specs.declared.Signed.{Signed}
use Rattle.ast.specs.declared.Target.TheVariants.{Taproot}
use Rattle.ast.specs.declared.Type.TheVariants.{Boolean}
use Rattle.ast.specs.declared.BinaryLogicalOp.TheVariants.{BoolAnd}
use Rattle.ast.specs.declared.BinaryCompareOp.TheVariants.{NumNotEqual}
use Rattle.ast.specs.declared.BinaryMathOp.TheVariants.{Min}
use Rattle.ast.specs.declared.UnaryMathOp.TheVariants.{Not}
use Rattle.ast.specs.declared.UnaryCryptoOp.TheVariants.{Ripemd160}
use Rattle.ast.specs.declared.LocktimeOp.TheVariants.{CsvTime}
use Rattle.ast.specs.Tree.{unplaced}
use Rattle.ast.specs.Numbers.{targets, types, logical_ops, compare_ops, math_ops, unary_ops, crypto_ops, locktime_ops, target_number, type_number, logical_number, compare_number, math_number, unary_number, crypto_number, locktime_number}
use Rattle.text.specs.declared.Place.{Place}
use Rattle.listing.specs.declared.StatementLine.{StatementLine}
use Rattle.listing.specs.declared.ExpressionLine.{ExpressionLine}
use Rattle.listing.specs.declared.FactorLine.{FactorLine}
use Rattle.listing.specs.declared.Line.{Line}
use Rattle.rows.specs.declared.Words.{Words}

-- a row: the letter of the line's form, its w, and its other fields
abbrev pub row_with : ℕ → Location → ℕ → ℕ → ℕ → ℕ → Words
row_with k w a b c d = record { kind = k; start = w.start; end = w.end; line = w.line; column = w.column; a = a; b = b; c = c; d = d }

abbrev pub bit_number : Bool → ℕ
bit_number false = 0
bit_number true = 1

-- a signed number takes three words: its sign, and its magnitude's low and high word
abbrev pub signed_row : ℕ → Location → ℕ → Signed → Words
signed_row k w a v = row_with k w a (bit_number v.negative) (v.magnitude % 2 ^ 32) (v.magnitude / 2 ^ 32)

-- a part of the listing takes two words: where it stands, and how long it is
abbrev pub part_row : ℕ → Location → Place → ℕ → Words
part_row k w x c = row_with k w x.at x.len c 0

unfoldable pub statement_row : StatementLine → Words
statement_row (StatementLine.IfStatement w e) = row_with 73 w (bit_number e) 0 0 0
statement_row (StatementLine.LocktimeStatement w o v) = signed_row 76 w (locktime_number o) v
statement_row (StatementLine.VerifyStatement w) = row_with 86 w 0 0 0 0
statement_row (StatementLine.ExpressionStatement w) = row_with 69 w 0 0 0 0

unfoldable pub expression_row : ExpressionLine → Words
expression_row (ExpressionLine.Variable w x) = part_row 118 w x 0
expression_row (ExpressionLine.NumberLiteral w v) = signed_row 110 w 0 v
expression_row (ExpressionLine.BooleanLiteral w b) = row_with 98 w (bit_number b) 0 0 0
expression_row (ExpressionLine.StringLiteral w x m) = part_row 115 w x (bit_number m)
expression_row (ExpressionLine.LogicalExpression w o) = row_with 108 w (logical_number o) 0 0 0
expression_row (ExpressionLine.CompareExpression w o) = row_with 99 w (compare_number o) 0 0 0
expression_row (ExpressionLine.BinaryMathExpression w o) = row_with 109 w (math_number o) 0 0 0
expression_row (ExpressionLine.UnaryMathExpression w o) = row_with 117 w (unary_number o) 0 0 0
expression_row (ExpressionLine.UnaryCryptoExpression w o) = row_with 104 w (crypto_number o) 0 0 0
expression_row (ExpressionLine.ByteExpression w) = row_with 122 w 0 0 0 0
expression_row (ExpressionLine.CheckSigExpression w) = row_with 103 w 0 0 0 0

unfoldable pub factor_row : FactorLine → Words
factor_row (FactorLine.SingleSigFactor w) = row_with 83 w 0 0 0 0
factor_row (FactorLine.MultiSigFactor w m n) = row_with 77 w m n 0 0

-- the row of a line
unfoldable pub row_of : Line → Words
row_of (Line.Contract g n) = row_with 84 unplaced (target_number g) n 0 0
row_of (Line.Declaration n) = row_with 68 unplaced n 0 0 0
row_of (Line.StackParam w t x) = part_row 80 w x (type_number t)
row_of (Line.Block n) = row_with 66 unplaced n 0 0 0
row_of (Line.Statement l) = statement_row l
row_of (Line.Expression l) = expression_row l
row_of (Line.Factor l) = factor_row l

-- and back
abbrev pub place_in : Words → Location
place_in r = record { start = r.start; end = r.end; line = r.line; column = r.column }

abbrev pub signed_in : Words → Signed
signed_in r = record { negative = eqb r.b 1; magnitude = r.d * 2 ^ 32 + r.c }

abbrev pub part_in : Words → Place
part_in r = record { at = r.a; len = r.b }

-- the letters of the forms, and the line that a row of each holds; a row of no form holds an empty block's line
pub record Kept : Type 0 where
  pub letter : ℕ
  pub line : Words → Line

abbrev pub kept : List Kept
kept =
    record { letter = 84; line = λ r. Line.Contract (get_or targets r.a Taproot) r.b } ∷
    record { letter = 68; line = λ r. Line.Declaration r.a } ∷
    record { letter = 80; line = λ r. Line.StackParam (place_in r) (get_or types r.c Boolean) (part_in r) } ∷
    record { letter = 66; line = λ r. Line.Block r.a } ∷
    record { letter = 73; line = λ r. Line.Statement (StatementLine.IfStatement (place_in r) (eqb r.a 1)) } ∷
    record { letter = 76; line = λ r. Line.Statement (StatementLine.LocktimeStatement (place_in r) (get_or locktime_ops r.a CsvTime) (signed_in r)) } ∷
    record { letter = 86; line = λ r. Line.Statement (StatementLine.VerifyStatement (place_in r)) } ∷
    record { letter = 69; line = λ r. Line.Statement (StatementLine.ExpressionStatement (place_in r)) } ∷
    record { letter = 118; line = λ r. Line.Expression (ExpressionLine.Variable (place_in r) (part_in r)) } ∷
    record { letter = 110; line = λ r. Line.Expression (ExpressionLine.NumberLiteral (place_in r) (signed_in r)) } ∷
    record { letter = 98; line = λ r. Line.Expression (ExpressionLine.BooleanLiteral (place_in r) (eqb r.a 1)) } ∷
    record { letter = 115; line = λ r. Line.Expression (ExpressionLine.StringLiteral (place_in r) (part_in r) (eqb r.c 1)) } ∷
    record { letter = 108; line = λ r. Line.Expression (ExpressionLine.LogicalExpression (place_in r) (get_or logical_ops r.a BoolAnd)) } ∷
    record { letter = 99; line = λ r. Line.Expression (ExpressionLine.CompareExpression (place_in r) (get_or compare_ops r.a NumNotEqual)) } ∷
    record { letter = 109; line = λ r. Line.Expression (ExpressionLine.BinaryMathExpression (place_in r) (get_or math_ops r.a Min)) } ∷
    record { letter = 117; line = λ r. Line.Expression (ExpressionLine.UnaryMathExpression (place_in r) (get_or unary_ops r.a Not)) } ∷
    record { letter = 104; line = λ r. Line.Expression (ExpressionLine.UnaryCryptoExpression (place_in r) (get_or crypto_ops r.a Ripemd160)) } ∷
    record { letter = 122; line = λ r. Line.Expression (ExpressionLine.ByteExpression (place_in r)) } ∷
    record { letter = 103; line = λ r. Line.Expression (ExpressionLine.CheckSigExpression (place_in r)) } ∷
    record { letter = 83; line = λ r. Line.Factor (FactorLine.SingleSigFactor (place_in r)) } ∷
    record { letter = 77; line = λ r. Line.Factor (FactorLine.MultiSigFactor (place_in r) r.a r.b) } ∷
    []

unfoldable pub kept_as : List Kept → ℕ → Words → Line
kept_as [] n r = Line.Block 0
kept_as (k ∷ ks) n r = elim (eqb n k.letter) [ true ↦ k.line r | false ↦ kept_as ks n r ]

-- the line that a row holds
unfoldable pub line_of : Words → Line
line_of r = kept_as kept r.kind r

-- how many words a row has
abbrev pub row_words : ℕ
row_words = 9

-- the row numbered i (from 0) is there; n rows are
abbrev pub HasRow : List ℕ → ℕ → Type 0
HasRow t i = i * row_words + row_words ≤ length t

abbrev pub HasRows : List ℕ → ℕ → Type 0
HasRows t n = n * row_words ≤ length t

-- the words of a row, as they lie in work memory
unfoldable pub words_of : Words → List ℕ
words_of r = r.kind ∷ r.start ∷ r.end ∷ r.line ∷ r.column ∷ r.a ∷ r.b ∷ r.c ∷ r.d ∷ []

-- the row numbered i (from 0) of a table
abbrev pub row_in : List ℕ → ℕ → Words
row_in t i = record { kind = get_or t (i * row_words) 0; start = get_or t (i * row_words + 1) 0; end = get_or t (i * row_words + 2) 0; line = get_or t (i * row_words + 3) 0; column = get_or t (i * row_words + 4) 0; a = get_or t (i * row_words + 5) 0; b = get_or t (i * row_words + 6) 0; c = get_or t (i * row_words + 7) 0; d = get_or t (i * row_words + 8) 0 }

-- the line numbered i of a table
unfoldable pub line_in : List ℕ → ℕ → Line
line_in t i = line_of (row_in t i)

-- a table with the line l stored as its row i
unfoldable pub with_row : List ℕ → ℕ → Line → List ℕ
with_row t i l = sets t (i * row_words) (words_of (row_of l))

-- a table with the first n lines of a source stored
unfoldable pub with_rows : List ℕ → ℕ → (ℕ → Line) → List ℕ
with_rows t zero L = t
with_rows t (suc n) L = with_row (with_rows t n L) n (L n)

-- a part whose two words fit
abbrev pub PlaceFits : Place → Type 0
PlaceFits x = (x.at < 2 ^ 32) × (x.len < 2 ^ 32)

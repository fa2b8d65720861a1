-- A line that is read, as its row.
use Rattle.std.specs.Prelude.{Option, option_map}
use Rattle.ast.specs.Numbers.{types, locktime_ops}
use Rattle.ast.specs.declared.Location.{Location}
use Rattle.listing.specs.declared.Line.{Line}
use Rattle.listing.specs.declared.StatementLine.{StatementLine}
use Rattle.listing.specs.declared.ExpressionLine.{ExpressionLine}
use Rattle.listing.specs.declared.FactorLine.{FactorLine}
use Rattle.listing.specs.Forms.{closed}
use Rattle.text.specs.declared.Cursor.{Cursor}
use Rattle.text.specs.Text.{Reader, ◌>>=◌, ◌<∘>◌, yield, read, after, byte, newline, word, choice, bit, signed, name, literal}
use Rattle.rows.specs.declared.Words.{Words}
use Rattle.rows.specs.Rows.{row_of}

-- two fields, after a location or with none
unfoldable pub both : {A B L : Type 0} → Reader A → Reader B → (A → B → L) → Reader L
both r q f = do
  a ← r
  b ← q
  yield (f a b)

-- the row of a line with these fields and byte 10, and the cursor after it
unfoldable pub row_read : Reader Line → Cursor → Option (Words × Cursor)
row_read fields c = option_map (λ p. (row_of p.0, p.1)) (read (closed fields) c)

-- a row, and the cursor after byte 10
abbrev pub ended_row : Words → Cursor → Option (Words × Cursor)
ended_row r c = option_map (λ d. (r, d)) (after (byte newline) c)

-- the fields after a form's location
unfoldable pub item_fields : Location → Reader Line
item_fields w = both (choice types) name (Line.StackParam w)

unfoldable pub wait_fields : Location → Reader Line
wait_fields w = Line.Statement <∘> both (choice locktime_ops) signed (StatementLine.LocktimeStatement w)

unfoldable pub number_fields : Location → Reader Line
number_fields w = Line.Expression <∘> ExpressionLine.NumberLiteral w <∘> signed

unfoldable pub name_fields : Location → Reader Line
name_fields w = Line.Expression <∘> ExpressionLine.Variable w <∘> name

unfoldable pub literal_fields : Location → Reader Line
literal_fields w = Line.Expression <∘> both literal bit (ExpressionLine.StringLiteral w)

unfoldable pub multi_fields : Location → Reader Line
multi_fields w = Line.Factor <∘> both word word (FactorLine.MultiSigFactor w)

-- What an expression's line says by itself.
use Rattle.std.specs.Prelude.{ℕ, ◌+◌, ◌≤◌, List, ◌≡◌, length, Ok}
use Rattle.std.proofs.Math.Option.{some}
use Rattle.rules.specs.Result.{Checked}
use Rattle.text.specs.declared.Place.{Place}
use Rattle.text.specs.Text.{bytes_of}
use Rattle.listing.specs.declared.ExpressionLine.{ExpressionLine}
use Rattle.listing.specs.declared.Line.{Line}
use Rattle.listing.specs.Kinds.{part_of}
use Rattle.rules.specs.Keys.{pushed}
use Rattle.rules.specs.Limits.{or21, four_bytes, element}

-- check_overflow: the bound of a number, or of a literal of the listing s
abbrev pub overflow : List ℕ → ExpressionLine → Checked
overflow s (ExpressionLine.Variable w x) = Ok tt
overflow s (ExpressionLine.NumberLiteral w v) = or21 w (four_bytes v)
overflow s (ExpressionLine.BooleanLiteral w b) = Ok tt
overflow s (ExpressionLine.StringLiteral w x m) = or21 w (element (pushed (bytes_of s x)))
overflow s (ExpressionLine.LogicalExpression w o) = Ok tt
overflow s (ExpressionLine.CompareExpression w o) = Ok tt
overflow s (ExpressionLine.BinaryMathExpression w o) = Ok tt
overflow s (ExpressionLine.UnaryMathExpression w o) = Ok tt
overflow s (ExpressionLine.UnaryCryptoExpression w o) = Ok tt
overflow s (ExpressionLine.ByteExpression w) = Ok tt
overflow s (ExpressionLine.CheckSigExpression w) = Ok tt

-- the part that a line names lies in the listing
abbrev pub PartWithin : List ℕ → ExpressionLine → Type 0
PartWithin s l = (x : Place) → part_of (Line.Expression l) ≡ some x → x.at + x.len ≤ length s

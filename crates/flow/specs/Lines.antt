-- What a statement's line says by itself.
use Rattle.std.specs.Prelude.{Bool, true, false}
use Rattle.ast.specs.declared.Location.{Location}
use Rattle.listing.specs.declared.StatementLine.{StatementLine}

-- whether statements may follow
abbrev pub line_goes_on : StatementLine → Bool
line_goes_on (StatementLine.IfStatement w e) = false
line_goes_on (StatementLine.LocktimeStatement w o v) = true
line_goes_on (StatementLine.VerifyStatement w) = true
line_goes_on (StatementLine.ExpressionStatement w) = false

-- where it stands
abbrev pub line_place : StatementLine → Location
line_place (StatementLine.IfStatement w e) = w
line_place (StatementLine.LocktimeStatement w o v) = w
line_place (StatementLine.VerifyStatement w) = w
line_place (StatementLine.ExpressionStatement w) = w

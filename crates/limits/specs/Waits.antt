-- A wait in a row.
use Rattle.std.specs.Prelude.{ℕ, Option, None}
use Rattle.std.specs.Result.{result_ok}
use Rattle.listing.specs.declared.StatementLine.{StatementLine}
use Rattle.listing.specs.declared.Line.{Line}
use Rattle.rules.specs.Limits.{wait}

-- the number of the wait that a line is, if it is within its bounds; nothing of another line
abbrev pub found_in : Line → Option ℕ
found_in (Line.Contract g n) = None
found_in (Line.Declaration n) = None
found_in (Line.StackParam w t x) = None
found_in (Line.Block n) = None
found_in (Line.Statement (StatementLine.IfStatement w e)) = None
found_in (Line.Statement (StatementLine.LocktimeStatement w o v)) = result_ok (wait w o v)
found_in (Line.Statement (StatementLine.VerifyStatement w)) = None
found_in (Line.Statement (StatementLine.ExpressionStatement w)) = None
found_in (Line.Expression l) = None
found_in (Line.Factor l) = None

-- How many parts the line of an expression or a factor has.
use Prim.Native.Nat.{◌≤◌}
use native.Mathlib.Omega.{arith}
use mathlib.Core.Path.{◌≡◌, refl}
use Rattle.listing.specs.declared.Line.{Line}
use Rattle.reader.specs.Parts.{factor_kind, kind_of, count_of}
use Rattle.nodes.specs.Nodes.{operands_of}

-- of an expression or a factor these are its parts
pub operands_all : (l : Line) → kind_of l ≤ factor_kind → operands_of l ≡ count_of l
operands_all (Line.Contract g n) h = absurd (omega arith)
operands_all (Line.Declaration n) h = absurd (omega arith)
operands_all (Line.StackParam w t x) h = absurd (omega arith)
operands_all (Line.Block n) h = absurd (omega arith)
operands_all (Line.Statement l) h = absurd (omega arith)
operands_all (Line.Expression l) h = refl
operands_all (Line.Factor l) h = refl

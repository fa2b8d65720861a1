use Rattle.std.proofs.Common.{◌++◌, drop}
use Rattle.output.specs.Decimal.{decimal}
use Rattle.output.proofs.Laws.{Left}
use Rattle.reporting.specs.Fields.{number_fields}
use Rattle.reporting.proofs.put_fields.Given as goal

abbrev pub invariant-loop-x : goal.invariant-loop-x
invariant-loop-x g l = Left g.S.Sink.after g.S.Sink.fits l.fn.sink (l.opening ++ (decimal l.first ++ number_fields l.rest)) l.sink (number_fields (drop l.x-index l.rest))

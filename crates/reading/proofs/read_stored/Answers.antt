use Rattle.std.proofs.Common.{sym, ◌∙◌}
use Rattle.reader.specs.Source.{source}
use Rattle.reader.specs.Reading.{contract}
use Rattle.reading.proofs.Answer.{kept_read, kept-refused}
use Rattle.reading.proofs.read_stored.Goals as goal

pub returns-then-is_err : goal.returns-then-is_err
returns-then-is_err c = λ s h. kept-refused (contract s (source s 0 0)) _ c.args.work.now _ (c.read_contract-read.ensures s h) (sym c.is_err.ensures.value ∙ c.if-is_err.true) c.clear.ensures

pub returns-else-is_err : goal.returns-else-is_err
returns-else-is_err c = λ s h. kept_read (contract s (source s 0 0)) _ c.args.work.now (c.read_contract-read.ensures s h) (sym c.is_err.ensures.value ∙ c.if-is_err.false)

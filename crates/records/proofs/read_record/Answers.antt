use Rattle.std.proofs.Common.{rules, take, length}
use Rattle.records.proofs.Cut.{few-bytes, no-end}
use Rattle.records.proofs.read_record.Goals as goal

pub returns-in_err-read_bytes-clause-cut_short : goal.returns-in_err-read_bytes-clause-cut_short
returns-in_err-read_bytes-clause-cut_short g c = λ cut.
    let at = g.R.Read.remaining in
    few-bytes (at c.args.reader.now) (at c.read_head.new.reader) c.in-Some.size (length c.args.buffer.now) (search rules) (search rules)

pub returns-in_err-read_end-clause-cut_short : goal.returns-in_err-read_end-clause-cut_short
returns-in_err-read_end-clause-cut_short g c = λ cut.
    let at = g.R.Read.remaining in
    no-end (at c.args.reader.now) (at c.read_head.new.reader) (at c.read_bytes.new.reader) (take c.in-Some.size c.read_bytes.new.buffer) c.in-Some.size (length c.args.buffer.now) (search rules) (search rules) (search rules) (search rules)

use Rattle.std.proofs.Common.{rules}
use Rattle.records.proofs.Cut.{few-bytes, no-end}
use Rattle.records.proofs.read_vec_record.Goals as goal

pub returns-in_err-bytes-in-Some-clause-cut_short : goal.returns-in_err-bytes-in-Some-clause-cut_short
returns-in_err-bytes-in-Some-clause-cut_short g c = λ cut.
    let at = g.R.Read.remaining in
    few-bytes (at c.args.reader.now) (at c.read_head.new.reader) c.in-Some.size c.args.longest (search rules) (search rules)

pub returns-clause-cut_short : goal.returns-clause-cut_short
returns-clause-cut_short g c = λ cut.
    let at = g.R.Read.remaining in
    no-end (at c.args.reader.now) (at c.read_head.new.reader) (at c.read_vec.new.reader) c.in_ok-bytes-in-Some.bytes.items c.in-Some.size c.args.longest (search rules) (search rules) (search rules) (search rules)

use Rattle.std.proofs.lemmas.List.Sums.{count_by-le-length}
use Rattle.std.proofs.Common.{rules}
use Rattle.records.proofs.count_wrong.Goals as goal

pub returns : goal.returns
returns c = search (rules, count_by-le-length)

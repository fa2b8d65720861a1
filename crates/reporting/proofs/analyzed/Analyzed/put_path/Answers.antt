use Rattle.std.proofs.Common.{arith}
use Rattle.output.proofs.Laws.{fits-first, fits-next, after-both}
use Rattle.reporting.proofs.Chains.{path-run, table-length}
use Rattle.reporting.proofs.Lengths.{path-short}
use Rattle.reporting.proofs.analyzed.Analyzed.put_path.Goals as goal

pub put_line-requires : goal.put_line-requires
put_line-requires g c = fits-first g.S.Sink.laws _ _ (path-run c.args.p c.requires.formed) c.requires.room

pub put_items-requires-clause-room : goal.put_items-requires-clause-room
put_items-requires-clause-room g c = fits-next g.S.Sink.laws _ _ (path-run c.args.p c.requires.formed) c.put_line.ensures c.requires.room

pub returns-clause-text : goal.returns-clause-text
returns-clause-text g c = after-both g.S.Sink.laws _ _ (path-run c.args.p c.requires.formed) c.put_line.ensures c.put_items.ensures.text

pub returns-clause-short : goal.returns-clause-short
returns-clause-short g c = path-short c.args.p _ (omega arith) (omega (arith, table-length c.requires.formed)) c.put_items.ensures.short

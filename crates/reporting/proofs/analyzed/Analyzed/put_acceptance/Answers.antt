use Rattle.std.proofs.Common.{refl}
use Rattle.output.proofs.Laws.{fits-first, fits-next, after-both}
use Rattle.reporting.proofs.Chains.{acceptance-run}
use Rattle.reporting.proofs.Lengths.{acceptance-short}
use Rattle.reporting.proofs.analyzed.Analyzed.put_acceptance.Goals as goal

pub put_line-requires : goal.put_line-requires
put_line-requires g c = fits-first g.S.Sink.laws _ _ (acceptance-run c.args.self.now) c.requires.room

pub put_paths-requires : goal.put_paths-requires
put_paths-requires g c = record { room = fits-first g.S.Sink.laws _ _ refl (fits-next g.S.Sink.laws _ _ (acceptance-run c.args.self.now) c.put_line.ensures c.requires.room) }

pub put_waits-requires-clause-room : goal.put_waits-requires-clause-room
put_waits-requires-clause-room g c = fits-next g.S.Sink.laws _ _ refl c.put_paths.ensures.text (fits-next g.S.Sink.laws _ _ (acceptance-run c.args.self.now) c.put_line.ensures c.requires.room)

pub returns-clause-text : goal.returns-clause-text
returns-clause-text g c =
    after-both g.S.Sink.laws _ _ (acceptance-run c.args.self.now) c.put_line.ensures (after-both g.S.Sink.laws _ _ refl c.put_paths.ensures.text c.put_waits.ensures)

pub returns-clause-short : goal.returns-clause-short
returns-clause-short g c = acceptance-short c.args.self.now c.put_paths.ensures.short

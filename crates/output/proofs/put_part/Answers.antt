use Rattle.std.proofs.Common.{refl, [], ◌∷◌}
use Rattle.output.proofs.Laws.{fits-first, fits-next, after-both}
use Rattle.output.proofs.put_part.Goals as goal

pub put-requires : goal.put-requires
put-requires g c = fits-first g.S.Sink.laws (44 ∷ []) c.args.s.now refl c.requires

pub put_all-requires : goal.put_all-requires
put_all-requires g c = fits-next g.S.Sink.laws (44 ∷ []) c.args.s.now refl c.put.ensures c.requires

pub returns-clause-text : goal.returns-clause-text
returns-clause-text g c = after-both g.S.Sink.laws (44 ∷ []) c.args.s.now refl c.put.ensures c.put_all.ensures

use Rattle.std.proofs.Common.{[], ◌∷◌}
use Rattle.output.proofs.Laws.{fits-first, fits-next, after-both}
use Rattle.reporting.proofs.Chains.{line-run}
use Rattle.reporting.proofs.put_line.Goals as goal

pub put_fields-requires : goal.put_fields-requires
put_fields-requires g c = let a = c.args in fits-first g.S.Sink.laws _ (10 ∷ []) (line-run a.opening.now a.first a.rest.now) c.requires

pub put-requires : goal.put-requires
put-requires g c = let a = c.args in fits-next g.S.Sink.laws _ (10 ∷ []) (line-run a.opening.now a.first a.rest.now) c.put_fields.ensures c.requires

pub returns : goal.returns
returns g c = let a = c.args in after-both g.S.Sink.laws _ (10 ∷ []) (line-run a.opening.now a.first a.rest.now) c.put_fields.ensures c.put.ensures

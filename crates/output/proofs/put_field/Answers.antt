use Rattle.std.proofs.Common.{refl, arith, [], ◌∷◌}
use Rattle.output.specs.Decimal.{decimal}
use Rattle.output.proofs.Laws.{decimal-short, fits-first, fits-next, after-both}
use Rattle.output.proofs.put_field.Goals as goal

pub put-requires : goal.put-requires
put-requires g c = fits-first g.S.Sink.laws (44 ∷ []) (decimal c.args.x) refl c.requires

pub put_decimal-requires : goal.put_decimal-requires
put_decimal-requires g c = fits-next g.S.Sink.laws (44 ∷ []) (decimal c.args.x) refl c.put.ensures c.requires

pub returns-clause-text : goal.returns-clause-text
returns-clause-text g c = after-both g.S.Sink.laws (44 ∷ []) (decimal c.args.x) refl c.put.ensures c.put_decimal.ensures

pub returns-clause-short : goal.returns-clause-short
returns-clause-short g c = omega (arith, decimal-short c.args.x c.ranges.x.fits)

use Rattle.std.proofs.Common.{refl, arith, [], ◌∷◌}
use Rattle.output.proofs.Laws.{fits-first, fits-next, after-both}
use Rattle.reporting.proofs.Chains.{named-inside, item-run}
use Rattle.reporting.proofs.Lengths.{entry-short}
use Rattle.reporting.proofs.analyzed.Analyzed.put_item.Goals as goal

pub put_fields-requires : goal.put_fields-requires
put_fields-requires g c = fits-first g.S.Sink.laws _ _ (item-run c.requires.row c.item_at-item.ensures c.args.k _ _ _ _ c.from.ensures c.taker-took.ensures refl) c.requires.room

pub of-requires : goal.of-requires
of-requires g c = named-inside c.requires.row c.item_at-item.ensures

pub put_part-requires : goal.put_part-requires
put_part-requires g c = fits-first g.S.Sink.laws _ (10 ∷ []) refl (fits-next g.S.Sink.laws _ _ (item-run c.requires.row c.item_at-item.ensures c.args.k _ _ _ _ c.from.ensures c.taker-took.ensures c.of.ensures) c.put_fields.ensures c.requires.room)

pub put-requires : goal.put-requires
put-requires g c = fits-next g.S.Sink.laws _ (10 ∷ []) refl c.put_part.ensures.text (fits-next g.S.Sink.laws _ _ (item-run c.requires.row c.item_at-item.ensures c.args.k _ _ _ _ c.from.ensures c.taker-took.ensures c.of.ensures) c.put_fields.ensures c.requires.room)

pub returns-clause-text : goal.returns-clause-text
returns-clause-text g c = after-both g.S.Sink.laws _ _ (item-run c.requires.row c.item_at-item.ensures c.args.k _ _ _ _ c.from.ensures c.taker-took.ensures c.of.ensures) c.put_fields.ensures (after-both g.S.Sink.laws _ _ refl c.put_part.ensures.text c.put.ensures)

pub returns-clause-short : goal.returns-clause-short
returns-clause-short g c = entry-short c.args.self.now.rows.listing.now c.args.self.now.rows.table.now c.args.k c.args.place c.args.taken (omega arith) (omega arith) c.args.self.now.short

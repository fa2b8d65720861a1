use Rattle.std.proofs.Common.{refl, ◌∷◌, ◌++◌, get_or, drop, ◌+◌}
use Rattle.output.specs.Decimal.{decimal}
use Rattle.output.proofs.Laws.{fits-first, left-all, left-fits, left-next, left-done}
use Rattle.reporting.specs.Fields.{number_fields}
use Rattle.reporting.proofs.Loops.{fields-next, fields-none}
use Rattle.reporting.proofs.put_fields.Goals as goal

pub put_all-requires : goal.put_all-requires
put_all-requires g c = fits-first g.S.Sink.laws _ (decimal c.args.first ++ number_fields c.args.rest.now) refl c.requires

pub put_decimal-requires : goal.put_decimal-requires
put_decimal-requires g c =
    let l = left-next g.S.Sink.laws (left-all g.S.Sink.laws refl c.requires) _ (decimal c.args.first ++ number_fields c.args.rest.now) refl c.put_all.ensures in
    left-fits g.S.Sink.laws l (decimal c.args.first) (number_fields c.args.rest.now) refl

pub loop-x-init : goal.loop-x-init
loop-x-init g c =
    let l = left-next g.S.Sink.laws (left-all g.S.Sink.laws refl c.requires) _ (decimal c.args.first ++ number_fields c.args.rest.now) refl c.put_all.ensures in
    left-next g.S.Sink.laws l (decimal c.args.first) (number_fields c.args.rest.now) refl c.put_decimal.ensures

pub put_field-requires : goal.put_field-requires
put_field-requires g c =
    let xs = c.args.rest.now in
    let k = c.loop-x.x-index in
    left-fits g.S.Sink.laws c.loop-x.invariant (44 ∷ decimal (get_or xs k 0)) (number_fields (drop (k + 1) xs)) (fields-next xs k c.loop-x-test.true)

pub loop-x-preserved : goal.loop-x-preserved
loop-x-preserved g c =
    let xs = c.args.rest.now in
    let k = c.loop-x.x-index in
    left-next g.S.Sink.laws c.loop-x.invariant (44 ∷ decimal (get_or xs k 0)) (number_fields (drop (k + 1) xs)) (fields-next xs k c.loop-x-test.true) c.put_field.ensures.text

pub returns : goal.returns
returns g c = left-done g.S.Sink.laws c.loop-x.invariant (fields-none c.args.rest.now c.loop-x.x-index c.loop-x-test.false)

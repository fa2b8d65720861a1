use Rattle.std.proofs.Common.{◌<◌, ◌^◌, length, arith, ap, sym, ◌∙◌}
use Rattle.text.specs.Text.{index}
use Rattle.text.proofs.Places.{index-keeps}
use Rattle.forms.proofs.Rowed.{read-got, name_fits}
use Rattle.forms.proofs.item_row.Goals as goal

pub part_row-requires : goal.part_row-requires
part_row-requires c =
    let d = c.in_ok-ty.c in
    let same = ap (λ x. length x.listing.now) (read-got (index 4) (index-keeps 4) c.args.c {d = d} (sym c.read_index.ensures ∙ c.in_ok-ty.was)).1 in
    let small : length d.listing.now < 2 ^ 32 = omega (arith, same) in
    name_fits d small (sym c.read_name.ensures ∙ c.in_ok-name.was)

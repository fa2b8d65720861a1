use Rattle.std.proofs.Common.{sym, ◌∙◌}
use Rattle.lines.proofs.Located.{small_after, unlocated}
use Rattle.lines.proofs.located_row.Goals as goal

pub returns-in_err-w : goal.returns-in_err-w
returns-in_err-w c =
    let other = c.requires.located in
    c.from_residual.ensures ∙ sym (unlocated c.args.c c.args.letter (sym c.read_location.ensures ∙ c.in_err-w.was) other.0 other.1 other.2)

pub fields_row-requires : goal.fields_row-requires
fields_row-requires c = record {
  small = small_after c.args.c c.in_ok-w.w c.in_ok-w.c (sym c.read_location.ensures ∙ c.in_ok-w.was) c.requires.small;
  located = c.requires.located;
}

pub returns : goal.returns
returns c = c.fields_row.ensures c.args.c (sym c.read_location.ensures ∙ c.in_ok-w.was)

use Rattle.std.proofs.Common.{refl, sym, ◌∙◌}
use Rattle.listing.specs.declared.Line.{Line}
use Rattle.listing.specs.Forms.{fields_of}
use Rattle.rows.specs.Rows.{row_of}
use Rattle.lines.proofs.Located.{no_line, line_row}
use Rattle.lines.proofs.read_line.Goals as goal

pub returns-in_err-letter : goal.returns-in_err-letter
returns-in_err-letter c = c.from_residual.ensures ∙ no_line c.args.c c.in_err-letter.ensures.lookup.3

pub returns-in-84 : goal.returns-in-84
unfolding fields_of
returns-in-84 c = let h = c.in_ok-letter.ensures.lookup.3 in line_row c.args.c 84 h.0 (sym c.in-84.is ∙ h.1 0) c.contract_row.ensures

pub returns-in-68 : goal.returns-in-68
unfolding fields_of row_of
returns-in-68 c = let h = c.in_ok-letter.ensures.lookup.3 in line_row c.args.c 68 h.0 (sym c.in-68.is ∙ h.1 0) (c.counted_row.ensures Line.Declaration (λ v. refl))

pub returns-in-66 : goal.returns-in-66
unfolding fields_of row_of
returns-in-66 c = let h = c.in_ok-letter.ensures.lookup.3 in line_row c.args.c 66 h.0 (sym c.in-66.is ∙ h.1 0) (c.counted_row-in-66.ensures Line.Block (λ v. refl))

pub returns-in_default : goal.returns-in_default
returns-in_default c = let h = c.in_ok-letter.ensures.lookup.3 in line_row c.args.c _ h.0 (h.1 0) c.located_row.ensures

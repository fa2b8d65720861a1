use Rattle.std.proofs.Common.{◌*◌, ◌<◌, length, arith, refl, sym, ap, ◌∙◌}
use Rattle.listing.specs.Forms.{line_at}
use Rattle.std.proofs.lemmas.List.Edits.{sets}
use Rattle.rows.specs.Rows.{row_words, words_of, with_row}
use Rattle.reading.proofs.Stored.{storing-none, storing-more, stored-malformed, stored-end, line-read, line-none}
use Rattle.reading.proofs.store.store_lines.Goals as goal

pub loop-count-init : goal.loop-count-init
loop-count-init c = record { listing = refl; long = refl; storing = storing-none _ _ }

pub returns-then-c-listing : goal.returns-then-c-listing
returns-then-c-listing c =
    let l = c.loop-count in
    stored-end c.args.listing.now c.args.work.now l.work l.count l.c.at l.invariant.storing c.if-c-listing.true (omega arith)

pub returns-in_default : goal.returns-in_default
returns-in_default c =
    let l = c.loop-count in
    let here : l.c.at < length l.c.listing.now = omega (arith, ap length l.invariant.listing) in
    let none = line-none l.c here (sym c.read_line.ensures ∙ c.in_default.is) in
    stored-malformed c.args.listing.now c.args.work.now l.work l.count l.c.at l.invariant.storing (ap (λ s. line_at s l.c.at) (sym l.invariant.listing) ∙ none) (omega arith)

pub loop-count-preserved : goal.loop-count-preserved
unfolding with_row
loop-count-preserved c =
    let l = c.loop-count in
    let here : l.c.at < length l.c.listing.now = omega (arith, ap length l.invariant.listing) in
    let r = line-read l.c here (sym c.read_line.ensures ∙ c.in-Some.is) in
    record {
      listing = ap (λ d. d.listing.now) r.cursor ∙ l.invariant.listing;
      long = c.store_row.auto.table ∙ l.invariant.long;
      storing = storing-more c.args.listing.now c.args.work.now l.work l.count l.c.at l.invariant.storing (ap (λ s. line_at s l.c.at) (sym l.invariant.listing) ∙ r.stands) (c.store_row.ensures ∙ ap (λ x. sets l.work (l.count * row_words) (words_of x)) r.row_is);
    }

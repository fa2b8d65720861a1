use Rattle.std.proofs.Common.{◌≡◌, arith, sym, ◌∙◌}
use Rattle.text.specs.Text.{read, comma, up_to, word}
use Rattle.text.proofs.Cursors.{byte-some, byte-none, digit-some, up_to-past, up_to-none, up_to-nought, up_to-more}
use Rattle.words.proofs.read_word.Goals.{In_ok-start}
use Rattle.words.proofs.read_word.Goals as goal

pub returns-in_err-start : goal.returns-in_err-start
unfolding word
returns-in_err-start c = c.from_residual.ensures ∙ sym (byte-none comma (up_to 4294967295) c.args.c (sym c.skip.ensures ∙ c.in_err-start.was))

-- after the comma: the number
after_comma : (c : In_ok-start) → read (up_to 4294967295) c.in_ok-start.start ≡ read word c.args.c
unfolding word
after_comma c = sym (byte-some comma (up_to 4294967295) c.args.c (sym c.skip.ensures ∙ c.in_ok-start.was))

pub returns-in_err-get : goal.returns-in_err-get
returns-in_err-get c = c.from_residual-in_err-get.ensures ∙ up_to-past 4294967295 c.in_ok-start.start c.in_err-get.ensures.lookup.3 ∙ after_comma (goal.at.returns-in_err-get c).In_ok-start

pub returns-in_err-first : goal.returns-in_err-first
returns-in_err-first c =
    let h = c.in_ok-get.ensures.lookup.3 in
    c.from_residual-in_err-first.ensures ∙ up_to-none 4294967295 c.in_ok-start.start h.0 (h.1 0) (sym c.digit.ensures ∙ c.in_err-first.was) ∙ after_comma (goal.at.returns-in_err-first c).In_ok-start

pub returns-then-first-eq0 : goal.returns-then-first-eq0
returns-then-first-eq0 c =
    let h = c.in_ok-get.ensures.lookup.3 in
    up_to-nought 4294967295 c.in_ok-start.start h.0 (h.1 0) (sym c.digit.ensures ∙ c.in_ok-first.was) c.if-first-eq0.true ∙ after_comma (goal.at.returns-then-first-eq0 c).In_ok-start

pub word_digits-requires : goal.word_digits-requires
word_digits-requires c =
    let h = c.in_ok-get.ensures.lookup.3 in
    (omega (arith, h.0), omega (arith, digit-some _ (sym c.digit.ensures ∙ c.in_ok-first.was)))

pub returns : goal.returns
returns c =
    let h = c.in_ok-get.ensures.lookup.3 in
    c.word_digits.ensures ∙ up_to-more 4294967295 c.in_ok-start.start h.0 (h.1 0) (sym c.digit.ensures ∙ c.in_ok-first.was) c.if-first-eq0.false ∙ after_comma (goal.at.returns c).In_ok-start

use Rattle.std.proofs.Common.{arith, sym, ◌∙◌}
use Rattle.words.proofs.Words.{from-none, from-some, from-failed, from_all, location-past, word-inside}
use Rattle.words.proofs.read_location.Goals as goal

pub returns-then-c : goal.returns-then-c
returns-then-c c = location-past c.args.c c.if-c.true

pub loop-word-init : goal.loop-word-init
loop-word-init c = (c.if-c.false, from-none c.args.c)

pub returns-in_err-word : goal.returns-in_err-word
returns-in_err-word c =
    let l = c.loop-word in
    c.from_residual.ensures ∙ from-failed l.word-index l.word-items l.next (omega arith) (sym c.short_word.ensures ∙ c.in_err-word.was) ∙ l.invariant.1

pub loop-word-preserved : goal.loop-word-preserved
loop-word-preserved c =
    let l = c.loop-word in
    let read = sym c.short_word.ensures ∙ c.in_ok-word.was in
    (word-inside l.next read l.invariant.0, from-some l.word-index l.word-items l.next (omega arith) read ∙ l.invariant.1)

pub returns : goal.returns
returns c = let l = c.loop-word in from_all l.word-index l.word-items l.next (omega arith) ∙ l.invariant.1

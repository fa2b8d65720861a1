use Rattle.std.proofs.Common.{◌≡◌, ℕ, ◌+◌, ◌<◌, List, [], ◌∷◌, ap, arith, length, length-take-le, take, slice_index_or, slice_set, sym, ◌∙◌}
use Rattle.std.proofs.lemmas.List.{take_more}
use Rattle.std.proofs.lemmas.List.Edits.{sets}
use Rattle.output.specs.Sinks.{sets-sets}
use Rattle.output.proofs.WriterSink.put_all.Goals as goal

-- a text with the byte after it
byte-more : (out text : List ℕ) (at k : ℕ) → k < length text → slice_set (sets out at (take k text)) (at + k) (slice_index_or text k 0) ≡ sets out at (take (k + 1) text)
byte-more out text at k h =
    let b = slice_index_or text k 0 in
    ap (λ n. slice_set (sets out at (take k text)) (at + n) b) (sym (length-take-le k text (omega (arith, h))))
    ∙ sets-sets out at (take k text) (b ∷ []) ∙ ap (sets out at) (sym (take_more text k 0 h))

pub loop-k-preserved : goal.loop-k-preserved
loop-k-preserved c =
    let begun = c.args.self.now in
    let k = c.loop-k.k in
    ap (λ w. record { output = record w.output { now = slice_set w.output.now (w.at + k) (slice_index_or c.args.s.now k 0) }; at = w.at }) c.loop-k.invariant
    ∙ ap (λ l. record { output = record begun.output { now = l }; at = begun.at }) (byte-more begun.output.now c.args.s.now begun.at k c.loop-k-test.true)

-- What was stored so far is the beginning of the text.
use Rattle.std.proofs.Common.{◌≡◌, take}
use Rattle.std.proofs.lemmas.List.Edits.{sets}
use Rattle.output.proofs.WriterSink.put_all.Given as goal

abbrev pub invariant-loop-k : goal.invariant-loop-k
invariant-loop-k l =
    let begun = l.initial.self in
    l.self ≡ record { output = record begun.output { now = sets begun.output.now begun.at (take l.k l.s) }; at = begun.at }

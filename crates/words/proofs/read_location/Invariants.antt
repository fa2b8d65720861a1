use Rattle.std.proofs.Common.{◌≡◌, ◌≤◌, length}
use Rattle.text.specs.Text.{read, location}
use Rattle.words.proofs.Words.{From}
use Rattle.words.proofs.read_location.Given as goal

abbrev pub invariant-loop-word : goal.invariant-loop-word
invariant-loop-word l = (l.next.at ≤ length l.next.listing.now) × (From l.word-index l.word-items l.next ≡ read location l.c)

use Rattle.std.proofs.Common.{◌≡◌, ◌≤◌}
use Rattle.text.proofs.Cursors.{number_from}
use Rattle.words.proofs.word_digits.Given as goal

-- the digits so far make v
abbrev pub invariant-loop-at : goal.invariant-loop-at
invariant-loop-at l = record { small : l.v ≤ 4294967295; same : number_from 4294967295 l.v (record l.c { at = l.at }) ≡ number_from 4294967295 l.first l.c }

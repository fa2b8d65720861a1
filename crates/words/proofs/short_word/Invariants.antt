use Rattle.std.proofs.Common.{◌≡◌, ◌<◌, ◌+◌, ◌-◌, ◌^◌}
use Rattle.text.specs.Text.{read, word}
use Rattle.text.proofs.Cursors.{number_from}
use Rattle.words.proofs.short_word.Given as goal

-- the digits so far make v
abbrev pub invariant-loop-k : goal.invariant-loop-k
invariant-loop-k l = record { small : l.v < 10 ^ (l.k - 1); same : number_from 4294967295 l.v (record l.c { at = l.c.at + l.k }) ≡ read word l.c }

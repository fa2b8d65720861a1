use Rattle.std.proofs.Common.{◌≡◌, ◌+◌, ◌≤◌}
use Rattle.text.proofs.Cursors.{number_from}
use Rattle.decimals.proofs.more_digits.Given as goal

-- the digits so far make v
abbrev pub invariant-loop-k : goal.invariant-loop-k
invariant-loop-k l = record { small : l.v ≤ l.limit; same : number_from l.limit l.v (record l.c { at = l.c.at + l.k }) ≡ number_from l.limit l.first l.c }

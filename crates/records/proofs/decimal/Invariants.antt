use Rattle.std.proofs.Common.{◌≡◌, ◌+◌, ◌*◌, ◌^◌, ◌≤◌, drop}
use Rattle.records.specs.Bytes.{number_in}
use Rattle.records.proofs.decimal.Given as goal

-- the digits that are left go on from the number, and each digit makes it at most ten times as long
abbrev pub invariant-loop-digit : goal.invariant-loop-digit
invariant-loop-digit l = (number_in l.number (drop l.digit-index l.digits) ≡ number_in 0 l.digits) × (l.number + 2 ≤ 2 * 10 ^ l.digit-index)

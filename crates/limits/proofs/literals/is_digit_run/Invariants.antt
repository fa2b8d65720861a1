use Rattle.std.proofs.Common.{◌≡◌, ◌&&◌, ◌%◌, length}
use Rattle.limits.proofs.Digits.{Spells}
use Rattle.limits.proofs.literals.is_digit_run.Given as goal

abbrev pub invariant-loop-p : goal.invariant-loop-p
invariant-loop-p l =
    let rest = l.p-iterator.rest.now in
    record { two : l.p-iterator.size ≡ 2; even : length rest % 2 ≡ 0; same : (l.ok && Spells rest) ≡ Spells l.run }

use Rattle.std.proofs.Common.{ℕ, ◌-◌}
use Rattle.rules.specs.Result.{Result}
use Rattle.rules.specs.Types.{inners}
use Rattle.operands.specs.Typed.{FactorsUnder, ChecksFactors}
use Rattle.operands.proofs.signatures.check_inners.Given as goal

-- what is answered from the row at hand is the answer of all
abbrev pub invariant-loop : goal.invariant-loop
invariant-loop l =
    FactorsUnder (l.count - l.counter) l.rows.listing.now l.rows.table.now l.context l.next
    × ((r : Result ℕ) → ChecksFactors (l.count - l.counter) (λ fs g ps. inners g ps fs) l.rows.listing.now l.rows.table.now l.context l.next r → ChecksFactors l.count (λ fs g ps. inners g ps fs) l.rows.listing.now l.rows.table.now l.context l.i r)

use Rattle.std.proofs.Common.{ap}
use Rattle.listing.specs.declared.Line.{Line}
use Rattle.listing.specs.Kinds.{part_of}
use Rattle.limits.proofs.check_overflow.Goals as goal

pub of-requires : goal.of-requires
unfolding part_of
of-requires c = c.requires _ (ap (λ l. part_of (Line.Expression l)) c.in-StringLiteral.is)

use native.Mathlib.Omega.{arith}
use mathlib.Core.Path.{sym, ap, ◌∙◌}
use Rattle.std.specs.Prelude.{Ok, Err}
use Rattle.std.proofs.Common.{rules}
use Rattle.taken.proofs.Bits.{first-within}
use Rattle.transfer.proofs.Transfer.{transfer-refused, transfer-handed, handed-sound, handed-items}
use Rattle.paths.proofs.Walks.{walk-fault, walk-pass}
use Rattle.transfer.proofs.transfer_prefix_consumption.Goals as goal

pub returns-then-not-shares_prefix : goal.returns-then-not-shares_prefix
returns-then-not-shares_prefix c =
    walk-fault (ap Err c.new-then-not-shares_prefix.ensures) (transfer-refused c.requires.0 c.requires.1 _ (sym c.shares_prefix.ensures ∙ search rules))

pub hand_over-requires : goal.hand_over-requires
hand_over-requires c =
    omega (arith, first-within c.args.from.taken _ c.requires.0.within, c.requires.0.few, c.first_free-run.ensures)

pub returns : goal.returns
returns c =
    let run = c.first_free-run.ensures in
    let fits = sym c.shares_prefix.ensures ∙ search rules in
    walk-pass (ap Ok c.hand_over.ensures) (transfer-handed c.requires.0 c.requires.1 fits run _) (handed-sound c.requires.0 c.requires.1 fits run) (handed-items c.requires.0 c.requires.1 fits run)

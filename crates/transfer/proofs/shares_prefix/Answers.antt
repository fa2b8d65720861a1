use Prim.Native.Nat.{◌<◌}
use native.Mathlib.Omega.{arith}
use mathlib.Core.Path.{◌≡◌, sym, ◌∙◌}
use Rattle.std.proofs.Common.{rules}
use Rattle.taken.specs.Taken.{first_free}
use Rattle.paths.specs.Path.{table_of}
use Rattle.paths.proofs.Tables.{row_named}
use Rattle.transfer.proofs.Transfer.{run-below, agree_at, agree-past, agree-here, shared-not, shared-more, shared-all}
use Rattle.transfer.proofs.shares_prefix.Goals.{After-same_item, In-loop-k}
use Rattle.transfer.proofs.shares_prefix.Goals as goal

-- a position of the run
in-run : (c : In-loop-k) → c.loop-k.k < first_free c.args.from.taken
in-run c = omega arith

-- the names there, by what the test of them says
agrees : (c : After-same_item) → let a = c.args in c.same_item.result ≡ agree_at (table_of a.rows.now.listing.now a.rows.now.table.now a.from) (table_of a.rows.now.listing.now a.rows.now.table.now a.to) c.loop-k.k
agrees c =
    c.same_item.ensures ∙ agree-here c.requires.1 c.requires.2 (run-below c.requires.1 ((omega arith))) (omega arith)

pub returns-then-to-run : goal.returns-then-to-run
returns-then-to-run c =
    let h : c.args.to.count < first_free c.args.from.taken = omega arith in
    sym (shared-not c.requires.1 c.requires.2 h (sym (agree-past c.requires.1 c.requires.2 (run-below c.requires.1 h) (omega arith))))

pub same_item-requires : goal.same_item-requires
same_item-requires c =
    (row_named c.requires.1 _ (run-below c.requires.1 (in-run (goal.at.same_item-requires c).In-loop-k)), row_named c.requires.2 _ (omega arith))

pub returns-then-not-same_item : goal.returns-then-not-same_item
returns-then-not-same_item c =
    sym (shared-not c.requires.1 c.requires.2 (in-run (goal.at.returns-then-not-same_item c).In-loop-k) (sym (agrees (goal.at.returns-then-not-same_item c).After-same_item) ∙ search rules))

pub loop-k-preserved : goal.loop-k-preserved
loop-k-preserved c =
    shared-more c.requires.1 c.requires.2 (in-run (goal.at.loop-k-preserved c).In-loop-k) (sym (agrees (goal.at.loop-k-preserved c).After-same_item) ∙ search rules) c.loop-k.invariant

pub returns : goal.returns
returns c = sym (shared-all c.requires.1 c.requires.2 {k = c.loop-k.k} (omega arith) c.loop-k.invariant)

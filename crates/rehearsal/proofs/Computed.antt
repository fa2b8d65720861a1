-- A rehearsal with all of its definitions open, for tables that are computed.
use Prim.Native.Nat.{ℕ}
use mathlib.Core.List.{List, ◌∷◌}
use Rattle.turns.specs.declared.Rehearsed.{Rehearsed}
use Rattle.rehearsal.specs.Rehearse.{opened}
use Rattle.turns.specs.State.{onward}
use Rattle.rehearsal.specs.Calls.{Call, kept, answers}

-- open with work enough, and the answers to the calls after it
unfoldable pub computed : List ℕ → ℕ → List Call → List Rehearsed
unfolding Rattle.examiner.proofs.Computed.computed Rattle.turns.specs.State.beginning Rattle.turns.specs.State.lowered Rattle.turns.specs.State.same_item Rattle.turns.specs.Turns.due_of Rattle.turns.specs.Turns.is_item Rattle.turns.specs.Turns.lay_in Rattle.turns.specs.Turns.turn_in Rattle.turns.specs.Turns.check_path Rattle.turns.specs.Turns.turn_by Rattle.rehearsal.specs.Acts.act Rattle.rehearsal.specs.Calls.answer_to Rattle.rehearsal.specs.Calls.kept Rattle.rehearsal.specs.Calls.answers Rattle.rehearsal.specs.Calls.said_by Rattle.rehearsal.specs.Calls.called Rattle.rehearsal.specs.Calls.sayings Rattle.rehearsal.specs.Calls.items_after Rattle.rehearsal.specs.Calls.standing Rattle.rehearsal.specs.Items.tables_of Rattle.rehearsal.specs.Items.report_lines Rattle.rehearsal.specs.Plain.begins Rattle.rehearsal.specs.Plain.next Rattle.rehearsal.specs.Plain.asked Rattle.rehearsal.specs.Rehearse.shown_of Rattle.rehearsal.specs.Rehearse.shown Rattle.rehearsal.specs.Rehearse.on_table Rattle.rehearsal.specs.Rehearse.on_tables Rattle.rehearsal.specs.Rehearse.on_path Rattle.rehearsal.specs.Rehearse.opened Rattle.rehearsal.specs.Rehearse.is_due Rattle.rehearsal.specs.Rehearse.lay_on Rattle.rehearsal.specs.Rehearse.laid Rattle.rehearsal.specs.Rehearse.taken_back
computed s path calls = let a = opened s 16384 path in a ∷ answers s (kept (onward path 0) a) calls

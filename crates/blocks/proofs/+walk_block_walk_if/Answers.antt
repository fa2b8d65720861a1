use Rattle.std.proofs.Common.{ℕ, arith, refl}
use Rattle.nodes.proofs.Laws.{block-holds, statement-holds}
use Rattle.flow.proofs.Statements.{condition-stands}
use Rattle.tables.proofs.State.{in_use}
use Rattle.blocks.proofs.Blocks.{Entered, Crossing, moved-refused, moved-to, moved-stops, stepped-to, stepped-stops, midway-start, midway-on, midway-stops, midway-end, next-stands, told-stands, told-examined, if-stops, entered-stands, entered-used, if-only, block-stops, crossing-ready, cross-stops, other-stands, if-else}
use Rattle.blocks.proofs.+walk_block_walk_if.Goals as goal
use Rattle.blocks.proofs.+walk_block_walk_if.Goals.{walk_block-in-Pass, walk_block-in-Examine+in_ok-used-in-Examine, walk_block-in-If+in_ok-walk_if-in-If, walk_if-After-resume, walk_if-In_ok-walk_block}

pub walk_block-block_at-count-requires : goal.walk_block-block_at-count-requires
walk_block-block_at-count-requires t c = block-holds c.requires.0

pub walk_block-overflow_add-walk : goal.walk_block-overflow_add-walk
walk_block-overflow_add-walk t c = omega (arith, (block-holds c.requires.0).room, c.requires.0.rows.room)

pub walk_block-loop-init : goal.walk_block-loop-init
walk_block-loop-init t c = midway-start c.requires.0 c.requires.1 c.block_at-count.ensures

pub walk_block-analyze_statement-requires : goal.walk_block-analyze_statement-requires
walk_block-analyze_statement-requires t c = let m = c.loop.invariant in (next-stands m c.loop-test.true, λ i. (m.ready.each _ i).items, m.ready.few)

pub walk_block-returns-in_err-next : goal.walk_block-returns-in_err-next
walk_block-returns-in_err-next t c b j sp =
    let m = c.loop.invariant in
    moved-refused _ _ c.from_residual.ensures.1 (midway-stops m c.loop-test.true (λ x k u. (rw c.in_err-next.was at (c.analyze_statement.ensures x k u)) _ (in_use _ m.ready)) b j sp)

pub walk_block-overflow_add-walk-in-Examine : goal.walk_block-overflow_add-walk-in-Examine
walk_block-overflow_add-walk-in-Examine t c = let st = next-stands c.loop.invariant c.loop-test.true in omega (arith, (statement-holds st).room, st.rows.few)

pub walk_block-examine_at-requires : goal.walk_block-examine_at-requires
walk_block-examine_at-requires t c =
    let m = c.loop.invariant in
    (told-stands m c.analyze_statement.ensures c.in_ok-next.was c.in-Examine.is (next-stands m c.loop-test.true), m.ready.few, in_use _ m.ready)

pub walk_block-returns-in_err-used-in-Examine : goal.walk_block-returns-in_err-used-in-Examine
walk_block-returns-in_err-used-in-Examine t c b j sp =
    let m = c.loop.invariant in
    let examined = told-examined m c.analyze_statement.ensures c.in_ok-next.was c.in-Examine.is c.examine_at.ensures in
    moved-refused _ _ c.from_residual-in_err-used-in-Examine.ensures.1 (midway-stops m c.loop-test.true (λ x k u. stepped-stops (examined x k u) c.in_err-used-in-Examine.was) b j sp)

pub walk_block-resume-requires : goal.walk_block-resume-requires
walk_block-resume-requires t c =
    let m = c.loop.invariant in
    let examined = told-examined m c.analyze_statement.ensures c.in_ok-next.was c.in-Examine.is c.examine_at.ensures in
    omega (arith, (examined _ _ (next-stands m c.loop-test.true).spells).within _ c.in_ok-used-in-Examine.was, m.ready.few, m.ready.full)

pub walk_block-walk_if-requires : goal.walk_block-walk_if-requires
walk_block-walk_if-requires t c =
    let m = c.loop.invariant in
    let st = next-stands m c.loop-test.true in
    (omega (arith, m.past, (block-holds c.requires.0).room), (st, m.ready, rw (c.in_ok-next.was, c.in-If.is) at (c.analyze_statement.ensures _ _ st.spells)))

pub walk_block-returns-in_err-walk_if-in-If : goal.walk_block-returns-in_err-walk_if-in-If
walk_block-returns-in_err-walk_if-in-If t c b j sp =
    moved-refused _ _ c.from_residual-in_err-walk_if-in-If.ensures.1 (midway-stops c.loop.invariant c.loop-test.true (λ x k u. moved-stops _ (c.walk_if.ensures x k u) c.in_err-walk_if-in-If.was) b j sp)

pub walk_block-loop-preserved : goal.walk_block-loop-preserved
walk_block-loop-preserved t c =
    let m = c.loop.invariant in
    elim c.match-branch-2.branch [
      | walk_block-in-Pass w ↦
          rw w.walk-is (midway-on m c.loop-test.true (λ x j sp. let told = rw (c.in_ok-next.was, w.in-Pass.is) at (c.analyze_statement.ensures x j sp) in (told.1 _ (in_use _ m.ready), told.0, m.ready)))
      | walk_block-in-Examine+in_ok-used-in-Examine w ↦
          let examined = told-examined m c.analyze_statement.ensures c.in_ok-next.was w.in-Examine.is w.examine_at.ensures in
          rw (w.walk-is, w.resume.ensures) (midway-on m c.loop-test.true (λ x j sp. stepped-to (examined x j sp) w.in_ok-used-in-Examine.was))
      | walk_block-in-If+in_ok-walk_if-in-If w ↦ rw w.walk-is (midway-on m c.loop-test.true (λ x j sp. moved-to (w.walk_if.ensures x j sp) w.in_ok-walk_if-in-If.was))
    ]

pub walk_block-returns : goal.walk_block-returns
walk_block-returns t c = midway-end c.loop.invariant c.loop-test.false

-- what is known at the block of an if
entered : (t : ℕ) (c : walk_if-After-resume t) → let a = c.args in Entered a.rows.now.listing.now a.rows.now.table.now a.d a.walk.now a.loc a.has_else c.in_ok-used.used c.resume.new.self
entered t c = let (st, ready, line) = c.requires in record { stand = st; ready = ready; line = line; result = c.examine_at.result; tried = c.examine_at.ensures; was = c.in_ok-used.was; on = c.resume.ensures }

pub walk_if-overflow_add-walk : goal.walk_if-overflow_add-walk
walk_if-overflow_add-walk t c = let st = c.requires.0 in omega (arith, (statement-holds st).room, st.rows.few)

pub walk_if-examine_at-requires : goal.walk_if-examine_at-requires
walk_if-examine_at-requires t c = let (st, ready, line) = c.requires in (condition-stands st line refl, ready.few, in_use _ ready)

pub walk_if-returns-in_err-used : goal.walk_if-returns-in_err-used
walk_if-returns-in_err-used t c x j sp = moved-refused _ _ c.from_residual.ensures.1 (if-stops c.args.walk.now c.requires.1 c.requires.2 c.examine_at.ensures c.in_err-used.was x j sp)

pub walk_if-resume-requires : goal.walk_if-resume-requires
walk_if-resume-requires t c =
    let (st, ready, line) = c.requires in
    omega (arith, ((c.examine_at.ensures _ _ (condition-stands st line refl).spells).onward _ c.in_ok-used.was).2, ready.few, ready.full)

pub walk_if-walk_block-requires : goal.walk_if-walk_block-requires
walk_if-walk_block-requires t c = let (on, st) = entered-stands (entered t (goal.at.walk_if-walk_block-requires t c).After-resume) in (omega (arith, on, (statement-holds c.requires.0).room), st)

pub walk_if-returns-then-not-has_else : goal.walk_if-returns-then-not-has_else
walk_if-returns-then-not-has_else t c = if-only (entered t (goal.at.walk_if-returns-then-not-has_else t c).After-resume) c.if-not-has_else.true c.walk_block.ensures

pub walk_if-walk_block-requires-2 : goal.walk_if-walk_block-requires-2
walk_if-walk_block-requires-2 t c = let (on, st) = entered-stands (entered t (goal.at.walk_if-walk_block-requires-2 t c).After-resume) in (omega (arith, on, (statement-holds c.requires.0).room), st)

pub walk_if-returns-in_err-walk_block : goal.walk_if-returns-in_err-walk_block
walk_if-returns-in_err-walk_block t c x j sp =
    let e = entered t (goal.at.walk_if-returns-in_err-walk_block t c).After-resume in
    moved-refused _ _ c.from_residual-in_err-walk_block.ensures.1 (block-stops e c.if-not-has_else.false _ c.walk_block-2.ensures c.in_err-walk_block.was x j sp)

-- and at the step to its else-block
crossing : (t : ℕ) (c : walk_if-In_ok-walk_block t) → let a = c.args in Crossing a.rows.now.listing.now a.rows.now.table.now a.d a.walk.now a.loc a.has_else c.in_ok-used.used c.resume.new.self c.walk_block-2.new.walk
crossing t c = record { entered = entered t (goal.at.walk_if-cross-requires t c).After-resume; other = c.if-not-has_else.false; passed = λ b j sp. moved-to (c.walk_block-2.ensures b j sp) c.in_ok-walk_block.was }

pub walk_if-cross-requires : goal.walk_if-cross-requires
walk_if-cross-requires t c = let k = crossing t c in ((entered-used k.entered).0, crossing-ready k)

pub walk_if-returns-in_err-to : goal.walk_if-returns-in_err-to
walk_if-returns-in_err-to t c x j sp =
    let k = crossing t (goal.at.walk_if-returns-in_err-to t c).In_ok-walk_block in
    moved-refused _ _ c.from_residual-in_err-to.ensures.1 (cross-stops k c.cross.ensures c.in_err-to.was x j sp)

pub walk_if-turn-requires : goal.walk_if-turn-requires
walk_if-turn-requires t c =
    let ready = crossing-ready (crossing t (goal.at.walk_if-turn-requires t c).In_ok-walk_block) in
    let lt = c.cross.ensures.within _ c.in_ok-to.was in
    (omega (arith, lt, ready.few, ready.full), omega (arith, lt, ready.few))

pub walk_if-walk_block-requires-3 : goal.walk_if-walk_block-requires-3
walk_if-walk_block-requires-3 t c =
    let (on, st) = other-stands (crossing t (goal.at.walk_if-walk_block-requires-3 t c).In_ok-walk_block) c.cross.ensures c.in_ok-to.was c.turn.ensures in
    (omega (arith, on, (statement-holds c.requires.0).room), st)

pub walk_if-returns : goal.walk_if-returns
walk_if-returns t c = if-else (crossing t (goal.at.walk_if-returns t c).In_ok-walk_block) c.cross.ensures c.in_ok-to.was c.turn.ensures c.walk_block-3.ensures

use Prim.Native.Nat.{◌*◌, ◌≤◌}
use native.Mathlib.Omega.{arith}
use lib.ListN.{length}
use Rattle.rows.specs.Work.{work_words}
use Rattle.reading.proofs.Stored.{stored-holds}
use Rattle.reading.proofs.Answer.{read_short, read-long, read-within}
use Rattle.rows.specs.Rows.{row_words}
use Rattle.reading.proofs.read_listing.Goals as goal

pub returns-then-work-lt-WORK_WORDS : goal.returns-then-work-lt-WORK_WORDS
returns-then-work-lt-WORK_WORDS c = let a = c.args in let all = read_short a.listing.now a.work.now _ c.if-work-lt-WORK_WORDS.true c.unplaced.ensures in
    record { value = all.0; work_after = all.1.0; spelled = all.1.1 }

pub returns-then-listing-gt-MAX_BYTES : goal.returns-then-listing-gt-MAX_BYTES
returns-then-listing-gt-MAX_BYTES c = let a = c.args in let all = read-long a.listing.now a.work.now _ _ c.if-work-lt-WORK_WORDS.false c.if-listing-gt-MAX_BYTES.true c.clear.ensures c.unplaced-then-listing-gt-MAX_BYTES.ensures in
    record { value = all.0; work_after = all.1.0; spelled = all.1.1 }

pub returns : goal.returns
returns c =
    let a = c.args in
    let s = a.listing.now in
    let w = a.work.now in
    let stored = c.store_lines-lines.ensures in
    let long : work_words ≤ length w = c.if-work-lt-WORK_WORDS.false in
    let few = stored.few in
    let room : c.store_lines-lines.result.count * row_words ≤ work_words = omega arith in
    let done = c.read_stored.ensures s (stored-holds s w _ _ stored (omega arith)) in
    let all = read-within s w _ _ stored room long _ _ c.if-listing-gt-MAX_BYTES.false done.0 done.1 in
    record { value = all.0; work_after = all.1.0; spelled = all.1.1 }

use Rattle.turns.proofs.Turning.{turns-open, turns-lay, turns-back}
use Rattle.turns.proofs.turn_in.Goals as goal

pub returns-in-Open : goal.returns-in-Open
returns-in-Open c = λ ps h. let a = c.args in turns-open a.rows.now.listing.now ps a.r c.in-Open.is (c.shown_in.ensures ps h)

pub returns-in-Lay : goal.returns-in-Lay
returns-in-Lay c = λ ps h. let a = c.args in turns-lay a.rows.now.listing.now ps a.r c.in-Lay.is (c.lay_in.ensures ps h)

pub returns-in-TakeBack : goal.returns-in-TakeBack
returns-in-TakeBack c = λ ps h. let a = c.args in turns-back a.rows.now.listing.now ps a.r c.in-TakeBack.is c.lowered-due.ensures (c.shown_in-in-TakeBack.ensures ps h)

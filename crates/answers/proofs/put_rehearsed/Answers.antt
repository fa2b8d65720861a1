use Rattle.answers.proofs.Rehearsals.{puts-due, puts-ended, puts-refusal}
use Rattle.answers.proofs.put_rehearsed.Goals as goal

pub returns-in-Due : goal.returns-in-Due
returns-in-Due c = puts-due _ _ c.in-Due.is c.rehearsal_numbers.ensures c.into.ensures c.numbers_of.ensures

pub returns-in-Ended : goal.returns-in-Ended
returns-in-Ended c = puts-ended _ _ c.in-Ended.is c.rehearsal_numbers-in-Ended.ensures c.numbers_of-in-Ended.ensures

pub returns-in-Refused : goal.returns-in-Refused
returns-in-Refused c = puts-refusal _ _ c.in-Refused.is c.numbers_of-in-Refused.ensures

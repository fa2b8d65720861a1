use Rattle.std.proofs.Common.{◌≡◌, length, subst, sym, ◌∙◌, rules}
use Rattle.rows.specs.Rows.{line_in}
use Rattle.reader.specs.Spells.{SpellsContract}
use Rattle.rules.specs.Result.{answer}
use Rattle.rules.specs.Analyze.{analyze as analyze_of}
use Rattle.declarations.specs.Items.{ContractAt}
use Rattle.examiner.specs.Name.{items}
use Rattle.turns.specs.State.{DueInside}
use Rattle.turns.specs.Turns.{turn_in, turn_by, tests}
use Rattle.rehearsal.proofs.Rehearsing.{refuses, turns, turned-inside}
use Rattle.rehearsal.proofs.rehearse.Goals as goal

pub returns-in-Err-clause-value : goal.returns-in-Err-clause-value
returns-in-Err-clause-value c =
    let a = c.args in
    refuses a.listing.now _ a.r a.turn (c.examine-turned.ensures.refused _ c.in-Err.is).0

pub returns-in-Ok : goal.returns-in-Ok
returns-in-Ok c =
    let a = c.args in
    let s = a.listing.now in
    let m = c.examine-turned.ensures.made _ c.in-Ok.is in
    let st = subst (λ s. ContractAt s m.rows.now.table.now m.count) m.listing m.given.stands in
    let sp = subst (λ s. SpellsContract (line_in m.rows.now.table.now) s m.contract m.count) m.listing m.spells in
    let count = (m.given.declared m.contract m.spells).count in
    let is : c.in-Ok.x ≡ turn_by (tests (answer (analyze_of m.contract)) (length m.contract.declarations) a.r) (turn_in s (items s) a.r a.turn) = search rules in
    record {
      value = is ∙ turns s _ a.r a.turn st m.contract sp m.declares m.analyzed;
      work_after = c.examine-turned.ensures.work_after;
      due_inside = subst (DueInside s) (sym is) (turned-inside s 0 a.r a.turn st m.contract sp m.declares _);
    }

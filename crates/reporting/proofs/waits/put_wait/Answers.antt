use Rattle.std.proofs.Common.{sym, ap, ◌∙◌, subst}
use Rattle.reporting.proofs.WaitLines.{no_line, one_line}
use Rattle.reporting.proofs.waits.put_wait.Goals as goal

pub put_line-requires : goal.put_line-requires
put_line-requires g c = subst (g.S.Sink.fits c.args.sink.now) (one_line c.args.i _ (sym c.wait_in.ensures ∙ c.in-Some.is)) c.requires.room

pub returns-in-Some : goal.returns-in-Some
returns-in-Some g c = c.put_line.ensures ∙ ap (g.S.Sink.after c.args.sink.now) (sym (one_line c.args.i _ (sym c.wait_in.ensures ∙ c.in-Some.is)))

pub returns-in_default : goal.returns-in_default
returns-in_default g c =
    let none = no_line c.args.i (sym c.wait_in.ensures ∙ c.in_default.is) in
    sym (g.S.Sink.laws.nothing _ (subst (g.S.Sink.fits c.args.sink.now) none c.requires.room)) ∙ ap (g.S.Sink.after c.args.sink.now) (sym none)

use Rattle.std.proofs.Common.{◌&&◌, length, arith, sym, ap, ◌∙◌}
use Rattle.std.proofs.lemmas.List.{length-append}
use Rattle.limits.proofs.Digits.{Spells, spells-pair, spells-none, and-apart}
use Rattle.limits.proofs.literals.is_digit_run.Goals as goal

pub loop-p-preserved : goal.loop-p-preserved
loop-p-preserved c =
    let s = c.in-Some.ensures.steps in
    let l = c.loop-p in
    let cut = s.1.0 in
    let long = s.1.1 ∙ l.invariant.two in
    record {
      two = s.0 ∙ l.invariant.two;
      even = omega (arith, l.invariant.even, ap length cut, long, length-append c.in-Some.p.now c.next.new.self.rest.now);
      same = and-apart l.ok _ _ ∙ ap (λ b. l.ok && b) (ap (λ b. b && Spells c.next.new.self.rest.now) c.is_digit_pair-ok.ensures ∙ spells-pair c.in-Some.p.now _ long ∙ ap Spells (sym cut)) ∙ l.invariant.same;
    }

pub returns : goal.returns
returns c = spells-none c.loop-p.ok _ (omega (arith, c.loop-p.invariant.even, c.in-None.ensures.steps.1.0, c.loop-p.invariant.two)) ∙ c.loop-p.invariant.same

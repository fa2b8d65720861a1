use Rattle.std.proofs.Common.{sym, ap, ◌∙◌, rules, ◌/◌, [], ◌∷◌}
use Rattle.std.proofs.lemmas.List.Edits.{sets}
use Rattle.output.specs.Decimal.{decimal, last_digit}
use Rattle.output.specs.Sinks.{sets-sets}
use Rattle.output.proofs.Laws.{decimal-one, decimal_two, decimal_three, decimal_thousands}
use Rattle.output.proofs.+write_decimal.Goals as goal

pub returns-then-x-lt10-clause-text : goal.returns-then-x-lt10-clause-text
returns-then-x-lt10-clause-text t c = search (rules, decimal-one)

pub returns-then-x-lt100-clause-text : goal.returns-then-x-lt100-clause-text
returns-then-x-lt100-clause-text t c = search (rules, decimal_two)

pub returns-then-x-lt1000-clause-text : goal.returns-then-x-lt1000-clause-text
returns-then-x-lt1000-clause-text t c = search (rules, decimal_three)

pub returns-clause-text : goal.returns-clause-text
returns-clause-text t c =
    let x = c.args.x in
    let rest = last_digit (x / 100) ∷ last_digit (x / 10) ∷ last_digit x ∷ [] in
    c.write_three-2.ensures ∙ rw (c.write_decimal-next.ensures.text, c.write_decimal-next.ensures.past) (sets-sets c.args.output.now c.args.at (decimal (x / 1000)) rest)
    ∙ ap (sets c.args.output.now c.args.at) (sym (decimal_thousands x c.if-x-lt1000.false))

use Rattle.std.proofs.Common.{sym, ap, ◌∙◌}
use Rattle.std.proofs.lemmas.Result.{err_from_is_err_and}
use Rattle.std.specs.Prelude.{Err}
use Rattle.nodes.specs.Stands.{walked}
use Rattle.nodes.proofs.Laws.{walked-pass, walked-fault}
use Rattle.rules.specs.Result.{both}
use Rattle.rules.specs.Limits.{security}
use Rattle.rules.specs.Types.{truth}
use Rattle.names.proofs.Laws.{items-are}
use Rattle.statements.proofs.Examining.{declares}
use Rattle.statements.proofs.examine.judge.Goals as goal

pub returns-in_err-check_type_boolean : goal.returns-in_err-check_type_boolean
returns-in_err-check_type_boolean c = λ e j sp.
    let I = c.requires.1 in
    let (y, k, l) = err_from_is_err_and _ c.from_residual.ensures.1 in
    let types = c.check_type_boolean.ensures e j _ sp (declares I) ∙ ap (λ ps. walked (truth e c.args.d.target ps) j) (items-are c.args.rows.now.listing.now c.args.rows.now.table.now I.spells) in
    k ∙ ap Err l ∙ sym (ap (λ x. walked (both x (security e)) j) (walked-fault _ j (sym types ∙ c.in_err-check_type_boolean.was)))

pub returns : goal.returns
returns c = λ e j sp.
    let I = c.requires.1 in
    let types = c.check_type_boolean.ensures e j _ sp (declares I) ∙ ap (λ ps. walked (truth e c.args.d.target ps) j) (items-are c.args.rows.now.listing.now c.args.rows.now.table.now I.spells) in
    c.check_security.ensures e j sp ∙ sym (ap (λ x. walked (both x (security e)) j) (walked-pass _ j (sym types ∙ c.in_ok-check_type_boolean.was)).0)

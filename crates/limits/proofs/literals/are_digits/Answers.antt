use Rattle.std.proofs.Common.{◌≡◌, ◌*◌, ◌-◌, length, drop, length-drop, arith, rules, tests, ◌∙◌}
use Rattle.std.proofs.lemmas.List.{take_all}
use Rattle.rules.specs.Keys.{is_digit}
use Rattle.limits.proofs.Chunks.{chunk-passed}
use Rattle.limits.proofs.Digits.{Spells, all-pairs, digits-all, digits-runs}
use Rattle.limits.proofs.literals.are_digits.Goals as goal

pub returns : goal.returns
returns c =
    let s = c.args.digits.now in
    let m = c.count-count.ensures.runs in
    let w = c.take_while.ensures.runs m.0 m.0.seen m.1 in
    let made = c.chunks_exact-runs.ensures in
    let cut = rw (w.1, made.size, made.rest) at (made.runs w.0 w.0.seen) in
    let n = 32 * c.count-count.result in
    let past : n ≡ m.0.len * 32 = omega (arith, m.3) in
    let passed = chunk-passed m.0 w.0 32 s Spells w.2 (cut (omega arith)) (λ a b r k. search (rules, tests)) (λ x k. search (rules, tests)) in
    all-pairs is_digit c.all_pairs.ensures (λ x y r h. search rules) ∙ digits-all _ ∙ rw (take_all (length s - n) (drop n s) (omega (arith, length-drop n s)), past) (digits-runs s m.0.len passed)

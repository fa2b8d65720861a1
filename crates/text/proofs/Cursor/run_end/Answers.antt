use Rattle.std.proofs.Common.{◌≡◌, ◌≤◌, ℕ, Some, None, cond, ltb, not, drop, rules, tests, sym, ◌∙◌, arith}
use Rattle.std.specs.Option.{unwrap_or}
use Rattle.std.specs.List.{position_or_len}
use Rattle.std.proofs.lemmas.Iterator.{YieldsList-from_slice}
use Rattle.std.proofs.lemmas.Iterator.Search.{position_from_yields_List}
use Rattle.std.proofs.lemmas.List.Sums.{prefix_len-le-length}
use Rattle.text.specs.Text.{run_end}
use Rattle.text.proofs.Fields.{end-first}
use Rattle.text.proofs.Cursor.run_end.Goals as goal

cut : (i n : ℕ) → i ≤ n → unwrap_or (cond (ltb i n) (Some i) None) n ≡ i
cut i n h = grind arith

pub returns : goal.returns
unfolding run_end
returns g c = λ p h.
    let rest = c.rest-rest.result.now in
    let found = position_from_yields_List (λ b. not (p b)) _ _ c.position-count.result c.position-count.ensures.ran (YieldsList-from_slice _ c.iter.ensures.rest) (λ x b q k. search (rules, tests, h)) in
    let first : c.unwrap_or.result ≡ position_or_len (λ b. not (p b)) rest = c.unwrap_or.ensures ∙ rw found (cut _ _ (prefix_len-le-length _ rest)) in
    rw (first, c.rest-rest.ensures) (sym (end-first p (drop c.args.self.at c.args.self.listing.now) 0 c.args.self.at))

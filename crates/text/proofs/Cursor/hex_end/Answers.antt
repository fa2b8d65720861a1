use Rattle.std.proofs.Common.{◌≡◌, ◌+◌, ◌-◌, ◌≤◌, length, arith, ap, sym, ◌∙◌, length-drop}
use Rattle.text.specs.Text.{is_hex_digit}
use Rattle.text.proofs.Cursors.{end-chunk}
use Rattle.text.proofs.Cursor.hex_end.Goals as goal

pub loop-count-preserved : goal.loop-count-preserved
loop-count-preserved c =
    let self = c.args.self in
    let k = c.loop-count.count in
    let inside : k + 16 ≤ length c.rest-rest.result.now = omega arith in
    let sixteen : k + 16 - k ≡ 16 = omega arith in
    let passed = rw sixteen at (sym c.are_hex.ensures ∙ c.if-are_hex.true) in
    (inside, end-chunk is_hex_digit self.listing.now self.at k 16 c.rest-rest.ensures (omega arith) inside passed ∙ c.loop-count.invariant.1)

pub overflow_add-self : goal.overflow_add-self
overflow_add-self c = omega (arith, ap length c.rest-rest.ensures, length-drop c.args.self.at c.args.self.listing.now, c.ranges.self, c.loop-count.invariant.0)

pub returns : goal.returns
returns c = c.run_end.ensures is_hex_digit (λ b r e. e) ∙ c.loop-count.invariant.1

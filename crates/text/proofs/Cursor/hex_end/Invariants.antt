use Rattle.std.proofs.Common.{◌≡◌, ◌+◌, ◌-◌, ◌≤◌, length}
use Rattle.text.specs.Text.{run_end, is_hex_digit}
use Rattle.text.proofs.Cursor.hex_end.Given as goal

abbrev pub invariant-loop-count : goal.invariant-loop-count
invariant-loop-count l = (l.count ≤ length l.rest) × (run_end is_hex_digit l.self.listing.now (l.self.at + l.count) ≡ run_end is_hex_digit l.self.listing.now l.self.at)

abbrev pub decreases-loop-count : goal.decreases-loop-count
decreases-loop-count l = length l.rest - l.count

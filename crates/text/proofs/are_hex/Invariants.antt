use Rattle.std.proofs.Common.{◌≡◌, take}
use Rattle.std.specs.List.{list_all}
use Rattle.text.specs.Text.{is_hex_digit}
use Rattle.text.proofs.are_hex.Given as goal

abbrev pub invariant-loop-b : goal.invariant-loop-b
invariant-loop-b l = l.ok ≡ list_all is_hex_digit (take l.b-index l.run)

-- The five type rules and their operands meet their contracts. The measure of each pairs the rows that are left with the rank of the rule:
-- a rule goes to a row below, or on the same row to a rule of lower rank.
use Prim.Native.Nat.{ℕ, ◌+◌, ◌*◌, ◌-◌}
use mathlib.Core.List.{List}
use lib.ListN.{length}
use Rattle.typing.proofs.+type_rules.Given as goal

abbrev measure : List ℕ → ℕ → ℕ → ℕ
measure t i rank = 8 * (length t - i) + rank

abbrev pub decreases-check_both : goal.decreases-check_both
decreases-check_both l = measure l.rows.now.table.now l.i 4

abbrev pub decreases-check_compare : goal.decreases-check_compare
decreases-check_compare l = measure l.rows.now.table.now l.i 5

abbrev pub decreases-check_operand : goal.decreases-check_operand
decreases-check_operand l = measure l.rows.now.table.now l.i 3

abbrev pub decreases-check_type : goal.decreases-check_type
decreases-check_type l = measure l.rows.now.table.now l.i 0

abbrev pub decreases-check_type_boolean : goal.decreases-check_type_boolean
decreases-check_type_boolean l = measure l.rows.now.table.now l.i 2

abbrev pub decreases-check_type_crypto_operand : goal.decreases-check_type_crypto_operand
decreases-check_type_crypto_operand l = measure l.rows.now.table.now l.i 1

abbrev pub decreases-check_type_numeric : goal.decreases-check_type_numeric
decreases-check_type_numeric l = measure l.rows.now.table.now l.i 1

abbrev pub decreases-check_type_string : goal.decreases-check_type_string
decreases-check_type_string l = measure l.rows.now.table.now l.i 0

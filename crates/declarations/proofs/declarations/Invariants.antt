-- The invariant: of the first p declarations all is noted, and the next one stands at row `at`.
use mathlib.Core.Path.{◌≡◌}
use Rattle.rows.specs.Rows.{line_in}
use Rattle.declarations.specs.Noted.{declaration_row, rows_below, noted}
use Rattle.declarations.proofs.declarations.Given as goal

abbrev pub invariant-loop-p : goal.invariant-loop-p
invariant-loop-p l = (l.items ≡ noted (λ p. rows_below (line_in l.rows.table.now) (declaration_row (line_in l.rows.table.now) p)) l.p) × (l.at ≡ declaration_row (line_in l.rows.table.now) l.p)

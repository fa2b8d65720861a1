use native.Mathlib.Omega.{arith}
use mathlib.Core.Path.{refl}
use Rattle.rows.specs.Rows.{line_in}
use Rattle.declarations.specs.Noted.{row_past, declaration_row, rows_below, noted}
use Rattle.declarations.proofs.Declaring.{noted_more, rows_next, row_next, all_noted, head-holds, head_few, next_row, next-holds, next-bounds, declared-as}
use Rattle.declarations.proofs.declarations.Goals as goal

pub contract_at-head-requires : goal.contract_at-head-requires
contract_at-head-requires c = head-holds c.requires

pub loop-p-init : goal.loop-p-init
unfolding noted row_past
loop-p-init c = (refl, refl)

pub declaration_at-count-requires : goal.declaration_at-count-requires
declaration_at-count-requires c = next-holds c.requires c.contract_at-head.ensures c.loop-p-test.true c.loop-p.invariant.1

pub overflow_add-first : goal.overflow_add-first
overflow_add-first c = omega (arith, next_row c.requires c.contract_at-head.ensures c.loop-p-test.true c.loop-p.invariant.1)

pub bounds-items-p : goal.bounds-items-p
bounds-items-p c = omega (arith, head_few c.requires c.contract_at-head.ensures, c.loop-p-test.true)

pub overflow_add-at : goal.overflow_add-at
overflow_add-at c = omega (arith, next-bounds c.requires c.contract_at-head.ensures c.loop-p-test.true c.loop-p.invariant.1 c.declaration_at-count.ensures)

pub loop-p-preserved : goal.loop-p-preserved
loop-p-preserved c =
    let L = line_in c.args.rows.now.table.now in
    let (noted, at) = c.loop-p.invariant in
    let line = c.declaration_at-count.ensures in
    (noted_more (λ p. rows_below L (declaration_row L p)) c.loop-p.p noted (rows_next L at line), row_next L c.loop-p.p at line)

pub returns : goal.returns
returns c =
    let (noted, at) = c.loop-p.invariant in
    let all = all_noted (line_in c.args.rows.now.table.now) c.contract_at-head.ensures (omega arith) noted at in
    record { value = all; declared_as = declared-as c.requires all }

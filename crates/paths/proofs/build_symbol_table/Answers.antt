use Prim.Native.Nat.{◌+◌, ◌-◌}
use native.Mathlib.Omega.{arith}
use mathlib.Core.Path.{refl, sym, ap, ◌∙◌}
use Rattle.std.specs.Prelude.{Err}
use Rattle.std.specs.Option.{is_some}
use Rattle.rows.specs.Rows.{line_in}
use Rattle.reader.proofs.Items.{items-end}
use Rattle.names.proofs.Laws.{items-named, name-inside}
use Rattle.rules.specs.Table.{params}
use Rattle.names.specs.Items.{found_in}
use Rattle.paths.proofs.Build.{build-start, build-done, build-twice, build-more, at_count}
use Rattle.paths.proofs.build_symbol_table.Goals as goal

pub loop-k-init : goal.loop-k-init
loop-k-init c = rw c.empty-path.ensures (build-start c.args.rows.now.listing.now c.args.rows.now.table.now c.args.items.first c.args.items.count refl)

pub item_at-it-requires : goal.item_at-it-requires
item_at-it-requires c = rw c.row_at-row.ensures (items-named c.args.rows.now.listing.now c.args.rows.now.table.now c.requires.0 (c.args.items.count - 1 - c.loop-k.k) (omega arith)).holds

pub of-requires : goal.of-requires
of-requires c =
    let a = c.args in
    name-inside a.rows.now.listing.now a.rows.now.table.now c.item_at-it.result (items-named c.args.rows.now.listing.now c.args.rows.now.table.now c.requires.0 (c.args.items.count - 1 - c.loop-k.k) (omega arith)) (ap (line_in _) (sym c.row_at-row.ensures) ∙ c.item_at-it.ensures)

pub find_place-requires : goal.find_place-requires
find_place-requires c = c.loop-k.invariant.sound

pub overflow_cast-path : goal.overflow_cast-path
overflow_cast-path c = let st = c.requires.0 in omega (arith, c.row_at-row.ensures, items-end st.spells, st.within, st.rows.few)

pub returns : goal.returns
returns c = build-done c.loop-k.invariant c.loop-k-test.false refl

pub returns-then-is_some : goal.returns-then-is_some
returns-then-is_some c =
    let it = c.item_at-it in
    build-twice c.loop-k.invariant c.loop-k-test.true it.result (ap (line_in _) (sym c.row_at-row.ensures) ∙ it.ensures) (sym c.if-is_some.true ∙ c.is_some.ensures ∙ ap is_some (c.find_place.ensures ∙ ap (found_in (params _)) c.of.ensures)) (ap Err c.new.ensures)

pub loop-k-preserved : goal.loop-k-preserved
loop-k-preserved c =
    let l = c.loop-k in
    let it = c.item_at-it in
    let more = build-more l.invariant c.loop-k-test.true it.result (ap (line_in _) (sym c.row_at-row.ensures) ∙ it.ensures) (sym c.if-is_some.false ∙ c.is_some.ensures ∙ ap is_some (c.find_place.ensures ∙ ap (found_in (params _)) c.of.ensures)) c.requires.1 (items-named c.args.rows.now.listing.now c.args.rows.now.table.now c.requires.0 (c.args.items.count - 1 - l.k) (omega arith)) in
    rw c.row_at-row.ensures (at_count l.path (c.args.items.first + (c.args.items.count - 1 - l.k)) l.invariant.entries more)

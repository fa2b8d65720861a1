use mathlib.Core.Path.{◌≡◌, sym, ◌∙◌}
use Rattle.std.proofs.Common.{rules}
use Rattle.lent_path.specs.Rows.{is_path}
use Rattle.lent_path.proofs.Laws.{path_full, path_sound}
use Rattle.lent_path.proofs.is_path.Goals as goal

pub returns-then-is_own-clause-sound : goal.returns-then-is_own-clause-sound
unfolding is_path
returns-then-is_own-clause-sound c =
    let a = c.args in
    let value : c.are_items.result ≡ is_path a.rows.now.listing.now a.rows.now.table.now a.path = search rules in
    λ e. path_sound a.rows.now.listing.now a.rows.now.table.now a.path (path_full a.path _ c.well_formed.1.0) (sym value ∙ e)

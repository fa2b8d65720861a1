-- That paths can be read has one proof at most, as a ghost field asks of its fact (and asks here, in specs/): a row that is an item's line holds one item.
use Rattle.std.specs.Prelude.{ℕ, List, ◌≡◌}
use Rattle.std.specs.Coded.{le_prop}
use Rattle.std.proofs.Math.Option.{none, some}
use mathlib.Core.Bool.{Bool-set}
use mathlib.Core.HLevel.{is_prop→PathP}
use mathlib.Core.Path.{sym, ap, ◌∙◌}
use mathlib.Core.Sum.{⊎_set}
use native.Mathlib.Nat.{ℕ_set}
use Rattle.listing.specs.declared.Line.{Line}
use Rattle.listing.specs.Kinds.{item_line}
use Rattle.rows.specs.Rows.{line_in}
use Rattle.names.specs.declared.Item.{Item}
use Rattle.names.specs.Items.{NamedRow, HoldsItem, line_of}
use Rattle.paths.specs.declared.Path.{Path}
use Rattle.declarations.specs.declared.Declared.{Declared}
use Rattle.reporting.specs.Formed.{Formed}

Line-set : IsSet Line
Line-set = hlevel (ℕ_set, Bool-set, ⊎_set)

-- a line holds one item
same_item : (x y : Item) → line_of x ≡ line_of y → x ≡ y
same_item x y e = ap (λ l. elim (item_line l) as (λ _. Item) [ none ↦ y | some (w, t, n) ↦ record { loc = w; ty = t; name = n } ]) e

HoldsItem-prop : (t : List ℕ) (i : ℕ) → IsProp (HoldsItem t i)
HoldsItem-prop t i h k =
    let e = same_item h.held k.held (sym h.is ∙ k.is) in
    λ j. record { held = e j; is = is_prop→PathP (λ j. line_in t i ≡ line_of (e j)) (λ j. Line-set _ (line_of (e j))) h.is k.is j; room = le_prop h.room k.room j }

NamedRow-prop : (s t : List ℕ) (i : ℕ) → IsProp (NamedRow s t i)
NamedRow-prop s t i = hlevel (HoldsItem-prop, le_prop)

-- one proof at most
pub Formed-prop : (s t : List ℕ) (d : Declared) (paths : List Path) → IsProp (Formed s t d paths)
Formed-prop s t d paths = hlevel (NamedRow-prop, le_prop, ℕ_set, Bool-set)

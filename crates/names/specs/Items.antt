-- The items of a declaration as rows of a table, and the position of a name among them.
use Rattle.std.specs.Prelude.{ℕ, zero, suc, ◌+◌, ◌≤◌, Option, List, [], ◌∷◌, length}
use Rattle.std.specs.List.{position_from}
use Rattle.std.proofs.Math.Option.{some, none}
use Rattle.ast.specs.declared.Type.{«Type» as ItemType}
use Rattle.ast.specs.Tree.{Name, same, StackParam, unplaced}
use Rattle.text.specs.declared.Place.{Place}
use Rattle.listing.specs.declared.Line.{Line}
use Rattle.listing.specs.Kinds.{item_line}
use Rattle.rows.specs.Rows.{line_in}
use Rattle.reader.specs.Reading.{item}
use Rattle.reader.specs.Spells.{SpellsItems}
use Rattle.nodes.specs.Stands.{Stands, Holds}
use Rattle.names.specs.declared.Item.{Item}

-- n items stand from row i on, one line each
abbrev pub ItemsAt : List ℕ → List ℕ → ℕ → ℕ → Type 0
ItemsAt s t n i = Stands (SpellsItems (line_in t) StackParam (item s) n) s t i

-- the line of an item
abbrev pub line_of : Item → Line
line_of p = Line.StackParam p.loc p.ty p.name

-- row i is there, and is an item's line
abbrev pub HoldsItem : List ℕ → ℕ → Type 0
HoldsItem t i = Holds line_of t i

-- a part that lies in the listing
abbrev pub Inside : List ℕ → Place → Type 0
Inside s x = x.at + x.len ≤ length s

-- row i is an item's line, and the item's name lies in the listing
pub record NamedRow (s t : List ℕ) (i : ℕ) : Type 0 where
  pub holds : HoldsItem t i
  pub inside : Inside s holds.held.name

-- the item of a line; of another line, an item with no name
unfoldable pub item_of : List ℕ → Line → StackParam
item_of s l = elim (item_line l) [ none ↦ item s unplaced ItemType.Boolean (record { at = 0; len = 0 }) | some (w, t, x) ↦ item s w t x ]

-- the item that row i holds
unfoldable pub item_in : List ℕ → List ℕ → ℕ → StackParam
item_in s t i = item_of s (line_in t i)

-- the items of n rows from row i on, from the last up
unfoldable pub items_down : List ℕ → List ℕ → ℕ → ℕ → List StackParam
items_down s t i zero = []
items_down s t i (suc n) = item_in s t (i + n) ∷ items_down s t i n

-- the position of the first item with a name
abbrev pub found_in : List StackParam → Name → Option ℕ
found_in ps x = position_from (λ p. same x p.identifier) 0 ps

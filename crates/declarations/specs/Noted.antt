-- What the rows say of the declarations, and the items that they declare.
use Rattle.std.specs.Prelude.{ℕ, zero, suc, ◌+◌, Option as StdOption, Some, None, List, [], reverse, ◌≡◌, get_or, set, replicate}
use Rattle.std.proofs.Math.Option.{Option, some, none}
use Rattle.std.proofs.Math.ListN.{get_elem?}
use Rattle.ast.specs.declared.Location.{Location}
use Rattle.ast.specs.declared.Target.{Target}
use Rattle.ast.specs.declared.Target.TheVariants.{Legacy}
use Rattle.ast.specs.declared.Type.{«Type» as ItemType}
use Rattle.text.specs.declared.Place.{Place}
use Rattle.listing.specs.declared.Line.{Line}
use Rattle.listing.specs.Kinds.{contract_line, declaration_line}
use Rattle.rows.specs.Rows.{line_in}
use Rattle.reader.specs.Ceilings.{max_declarations}
use Rattle.reader.specs.Spells.{SpellsDeclarations, first_declaration}
use Rattle.nodes.specs.declared.Head.{Head}
use Rattle.names.specs.declared.Item.{Item}
use Rattle.declarations.specs.declared.Declared.{Declared}
use Rattle.names.specs.declared.ItemRows.{ItemRows}
use Rattle.declarations.specs.Items.{no_items}

-- what the T line says; another line says no declarations
unfoldable pub head_of : Line → Head
head_of l = elim (contract_line l) [ none ↦ record { target = Legacy; declarations = 0 } | some (g, n) ↦ record { target = g; declarations = n } ]

-- how many items a D line says; another line says none
unfoldable pub items_said : Line → ℕ
items_said l = elim (declaration_line l) [ none ↦ 0 | some n ↦ n ]

-- the row after the items of the declaration at row i
unfoldable pub after_items : (ℕ → Line) → ℕ → ℕ
after_items L i = i + 1 + items_said (L i)

-- the row after p declarations, the first of which is at row i
unfoldable pub row_past : (ℕ → Line) → ℕ → ℕ → ℕ
row_past L i zero = i
row_past L i (suc p) = row_past L (after_items L i) p

-- the row of the declaration that p others precede; after the last, that of the block
abbrev pub declaration_row : (ℕ → Line) → ℕ → ℕ
declaration_row L p = row_past L first_declaration p

-- the rows of the items of the declaration at row i
abbrev pub rows_below : (ℕ → Line) → ℕ → ItemRows
rows_below L i = record { first = i + 1; count = items_said (L i) }

-- f of the first n declarations, and none past them
unfoldable pub noted : (ℕ → ItemRows) → ℕ → List ItemRows
noted f zero = replicate max_declarations no_items
noted f (suc p) = set (noted f p) p (f p)

unfoldable pub declared_by : Head → (ℕ → Line) → Declared
declared_by h L = record {
  target = h.target;
  count = h.declarations;
  items = noted (λ p. rows_below L (declaration_row L p)) h.declarations;
  block = declaration_row L h.declarations;
}

-- what the rows say of the declarations
abbrev pub declared_in : (ℕ → Line) → Declared
declared_in L = declared_by (head_of (L 0)) L

-- an item's line, kept whole
abbrev pub whole_item : Location → ItemType → Place → Item
whole_item l t x = record { loc = l; ty = t; name = x }

-- the rows declare the items ps, declaration by declaration, first declared first; the declarations end before row `upto`
pub record Declares (t : List ℕ) (ps : List (List Item)) : Type 0 where
  pub target : Target
  pub count : ℕ
  pub upto : ℕ
  pub header : line_in t 0 ≡ Line.Contract target count
  pub spells : SpellsDeclarations (line_in t) Item whole_item count first_declaration ps upto

-- what stands at a position of a path, from the top; none if there is no such path or position
unfoldable pub item_at : {A : Type 0} → List (List A) → ℕ → ℕ → Option A
item_at ps path position = get_elem? (reverse (get_or ps path [])) position

-- an item, as the code has it
abbrev pub found : Option Item → StdOption Item
found none = None
found (some x) = Some x

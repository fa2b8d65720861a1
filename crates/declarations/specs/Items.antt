-- The T line and the declarations of a contract, as the code keeps them.
use Rattle.std.specs.Prelude.{ℕ, ◌+◌, ◌≤◌, ◌<◌, true, List, [], ◌≡◌, length, get_or}
use Rattle.ast.specs.Tree.{StackParam, Contract}
use Rattle.rows.specs.Rows.{line_in}
use Rattle.reader.specs.Ceilings.{max_declarations, max_items, within_ceilings}
use Rattle.reader.specs.Reading.{item}
use Rattle.reader.specs.Spells.{SpellsItems, SpellsBlock, SpellsContract}
use Rattle.nodes.specs.Stands.{Rows}
use Rattle.declarations.specs.declared.Declared.{Declared}
use Rattle.names.specs.declared.ItemRows.{ItemRows}

-- the rows of no items
abbrev pub no_items : ItemRows
no_items = record { first = 0; count = 0 }

-- the rows of the items of declaration p
abbrev pub item_rows : Declared → ℕ → ItemRows
item_rows d p = get_or d.items p no_items

-- a contract stands in the first n rows of a table, each within its ceilings
pub record ContractAt (s t : List ℕ) (n : ℕ) : Type 0 where
  pub contract : Contract
  pub spells : SpellsContract (line_in t) s contract n
  pub rows : Rows s t n
  pub fits : (k : ℕ) → k < n → within_ceilings (line_in t k) ≡ true

-- the items of declaration p stand in its rows, which end before row n
pub record Items (s t : List ℕ) (d : Declared) (c : Contract) (n p : ℕ) : Type 0 where
  pub spells : SpellsItems (line_in t) StackParam (item s) (item_rows d p).count (item_rows d p).first (get_or c.declarations p []) ((item_rows d p).first + (item_rows d p).count)
  pub few : (item_rows d p).count ≤ max_items
  pub within : (item_rows d p).first + (item_rows d p).count ≤ n

-- the declarations of the contract c, and where its block stands; the rows end before n
pub record DeclaredAs (s t : List ℕ) (d : Declared) (c : Contract) (n : ℕ) : Type 0 where
  pub target : d.target ≡ c.target
  pub count : d.count ≡ length c.declarations
  pub few : d.count ≤ max_declarations
  pub items : (p : ℕ) → p < d.count → Items s t d c n p
  pub block : SpellsBlock (line_in t) s d.block c.block n

-- the declarations of some contract that stands in n rows
pub record Given (s t : List ℕ) (d : Declared) : Type 0 where
  pub contract : Contract
  pub count : ℕ
  pub rows : Rows s t count
  pub declared : DeclaredAs s t d contract count

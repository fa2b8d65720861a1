-- What a function makes of the contract that a listing spells.
use Rattle.std.specs.Prelude.{ℕ, List, ◌≡◌}
use Rattle.std.specs.Borrow.{Bor}
use Rattle.std.specs.Fn.{Mut, Called}
use Rattle.ast.specs.Tree.{Contract}
use Rattle.rows.specs.Rows.{line_in}
use Rattle.rows.specs.declared.Rows.{Rows}
use Rattle.reader.specs.Spells.{SpellsContract}
use Rattle.rules.specs.Analyze.{analyze}
use Rattle.declarations.specs.declared.Declared.{Declared}
use Rattle.declarations.specs.Items.{ContractAt, DeclaredAs}
use Rattle.declarations.specs.Noted.{declared_in, Declares}
use Rattle.examiner.specs.Check.{examine}
use Rattle.examiner.specs.Name.{items}

-- a contract stands in n rows, and its declarations are noted
pub record Given (rows : Rows) (n : ℕ) (d : Declared) : Type 0 where
  pub stands : ContractAt rows.listing.now rows.table.now n
  pub noted : d ≡ declared_in (line_in rows.table.now)
  pub declared : (c : Contract) → SpellsContract (line_in rows.table.now) rows.listing.now c n → DeclaredAs rows.listing.now rows.table.now d c n

module _ {F T : Type 0} (g : Mut F (Bor Rows × (ℕ × (Declared × Unit {0}))) T) (f : F) (s : List ℕ) where
  -- f may be called on the rows of the listing s, whatever contract stands in them
  abbrev pub TakesRows : Type 0
  TakesRows = (rows : Bor Rows) (n : ℕ) (d : Declared) → rows.now.listing.now ≡ s → Given rows.now n d → g.pre f (rows, (n, (d, tt)))

  -- the listing is read: f may give r, and be left as f', on rows that spell the contract which is analyzed and declare its items
  pub record MadeOf (words : ℕ) (r : T) (f' : F) : Type 0 where
    pub rows : Bor Rows
    pub count : ℕ
    pub declared : Declared
    pub contract : Contract
    pub listing : rows.now.listing.now ≡ s
    pub given : Given rows.now count declared
    pub spells : SpellsContract (line_in rows.now.table.now) rows.now.listing.now contract count
    pub declares : Declares rows.now.table.now (items s)
    pub analyzed : examine s words ≡ analyze contract
    pub made : Called g f (rows, (count, (declared, tt))) r f'

-- analyze: flow 18, 19; count against declarations 20; 11; the statements; 14.
use Rattle.std.specs.Prelude.{ℕ, cond, List, [], ◌∷◌, eqb, length, Ok}
use Rattle.rules.specs.Ast.{Location, nowhere, Declaration, Contract, DeclarationPathMismatch}
use Rattle.rules.specs.Result.{Result, Checked, ◌>>=◌, ◌>>◌, refused}
use Rattle.rules.specs.Paths.{count}
use Rattle.rules.specs.Flow.{flow}
use Rattle.rules.specs.Table.{Table, build_all}
use Rattle.rules.specs.Walk.{Wait, Walked, walk}
use Rattle.rules.specs.Unused.{unused_all}

-- the first item of the first declaration, or 0,0,1,0
unfoldable pub first_item : List Declaration → Location
first_item [] = nowhere
first_item ([] ∷ ds) = nowhere
first_item ((p ∷ d) ∷ ds) = p.loc

-- as many declarations as paths, else 20 at the first item
unfoldable pub counted : ℕ → List Declaration → Checked
counted n ds = cond (eqb (length ds) n) (Ok tt) (refused DeclarationPathMismatch (first_item ds))

-- acceptance: each path's final table, and the waits in listing order
pub record Analysis : Type 0 where
  pub tables : List Table
  pub waits : List Wait

-- the walk begins on path 0 with no wait met
abbrev pub begin : List Table → Walked
begin ts = record { tables = ts; branch = 0; waits = [] }

-- acceptance, or the first fault
unfoldable pub analyze : Contract → Result Analysis
analyze c = do
  flow c.block
  counted (count c.block) c.declarations
  tables ← build_all c.declarations
  w ← walk c.block c.target (begin tables)
  unused_all w.tables
  Ok (record { tables = w.tables; waits = w.waits })

-- analyze_statement: the statements in order, over the list of tables, the number of the path and the waits met.
use Rattle.std.specs.Prelude.{ℕ, suc, List, [], ◌∷◌, ◌++◌, set, Ok}
use Rattle.std.proofs.Math.Option.{some, none}
use Rattle.std.proofs.Math.ListN.{get_elem?}
use Rattle.rules.specs.Ast.{Location, Target, Expression, Statement, Block, IfStatement, IfElseStatement, LocktimeStatement, VerifyStatement, ExpressionStatement, []ᵇ, ◌∷ᵇ◌, DeclarationPathMismatch}
use Rattle.rules.specs.Result.{Result, ◌>>=◌, ◌>>◌, refuse}
use Rattle.rules.specs.Table.{Table, params}
use Rattle.rules.specs.Usage.{usage}
use Rattle.rules.specs.Types.{truth}
use Rattle.rules.specs.Limits.{security, wait}
use Rattle.rules.specs.Transfer.{transfer}

-- a wait as it is met: its listing line, and the number that the script carries
pub record Wait : Type 0 where
  pub line : ℕ
  pub number : ℕ

-- the tables of all paths, the path whose table is in use, and the waits met so far, in listing order
pub record Walked : Type 0 where
  pub tables : List Table
  pub branch : ℕ
  pub waits : List Wait

-- the walk goes on with this table in use, or on this path with its table, or with one more wait
abbrev pub with_table : Walked → Table → Walked
with_table w t = record { tables = set w.tables w.branch t; branch = w.branch; waits = w.waits }

abbrev pub on_path : Walked → ℕ → Table → Walked
on_path w n t = record { tables = set w.tables n t; branch = n; waits = w.waits }

abbrev pub with_wait : Walked → ℕ → ℕ → Walked
with_wait w n k = record { tables = w.tables; branch = w.branch; waits = w.waits ++ (record { line = n; number = k } ∷ []) }

-- a verify, return or condition in its path's table: usage, then truth, then check_security
unfoldable pub examine : Target → Expression → Table → Result Table
examine g e t = do
  t' ← usage e t
  truth e g (params t')
  security e
  Ok t'

-- the table of path n; ensure_branch_in_range, which no contract meets once paths and declarations are counted alike: 20 at l
unfoldable pub table_at : Location → List Table → ℕ → Result Table
table_at l ts n = elim (get_elem? ts n) [ none ↦ refuse DeclarationPathMismatch l | some t ↦ Ok t ]

-- a verify, return or condition at l on the path in use
unfoldable pub examine_at : Target → Location → Expression → Walked → Result Table
examine_at g l e w = do
  t ← table_at l w.tables w.branch
  examine g e t

-- from the if-block, where the walk has come to w, to the next path, t being the table after the condition
unfoldable pub cross : Location → Table → Walked → Result Walked
cross l t w = do
  next ← table_at l w.tables (suc w.branch)
  next' ← transfer l t next
  Ok (on_path w (suc w.branch) next')

unfoldable mutual
  pub walk_statement : Statement → Target → Walked → Result Walked
  walk_statement (IfStatement l e b) g w = do
    t ← examine_at g l e w
    walk b g (with_table w t)
  walk_statement (IfElseStatement l e b c) g w = do
    t ← examine_at g l e w
    w₁ ← walk b g (with_table w t)
    w₂ ← cross l t w₁
    walk c g w₂
  walk_statement (LocktimeStatement l n o v) g w = do
    k ← wait l o v
    Ok (with_wait w n k)
  walk_statement (VerifyStatement l e) g w = do
    t ← examine_at g l e w
    Ok (with_table w t)
  walk_statement (ExpressionStatement l e) g w = do
    t ← examine_at g l e w
    Ok (with_table w t)

  pub walk : Block → Target → Walked → Result Walked
  walk []ᵇ g w = Ok w
  walk (s ∷ᵇ b) g w = do
    w' ← walk_statement s g w
    walk b g w'

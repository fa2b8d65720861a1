-- The text of a report.
use Rattle.std.specs.Prelude.{ℕ, suc, List, [], ◌∷◌, ◌++◌, length, Ok, Err}
use Rattle.std.proofs.Math.Option.{Option, some, none}
use Rattle.ast.specs.declared.CompileError.{CompileError}
use Rattle.ast.specs.Tree.{Name, StackParam, number}
use Rattle.ast.specs.Numbers.{type_number}
use Rattle.rules.specs.Result.{Result}
use Rattle.rules.specs.Table.{Entry, Table}
use Rattle.rules.specs.Walk.{Wait}
use Rattle.rules.specs.Analyze.{Analysis}
use Rattle.output.specs.Decimal.{decimal}

-- fields parted by commas, and byte 10
unfoldable pub fields : List (List ℕ) → List ℕ
fields [] = 10 ∷ []
fields (f ∷ fs) = 44 ∷ (f ++ fields fs)

-- a report line: its letter and its fields
unfoldable pub report_line : ℕ → List (List ℕ) → List ℕ
report_line letter fs = letter ∷ fields fs

-- taken or not, and the listing line that takes it
unfoldable pub taker : Option ℕ → List (List ℕ)
taker none = decimal 0 ∷ decimal 0 ∷ []
taker (some n) = decimal 1 ∷ decimal n ∷ []

-- a witness item as a line has it: its name, and the number of its type
pub record WitnessItem : Type 0 where
  pub name : Name
  pub ty : ℕ

abbrev pub item_of : StackParam → WitnessItem
item_of p = record { name = p.identifier; ty = type_number p.ty }

-- P,position,type,taken,listing line that takes it,name
unfoldable pub item_line : ℕ → Entry → List ℕ
item_line k e = let x = item_of e.param in report_line 80 (decimal k ∷ decimal x.ty ∷ (taker e.taken ++ x.name ∷ []))

-- the items of a path from the top, k being the first position
unfoldable pub item_lines : ℕ → Table → List ℕ
item_lines k [] = []
item_lines k (e ∷ t) = item_line k e ++ item_lines (suc k) t

-- D,path,count and the path's items
unfoldable pub path_line : ℕ → Table → List ℕ
path_line n t = report_line 68 (decimal n ∷ decimal (length t) ∷ []) ++ item_lines 0 t

-- path by path, n being the first
unfoldable pub path_lines : ℕ → List Table → List ℕ
path_lines n [] = []
path_lines n (t ∷ ts) = path_line n t ++ path_lines (suc n) ts

-- W,listing line,number that the script carries
unfoldable pub wait_line : Wait → List ℕ
wait_line w = report_line 87 (decimal w.line ∷ decimal w.number ∷ [])

-- wait by wait, in listing order
unfoldable pub wait_lines : List Wait → List ℕ
wait_lines [] = []
wait_lines (w ∷ ws) = wait_line w ++ wait_lines ws

-- A,paths, each path, and after the last one each wait
unfoldable pub acceptance : Analysis → List ℕ
acceptance a = report_line 65 (decimal (length a.tables) ∷ []) ++ (path_lines 0 a.tables ++ wait_lines a.waits)

-- R,number,start,end,line,column
unfoldable pub refusal : CompileError → List ℕ
refusal x = report_line 82 (decimal (number x.kind) ∷ decimal x.loc.start ∷ decimal x.loc.end ∷ decimal x.loc.line ∷ decimal x.loc.column ∷ [])

-- the report of what was found
unfoldable pub text_of : Result Analysis → List ℕ
text_of (Ok a) = acceptance a
text_of (Err x) = refusal x

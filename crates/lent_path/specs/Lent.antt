-- What is asked of a path in the caller's memory, and what is left there.
use Rattle.std.specs.Prelude.{ℕ, suc, false, cond, ◌&&◌, Some, None, Ok, Err, List, ◌≡◌}
use Rattle.ast.specs.declared.CompileError.{CompileError}
use Rattle.ast.specs.declared.ErrorKind.TheVariants.{UnexpectedLine}
use Rattle.ast.specs.Tree.{unplaced, number}
use Rattle.text.specs.Text.{part}
use Rattle.rules.specs.Result.{Result, refuse}
use Rattle.rules.specs.Table.{Table}
use Rattle.rules.specs.Usage.{take}
use Rattle.rules.specs.Transfer.{transfer}
use Rattle.paths.specs.declared.Path.{Path}
use Rattle.paths.specs.Path.{table_of, WellFormed, SameItems}
use Rattle.lent_path.specs.declared.Answered.{Answered}
use Rattle.lent_path.specs.Rows.{is_path, variable_in, if_in}

-- 0 and no location, or the refusal's number and location
unfoldable pub answered : {A : Type 0} → Result A → Answered
answered (Ok a) = record { number = 0; start = 0; end = 0; line = 0; column = 0 }
answered (Err x) = record { number = number x.kind; start = x.loc.start; end = x.loc.end; line = x.loc.line; column = x.loc.column }

-- the table after a rule: the rule's, or after a refusal the one before
unfoldable pub table_after : Result Table → Table → Table
table_after (Ok t') t = t'
table_after (Err x) t = t

-- no path of these rows, or no row of that kind: 3, nowhere
abbrev pub unfit : Result Table
unfit = refuse UnexpectedLine unplaced

-- the variable of row i is taken from the path's table by the listing line suc i
unfoldable pub take_at : List ℕ → List ℕ → ℕ → Path → Result Table
take_at s t i p = cond (is_path s t p) (elim (variable_in s t i) [ Some (w, x) ↦ take false w (suc i) (part s x) (table_of s t p) | None ↦ unfit ]) unfit

-- what is taken in the first path's table at row i's if is taken in the second's
unfoldable pub transfer_at : List ℕ → List ℕ → ℕ → Path → Path → Result Table
transfer_at s t i p q = cond (is_path s t p && is_path s t q) (elim (if_in t i) [ Some w ↦ transfer w (table_of s t p) (table_of s t q) | None ↦ unfit ]) unfit

-- the path p after the rule's result w: the answer r, and the path q that is left; it has the same items, the lines of those taken are the table's and the others as they were, and after a refusal it is p
pub record Kept (s t : List ℕ) (p : Path) (w : Result Table) (r : Answered) (q : Path) : Type 0 where
  pub answer : r ≡ answered w
  pub table : table_of s t q ≡ table_after w (table_of s t p)
  pub items : SameItems p q
  pub sound : WellFormed s t p → WellFormed s t q
  pub refused : (x : CompileError) → w ≡ Err x → q ≡ p

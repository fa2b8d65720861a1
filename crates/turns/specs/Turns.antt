-- A turn on the items that rows declare: the three operations in one.
use Rattle.std.specs.Prelude.{ℕ, suc, Bool, true, false, List, ltb, ◌≡◌, Ok, Err}
use Rattle.std.proofs.Math.Option.{Option, some, none}
use Rattle.ast.specs.Tree.{StackParam}
use Rattle.rows.specs.Rows.{line_in}
use Rattle.reader.specs.Reading.{item}
use Rattle.reporting.specs.Text.{WitnessItem, item_of}
use Rattle.names.specs.declared.Item.{Item}
use Rattle.declarations.specs.declared.Declared.{Declared}
use Rattle.declarations.specs.Items.{ContractAt}
use Rattle.declarations.specs.Noted.{declared_in, item_at}
use Rattle.rules.specs.Result.{Checked, both}
use Rattle.turns.specs.declared.Rehearsal.{Rehearsal}
use Rattle.turns.specs.declared.Rehearsed.{Rehearsed}
use Rattle.turns.specs.declared.Rehearsed.TheVariants.{Due, Ended, Refused}
use Rattle.turns.specs.declared.Turn.{Turn}
use Rattle.turns.specs.declared.Turn.TheVariants.{Open, Lay, TakeBack}
use Rattle.turns.specs.State.{no_such_path, not_due, onward, beginning, lowered, same_item}

-- an item that is looked up, as its declaration has it
abbrev pub param_of : List ℕ → Item → StackParam
param_of s x = item s x.loc x.ty x.name

-- what is due, from the item at the position due
unfoldable pub due_of : Rehearsal → Option Item → Rehearsed
due_of r none = Ended r
due_of r (some x) = Due x.name x.ty r

-- at a rehearsal's position of the items ps
abbrev pub due_in : List (List Item) → Rehearsal → Rehearsed
due_in ps r = due_of r (item_at ps r.path r.due)

-- whether x is that item
unfoldable pub is_item : List ℕ → WitnessItem → Option Item → Bool
is_item s x none = false
is_item s x (some y) = same_item x (item_of (param_of s y))

-- x laid there
unfoldable pub lay_in : List ℕ → List (List Item) → Rehearsal → WitnessItem → Rehearsed
lay_in s ps r x = elim (is_item s x (item_at ps r.path r.due)) [ true ↦ due_in ps (onward r.path (suc r.due)) | false ↦ Refused not_due ]

-- a turn
unfoldable pub turn_in : List ℕ → List (List Item) → Rehearsal → Turn → Rehearsed
turn_in s ps r Open = due_in ps (onward r.path (beginning s))
turn_in s ps r (Lay x t) = lay_in s ps r (record { name = x.now; ty = t })
turn_in s ps r TakeBack = due_in ps (onward r.path (lowered (beginning s) r.due))

-- whether a path is one of so many: 31 if it is not
unfoldable pub check_path : ℕ → ℕ → Checked
check_path count path = elim (ltb path count) [ true ↦ Ok tt | false ↦ Err no_such_path ]

-- a turn after its tests
unfoldable pub turn_by : Checked → Rehearsed → Rehearsed
turn_by (Err x) a = Refused x
turn_by (Ok _) a = a

-- Check's answer, then 31: the first refusal
abbrev pub tests : Checked → ℕ → Rehearsal → Checked
tests c count r = both c (check_path count r.path)

-- a contract stands in rows, and d is what they say of its declarations
pub record RowsAt (s t : List ℕ) (d : Declared) : Type 0 where
  pub noted : d ≡ declared_in (line_in t)
  pub count : ℕ
  pub contract : ContractAt s t count

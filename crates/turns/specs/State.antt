-- A rehearsal: its path and the position due, and what is said of the items laid.
use Rattle.std.specs.Prelude.{ℕ, ◌+◌, ◌-◌, ◌≤◌, Bool, true, false, ◌&&◌, List, ◌≡◌, eqb, ltb, length}
use Rattle.ast.specs.declared.CompileError.{CompileError}
use Rattle.ast.specs.declared.ErrorKind.TheVariants.{NoSuchPath, NotDue}
use Rattle.ast.specs.declared.Type.{«Type» as ItemType}
use Rattle.ast.specs.Tree.{same, unplaced, fault}
use Rattle.text.specs.declared.Place.{Place}
use Rattle.reader.specs.Ceilings.{max_bytes}
use Rattle.reporting.specs.Text.{WitnessItem}
use Rattle.turns.specs.declared.Rehearsal.{Rehearsal}
use Rattle.turns.specs.declared.Rehearsed.{Rehearsed}
use Rattle.turns.specs.declared.Rehearsed.TheVariants.{Due}

-- 31 and 32: at 0,0,0,0
abbrev pub no_such_path : CompileError
no_such_path = fault NoSuchPath unplaced

abbrev pub not_due : CompileError
not_due = fault NotDue unplaced

-- a rehearsal of a path at a position
abbrev pub onward : ℕ → ℕ → Rehearsal
onward path due = record { path = path; due = due }

-- the position where a rehearsal begins, from 0 at the top
unfoldable pub beginning : List ℕ → ℕ
beginning s = 0

-- one position less, unless it is the beginning or above it
unfoldable pub lowered : ℕ → ℕ → ℕ
lowered begin due = elim (ltb begin due) [ true ↦ due - 1 | false ↦ due ]

-- the same in name and type; a number that is no type's is that of no report line
unfoldable pub same_item : WitnessItem → WitnessItem → Bool
same_item x y = same x.name y.name && eqb x.ty y.ty

-- the place of an item due lies in the listing, and within a listing's ceiling
abbrev pub DueInside : List ℕ → Rehearsed → Type 0
DueInside s a = (p : Place) (t : ItemType) (r : Rehearsal) → a ≡ Due p t r → (p.at + p.len ≤ length s) × (p.at + p.len ≤ max_bytes)

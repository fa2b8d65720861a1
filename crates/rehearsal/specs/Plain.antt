-- A plain machine that says what a rehearsal means: its state is the list of items laid, first laid first.
use Rattle.std.specs.Prelude.{Bool, true, false, ◌&&◌}
use mathlib.Core.List.{List, [], ◌∷◌, ◌++◌, drop_last}
use Rattle.ast.specs.declared.CompileError.{CompileError}
use Rattle.reporting.specs.Text.{WitnessItem}
use Rattle.turns.specs.State.{same_item, not_due}

-- what is said to the owner: the item due, that the rehearsal has ended, or a refusal
pub data Said : Type 0 where
  due : WitnessItem → Said
  ended : Said
  refused : CompileError → Said

-- whether the items laid are a beginning of a path's report lines
unfoldable pub begins : List WitnessItem → List WitnessItem → Bool
begins [] lines = true
begins (x ∷ xs) [] = false
begins (x ∷ xs) (y ∷ lines) = same_item x y && begins xs lines

-- the line after the items laid is due; ended when the items laid are all of them
unfoldable pub next : List WitnessItem → List WitnessItem → Said
next [] xs = ended
next (y ∷ lines) [] = due y
next (y ∷ lines) (x ∷ xs) = next lines xs

-- what the owner asks: to lay an item, or to take the last one back
pub data Ask : Type 0 where
  lay : WitnessItem → Ask
  take_back : Ask

-- the items laid then, and what is said
pub record Step : Type 0 where
  pub items : List WitnessItem
  pub said : Said

abbrev pub stay : List WitnessItem → CompileError → Step
stay xs x = record { items = xs; said = refused x }

abbrev pub move : List WitnessItem → List WitnessItem → Step
move lines xs = record { items = xs; said = next lines xs }

-- laying appends where the result is a beginning of the lines, and is refused otherwise; taking back drops the last
unfoldable pub asked : List WitnessItem → List WitnessItem → Ask → Step
asked lines xs (lay x) = elim (begins (xs ++ (x ∷ [])) lines) [ true ↦ move lines (xs ++ (x ∷ [])) | false ↦ stay xs not_due ]
asked lines xs take_back = move lines (drop_last xs)

-- Rehearsing a witness: open, lay and take back, on every listing, word count and rehearsal.
use Rattle.std.specs.Prelude.{ℕ, suc, Bool, true, false, List, Ok, Err}
use Rattle.std.proofs.Math.Option.{Option, some, none}
use Rattle.std.proofs.Math.ListN.{get_elem?}
use Rattle.ast.specs.Tree.{StackParam}
use Rattle.rules.specs.Result.{Result}
use Rattle.rules.specs.Table.{Table, params}
use Rattle.rules.specs.Analyze.{Analysis}
use Rattle.reporting.specs.Text.{WitnessItem, item_of}
use Rattle.examiner.specs.Check.{examine}
use Rattle.examiner.specs.Name.{item_at, name_of, place_or}
use Rattle.turns.specs.declared.Rehearsal.{Rehearsal}
use Rattle.turns.specs.declared.Rehearsed.{Rehearsed}
use Rattle.turns.specs.declared.Rehearsed.TheVariants.{Due, Ended, Refused}
use Rattle.turns.specs.State.{no_such_path, not_due, onward, beginning, lowered, same_item}

-- the item due: where its name stands, as Name has it, and its type; ended if there is none
unfoldable pub shown_of : List ℕ → Rehearsal → Option StackParam → Rehearsed
shown_of s r none = Ended r
shown_of s r (some p) = Due (place_or (name_of (item_at s r.path r.due))) p.ty r

-- of a path's items, from the top
unfoldable pub shown : List ℕ → Rehearsal → List StackParam → Rehearsed
shown s r ps = shown_of s r (get_elem? ps r.due)

-- 31 if the path does not exist; else by the items of its table, from which Report prints
unfoldable pub on_table : (List StackParam → Rehearsed) → Option Table → Rehearsed
on_table f none = Refused no_such_path
on_table f (some t) = f (params t)

-- the tests of every operation: Check's answer, then 31
unfoldable pub on_tables : ℕ → (List StackParam → Rehearsed) → Result Analysis → Rehearsed
on_tables path f (Err x) = Refused x
on_tables path f (Ok a) = on_table f (get_elem? a.tables path)

unfoldable pub on_path : List ℕ → ℕ → ℕ → (List StackParam → Rehearsed) → Rehearsed
on_path s words path f = on_tables path f (examine s words)

-- open (listing, work, path)
unfoldable pub opened : List ℕ → ℕ → ℕ → Rehearsed
opened s words path = on_path s words path (shown s (onward path (beginning s)))

-- whether an item is due, and x is that item
unfoldable pub is_due : WitnessItem → Option StackParam → Bool
is_due x none = false
is_due x (some p) = same_item x (item_of p)

-- lay (listing, work, rehearsal, name and type): the following item if they are those of the item due, else 32
unfoldable pub lay_on : List ℕ → Rehearsal → WitnessItem → List StackParam → Rehearsed
lay_on s r x ps = elim (is_due x (get_elem? ps r.due)) [
  | true ↦ shown s (onward r.path (suc r.due)) ps
  | false ↦ Refused not_due
]

unfoldable pub laid : List ℕ → ℕ → Rehearsal → WitnessItem → Rehearsed
laid s words r x = on_path s words r.path (lay_on s r x)

-- take back (listing, work, rehearsal): the item laid last is due again; at the beginning nothing is altered
unfoldable pub taken_back : List ℕ → ℕ → Rehearsal → Rehearsed
taken_back s words r = on_path s words r.path (shown s (onward r.path (lowered (beginning s) r.due)))

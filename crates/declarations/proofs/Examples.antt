-- What is noted of two declarations with equal items, computed: each has rows of its own.
use Prim.Native.Nat.{ℕ, ◌-◌}
use mathlib.Core.List.{List, [], ◌∷◌, ◌++◌}
use mathlib.Core.Path.{◌≡◌, refl}
use lib.ListN.{length, get_or, replicate}
use Rattle.ast.specs.declared.Target.TheVariants.{Segwit}
use Rattle.ast.specs.declared.Type.TheVariants.{Boolean}
use Rattle.ast.specs.Tree.{unplaced}
use Rattle.listing.specs.declared.Line.{Line}
use Rattle.reader.specs.Ceilings.{max_declarations}
use Rattle.names.specs.declared.ItemRows.{ItemRows}
use Rattle.declarations.specs.Items.{no_items}
use Rattle.declarations.specs.Noted.{head_of, items_said, after_items, row_past, noted, declared_by, declared_in}

abbrev same : Line
same = Line.StackParam unplaced Boolean (record { at = 20; len = 1 })

abbrev lines : List Line
lines = Line.Contract Segwit 3 ∷ Line.Declaration 2 ∷ same ∷ same ∷ Line.Declaration 0 ∷ Line.Declaration 2 ∷ same ∷ same ∷ Line.Block 1 ∷ []

abbrev padded : List ItemRows → List ItemRows
padded xs = xs ++ replicate (max_declarations - length xs) no_items

abbrev rows : ℕ → ℕ → ItemRows
rows i n = record { first = i; count = n }

three : declared_in (λ k. get_or lines k (Line.Block 0)) ≡ record { target = Segwit; count = 3; items = padded (rows 2 2 ∷ rows 5 0 ∷ rows 6 2 ∷ []); block = 8 }
unfolding head_of items_said after_items row_past noted declared_by
three = refl

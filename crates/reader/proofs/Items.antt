-- Lines that spell items and declarations, whatever is kept of each item.
use Prim.Native.Nat.{ℕ, suc, ◌+◌}
use native.Mathlib.Omega.{arith}
use mathlib.Core.List.{List}
use mathlib.Core.Path.{◌≡◌, refl, ap}
use lib.ListN.{length}
use Rattle.reader.specs.Ast.{Location, ItemType, Place, Line}
use Rattle.reader.specs.Spells.{SpellsItems, SpellsDeclarations}

module _ {L : ℕ → Line} {A : Type 0} {make : Location → ItemType → Place → A} where
  -- items stand on one line each
  pub items-end : {n i j : ℕ} {d : List A} → SpellsItems L A make n i d j → j ≡ i + n
  items-end SpellsItems.nil = omega arith
  items-end (SpellsItems.cons q r u) = omega (arith, items-end u)

  pub items-count : {n i j : ℕ} {d : List A} → SpellsItems L A make n i d j → length d ≡ n
  items-count SpellsItems.nil = refl
  items-count (SpellsItems.cons q r u) = ap suc (items-count u)

  pub declarations-count : {n i j : ℕ} {ds : List (List A)} → SpellsDeclarations L A make n i ds j → length ds ≡ n
  declarations-count SpellsDeclarations.nil = refl
  declarations-count (SpellsDeclarations.cons q u v) = ap suc (declarations-count v)

-- The items that no line took, from the bottom up.
use Prim.Native.Nat.{ℕ, zero, suc, ◌-◌, ◌≤◌, ◌<◌}
use native.Mathlib.Omega.{arith}
use mathlib.Core.Bool.{true, false}
use mathlib.Core.List.{List, [], ◌∷◌}
use mathlib.Core.Option.{some}
use mathlib.Core.Path.{◌≡◌, ap, ◌∙◌}
use lib.ListN.{get_or, drop, get_elem?, drop_of_length-le}
use Rattle.std.specs.Prelude.{Ok, Err}
use Rattle.ast.specs.declared.CompileError.{CompileError}
use Rattle.ast.specs.declared.ErrorKind.TheVariants.{UnusedVariable}
use Rattle.ast.specs.Tree.{fault}
use Rattle.rows.specs.Rows.{line_in}
use Rattle.rules.specs.Table.{Table}
use Rattle.rules.specs.Unused.{used, unused}
use Rattle.names.specs.declared.Item.{Item}
use Rattle.names.specs.Items.{line_of}
use Rattle.names.proofs.Laws.{item-is}
use Rattle.paths.specs.declared.Path.{Path}
use Rattle.taken.specs.Taken.{is_taken}
use Rattle.paths.specs.Path.{taken_by, table_of, no_place, WellFormed}
use Rattle.taken.proofs.Bits.{taken-bit, free-bit}
use Rattle.paths.proofs.Tables.{table-length, entry_at, entry-at}

pub drop_at : {A : Type 0} (l : List A) (k : ℕ) {a : A} → get_elem? l k ≡ some a → drop k l ≡ a ∷ drop (suc k) l
drop_at [] k h = cc
drop_at (x ∷ l) zero {a} h = let e : x ≡ a = cc in rw e
drop_at (x ∷ l) (suc k) h = drop_at l k h

-- a fault below is the table's
unused-below : (tb : Table) (k : ℕ) {x : CompileError} → unused (drop k tb) ≡ Err x → unused tb ≡ Err x
unfolding unused
unused-below tb zero h = h
unused-below [] (suc k) h = h
unused-below (e ∷ tb) (suc k) h = rw (unused-below tb k h)

module _ {s t : List ℕ} {p : Path} (w : WellFormed s t p) where
  pub unused-none : unused (drop p.count (table_of s t p)) ≡ Ok tt
  unfolding unused table_of
  unused-none = rw (drop_of_length-le (table_of s t p) (table-length s t p.places p.taken p.count))

  -- the item at position n - 1, those below being taken
  module _ {n : ℕ} (pos : 0 < n) (le : n ≤ p.count) (rest : unused (drop n (table_of s t p)) ≡ Ok tt) where
    at : drop (n - 1) (table_of s t p) ≡ entry_at s t p.places p.taken (n - 1) ∷ drop n (table_of s t p)
    unfolding table_of
    at =
        let e : suc (n - 1) ≡ n = omega arith in
        drop_at (table_of s t p) (n - 1) (entry-at s t p.places p.taken p.count (n - 1) (omega arith) (omega (arith, w.full, w.few)))
        ∙ ap (λ m. entry_at s t p.places p.taken (n - 1) ∷ drop m (table_of s t p)) e

    pub unused-taken : is_taken p.taken (n - 1) ≡ true → unused (drop (n - 1) (table_of s t p)) ≡ Ok tt
    unfolding unused used entry_at taken_by
    unused-taken b = rw (at, rest, taken-bit p.taken (n - 1) b)

    pub unused-free : is_taken p.taken (n - 1) ≡ false → (it : Item) → line_in t (get_or p.places (n - 1) no_place).row ≡ line_of it → unused (table_of s t p) ≡ Err (fault UnusedVariable it.loc)
    unfolding unused used entry_at taken_by
    unused-free b it is = unused-below (table_of s t p) (n - 1) (rw (at, rest, free-bit p.taken (n - 1) b) (ap (λ y. Err (fault UnusedVariable y.loc)) (item-is s t (get_or p.places (n - 1) no_place).row it is)))

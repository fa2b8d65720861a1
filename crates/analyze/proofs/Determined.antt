-- What the contract of `analyze` leaves open after an acceptance: nothing. Two results for the same declarations and tables are equal, word for word.
use Prim.Native.Nat.{ℕ, ◌+◌, ◌≤◌, ◌<◌}
use native.Mathlib.Omega.{arith}
use mathlib.Core.Bool.{Bool, true, false}
use mathlib.Core.List.{List}
use mathlib.Core.Option.{some}
use mathlib.Core.Path.{◌≡◌, refl, sym, ap, ◌∙◌}
use borrow.Author.Tests.{ltb-true, ltb-false}
use lib.Dec.{ltb}
use lib.ListN.{get_elem?, get_or-eq_default}
use Rattle.std.specs.Prelude.{Ok}
use Rattle.rules.proofs.Basics.{Ok-injective}
use Rattle.rules.specs.Table.{Table}
use Rattle.paths.specs.declared.Path.{Path}
use Rattle.paths.specs.Path.{table_of}
use Rattle.declarations.specs.declared.Declared.{Declared}
use Rattle.declarations.specs.Items.{item_rows}
use Rattle.tables.specs.State.{path_at, tables_of, Ready, Answered}
use Rattle.tables.proofs.State.{enough, table-at, path-count}
use Rattle.tables.proofs.Determined.{by-position, whole}

pub tables-are : {s t : List ℕ} {d : Declared} {ts : List Table} {paths : List Path} → Answered s t d (Ok ts) (Ok paths) → tables_of s t d paths ≡ ts
tables-are a = Ok-injective a.result

module _ {s t : List ℕ} {d : Declared} {ts : List Table} {paths paths' : List Path} (a : Answered s t d (Ok ts) (Ok paths)) (b : Answered s t d (Ok ts) (Ok paths')) where
  r : Ready s t d paths
  r = a.ready paths refl

  r' : Ready s t d paths'
  r' = b.ready paths' refl

  same-path : (k : ℕ) → k < d.count → path_at paths k ≡ path_at paths' k
  same-path k h =
      let p = r.each k h in
      let p' = r'.each k h in
      let e : some (table_of s t (path_at paths k)) ≡ some (table_of s t (path_at paths' k)) = sym (table-at s t d paths (enough r) k h) ∙ ap (λ l. get_elem? l k) (tables-are a ∙ sym (tables-are b)) ∙ table-at s t d paths' (enough r') k h in
      let f : table_of s t (path_at paths k) ≡ table_of s t (path_at paths' k) = cc in
      let counts : (path_at paths k).count ≡ (path_at paths' k).count = path-count s t (path_at paths k) (item_rows d k).first (item_rows d k).count p.formed p.same ∙ sym (path-count s t (path_at paths' k) (item_rows d k).first (item_rows d k).count p'.formed p'.same) in
      whole s t ((item_rows d k).first + (item_rows d k).count) (path_at paths k) (path_at paths' k) p.formed p'.formed p.placed p'.placed counts f

  pub all_said : paths ≡ paths'
  all_said = by-position _ paths paths' (r.full ∙ sym r'.full) (λ k. at k (ltb k d.count) refl)
    where
      past : (k : ℕ) → d.count ≤ k → (u : Bool) → ltb k 32 ≡ u → path_at paths k ≡ path_at paths' k
      past k i true e = let j = ltb-true k 32 e in r.past k i j ∙ sym (r'.past k i j)
      past k i false e = let j = ltb-false k 32 e in get_or-eq_default paths _ (omega (arith, r.full)) ∙ sym (get_or-eq_default paths' _ (omega (arith, r'.full)))

      at : (k : ℕ) → (u : Bool) → ltb k d.count ≡ u → path_at paths k ≡ path_at paths' k
      at k true e = same-path k (ltb-true k d.count e)
      at k false e = past k (ltb-false k d.count e) (ltb k 32) refl

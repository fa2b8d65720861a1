-- Items left over, path by path.
use Prim.Native.Nat.{ℕ, zero, suc, ◌+◌, ◌≤◌, ◌<◌}
use native.Mathlib.Numerals.{add-one}
use native.Mathlib.Omega.{arith}
use mathlib.Core.List.{List, [], ◌∷◌}
use mathlib.Core.Option.{some}
use mathlib.Core.Path.{◌≡◌, sym, ap, ◌∙◌}
use lib.ListN.{length, take, drop, get_elem?, drop_of_length-le}
use Rattle.std.proofs.lemmas.List.{get_or-take, length-take-le}
use Rattle.std.specs.Prelude.{Ok, Err, IsErrAnd}
use Rattle.std.proofs.lemmas.Result.{err_from_is_err_and}
use Rattle.ast.specs.declared.CompileError.{CompileError}
use Rattle.rules.specs.Result.{Checked}
use Rattle.rules.specs.Unused.{unused, unused_all}
use Rattle.paths.specs.declared.Path.{Path}
use Rattle.paths.specs.Path.{table_of, WellFormed}
use Rattle.declarations.specs.declared.Declared.{Declared}
use Rattle.tables.specs.State.{path_at, tables_of, Ready}
use Rattle.tables.proofs.State.{enough, table-at, tables-length}

drop-element : {A : Type 0} (xs : List A) (i : ℕ) {x : A} → get_elem? xs i ≡ some x → drop i xs ≡ x ∷ drop (suc i) xs
drop-element [] i h = cc
drop-element (y ∷ xs) zero h = let e : y ≡ _ = cc in ap (λ z. z ∷ xs) e
drop-element (y ∷ xs) (suc i) h = drop-element xs i h

module _ {s t : List ℕ} {d : Declared} {paths : List Path} (r : Ready s t d paths) where
  -- what is left to ask from path p on
  abbrev pub Left : ℕ → Checked
  Left p = unused_all (drop p (tables_of s t d paths))

  few : length (take d.count paths) ≡ d.count
  few = length-take-le d.count paths (enough r)

  module _ {p : ℕ} (more : p < length (take d.count paths)) where
    here : path_at (take d.count paths) p ≡ path_at paths p
    here = get_or-take d.count paths p _ (omega (arith, more, few))

    pub formed-here : WellFormed s t (path_at (take d.count paths) p)
    formed-here = rw here (r.each p (omega (arith, more, few))).formed

    module _ {c : Checked} (asked : c ≡ unused (table_of s t (path_at (take d.count paths) p))) where
      split : Left p ≡ unused_all (table_of s t (path_at paths p) ∷ drop (p + 1) (tables_of s t d paths))
      split = ap unused_all (drop-element (tables_of s t d paths) p (table-at s t d paths (enough r) p (omega (arith, more, few))) ∙ rw add-one)

      first : {x : Checked} → c ≡ x → unused (table_of s t (path_at paths p)) ≡ x
      first q = sym (asked ∙ rw here) ∙ q

      pub left-err : {x : CompileError} → c ≡ Err x → {e : Checked} → IsErrAnd e (λ y. y ≡ x) → e ≡ Left p
      unfolding unused_all
      left-err q {e} h = let (y, k, l) = err_from_is_err_and e h in k ∙ ap Err l ∙ sym (split ∙ rw (first q, unused_all))

      pub left-ok : c ≡ Ok tt → Left (p + 1) ≡ Left p
      unfolding unused_all
      left-ok q = sym (split ∙ rw (first q, unused_all))

  pub left-none : {p : ℕ} → length (take d.count paths) ≤ p → Ok tt ≡ Left p
  unfolding unused_all
  left-none {p} h = rw (drop_of_length-le (tables_of s t d paths) {i = p} (omega (arith, h, few, tables-length s t d paths (enough r))), unused_all)

-- The tables of all paths, one by one.
use Prim.Native.Nat.{ℕ, zero, suc, ◌/◌, ◌≤◌, ◌<◌}
use native.Mathlib.Omega.{arith}
use mathlib.Core.Bool.{Bool, true, false}
use mathlib.Core.List.{List, [], ◌∷◌, map}
use mathlib.Core.Option.{some, none}
use mathlib.Core.Path.{◌≡◌, refl, sym, ap, ◌∙◌, subst}
use borrow.Author.Tests.{eqb-true, eqb-false}
use lib.Dec.{eqb}
use lib.ListN.{length, get_or, set, take, get_elem?, length-set, get_or-map}
use Rattle.std.proofs.lemmas.List.{map-set, get_or-take, length-take-le, get_or-set_same, get_or-set_other}
use Rattle.std.proofs.Math.Seq.{take-set-lt}
use Rattle.rules.specs.Table.{params}
use Rattle.paths.specs.declared.NamePlace.{NamePlace}
use Rattle.paths.specs.declared.Path.{Path}
use Rattle.names.specs.Items.{items_down}
use Rattle.paths.specs.Path.{table_from, table_of, WellFormed}
use Rattle.declarations.specs.declared.Declared.{Declared}
use Rattle.tables.specs.State.{path_at, tables_of, ReadyAt, InUse, Ready}

-- what stands past a list's end
abbrev pub past_end : Path
past_end = record { places = []; count = 0; taken = 0 }

-- a path has as many entries as items
entries : (s t : List ℕ) (qs : List NamePlace) (x n : ℕ) → n ≤ length qs → length (table_from s t qs x n) ≡ n
unfolding table_from
entries s t [] x n h = omega arith
entries s t (q ∷ qs) x zero h = refl
entries s t (q ∷ qs) x (suc n) h = ap suc (entries s t qs (x / 2) n (omega arith))

length-map : {A B : Type 0} (f : A → B) (l : List A) → length (map f l) ≡ length l
length-map f [] = refl
length-map f (x ∷ l) = ap suc (length-map f l)

length-down : (s t : List ℕ) (i n : ℕ) → length (items_down s t i n) ≡ n
unfolding items_down
length-down s t i zero = refl
length-down s t i (suc n) = ap suc (length-down s t i n)

pub path-count : (s t : List ℕ) (p : Path) (first n : ℕ) → WellFormed s t p → params (table_of s t p) ≡ items_down s t first n → p.count ≡ n
unfolding table_of
path-count s t p first n w e = sym (entries s t p.places p.taken p.count (omega (arith, w.full, w.few))) ∙ sym (length-map (λ x. x.param) (table_of s t p)) ∙ ap length e ∙ length-down s t first n

-- an element of a list that is there, or not
pub element-set : {A : Type 0} (xs : List A) (i : ℕ) (v y : A) → get_elem? xs i ≡ some y → get_elem? (set xs i v) i ≡ some v
element-set [] i v y h = let z : ◌≡◌ {A = ℕ} 0 1 = cc in absurd (omega arith)
element-set (x ∷ xs) zero v y h = refl
element-set (x ∷ xs) (suc i) v y h = element-set xs i v y h

pub set_there : {A : Type 0} (xs : List A) (i : ℕ) (y : A) → get_elem? xs i ≡ some y → set xs i y ≡ xs
set_there [] i y h = refl
set_there (x ∷ xs) zero y h = let e : x ≡ y = cc in ap (λ z. z ∷ xs) (sym e)
set_there (x ∷ xs) (suc i) y h = ap (λ l. x ∷ l) (set_there xs i y h)

element : {A : Type 0} (xs : List A) (i : ℕ) (d : A) → i < length xs → get_elem? xs i ≡ some (get_or xs i d)
element [] i d h = absurd (omega arith)
element (x ∷ xs) zero d h = refl
element (x ∷ xs) (suc i) d h = element xs i d (omega arith)

no-element : {A : Type 0} (xs : List A) (i : ℕ) → length xs ≤ i → get_elem? xs i ≡ none
no-element [] i h = refl
no-element (x ∷ xs) zero h = absurd (omega arith)
no-element (x ∷ xs) (suc i) h = no-element xs i (omega arith)

pub enough : {s t : List ℕ} {d : Declared} {paths : List Path} → Ready s t d paths → d.count ≤ length paths
enough r = omega (arith, r.full, r.few)

pub in_use : {s t : List ℕ} {d : Declared} {paths : List Path} (n : ℕ) → Ready s t d paths → InUse s t d n paths
in_use n r = (enough r, r.each n)

module _ (s t : List ℕ) (d : Declared) (paths : List Path) (full : d.count ≤ length paths) where
  pub tables-length : length (tables_of s t d paths) ≡ d.count
  tables-length = length-map (table_of s t) (take d.count paths) ∙ length-take-le d.count paths full

  -- the table of path p, and of none past the last
  pub table-at : (p : ℕ) → p < d.count → get_elem? (tables_of s t d paths) p ≡ some (table_of s t (path_at paths p))
  table-at p h =
      element (tables_of s t d paths) p (table_of s t past_end) (omega (arith, tables-length)) ∙
      ap some (get_or-map (table_of s t) (take d.count paths) p past_end ∙ ap (table_of s t) (get_or-take d.count paths p past_end h))

  pub table-past : (p : ℕ) → d.count ≤ p → get_elem? (tables_of s t d paths) p ≡ none
  table-past p h = no-element (tables_of s t d paths) p (omega (arith, tables-length))

  -- another path in the place of one
  module _ {q : ℕ} (within : q < d.count) (p : Path) where
    pub tables-set : tables_of s t d (set paths q p) ≡ set (tables_of s t d paths) q (table_of s t p)
    tables-set = ap (map (table_of s t)) (take-set-lt d.count paths q p within) ∙ map-set (table_of s t) (take d.count paths) q p

-- and all can still be used if it can
module _ {s t : List ℕ} {d : Declared} {paths : List Path} (r : Ready s t d paths) {q : ℕ} (within : q < d.count) (p : Path) where
  pub ready-set : ReadyAt s t d q p → Ready s t d (set paths q p)
  ready-set h = record {
    few = r.few;
    full = length-set paths q p ∙ r.full;
    each = λ k i. at k i (eqb k q) refl;
    past = λ k i j. get_or-set_other paths q k p past_end (λ e. omega arith) ∙ r.past k i j;
  }
    where
      at : (k : ℕ) → k < d.count → (b : Bool) → eqb k q ≡ b → ReadyAt s t d k (path_at (set paths q p) k)
      at k i true e = subst (λ k. ReadyAt s t d k (path_at (set paths q p) k)) (sym (eqb-true k q e)) (subst (ReadyAt s t d q) (sym (get_or-set_same paths q p past_end (omega (arith, r.full, r.few)))) h)
      at k i false e = subst (ReadyAt s t d k) (sym (get_or-set_other paths q k p past_end (eqb-false k q e))) (r.each k i)

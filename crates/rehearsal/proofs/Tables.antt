-- The table of a path that a rehearsal opens on: where it comes from, its names in the listing, its report lines.
use Prim.Native.Nat.{ℕ, zero, suc, ◌<◌}
use native.Mathlib.Omega.{arith}
use mathlib.Core.Bool.{Bool, true, false}
use mathlib.Core.List.{List, [], ◌∷◌, map}
use mathlib.Core.Option.{Option, some, none}
use mathlib.Core.Path.{◌≡◌, refl, sym, ◌∙◌, ap, subst}
use lib.Dec.{ltb}
use lib.ListN.{drop, length, get_or, get_elem?}
use Rattle.std.specs.Prelude.{Ok, Err}
use Rattle.ast.specs.declared.ErrorKind.TheVariants.{WorkTooShort}
use Rattle.ast.specs.Tree.{StackParam, Declaration, Contract, from_top, unplaced, fault}
use Rattle.text.specs.declared.Place.{Place}
use Rattle.rules.proofs.Basics.{Err≢Ok, Ok-injective}
use Rattle.text.specs.Text.{part}
use Rattle.rules.specs.Result.{Result, answer}
use Rattle.rules.specs.Paths.{Path, paths}
use Rattle.rules.specs.Table.{Table, params}
use Rattle.rules.specs.Analyze.{Analysis}
use Rattle.rules.specs.Stack.{Met, meets, declaration_of}
use Rattle.rules.proofs.Takers.{final, final_all, finals}
use Rattle.reader.specs.Reading.{read_listing}
use Rattle.rows.specs.Work.{work_words}
use Rattle.examiner.specs.Check.{analyzed, examine, check}
use Rattle.reporting.specs.Text.{item_of}
use Rattle.examiner.specs.Name.{item_at, if_accepted, name_of, place_or, name, name_bytes}
use Rattle.examiner.specs.InOrder.{Accepted}
use Rattle.examiner.proofs.Demand3.{Holds, accepts, accepted-outcome}
use Rattle.examiner.proofs.Naming.{declared_name, accepted-name}
use Rattle.turns.specs.declared.Rehearsed.TheVariants.{Refused}
use Rattle.rehearsal.specs.Items.{tables_of, report_lines}
use Rattle.turns.specs.State.{beginning, no_such_path}
use Rattle.rehearsal.specs.Rehearse.{on_table, on_tables, on_path, opened}
use Rattle.rehearsal.specs.Theorem.{Goes, Opens}
use Rattle.rehearsal.proofs.Machine.{Named}

-- ---- lists

at-get_or : {A : Type 0} (xs : List A) (n : ℕ) (d a : A) → get_elem? xs n ≡ some a → get_or xs n d ≡ a
at-get_or [] n d a h = let z : ◌≡◌ {A = ℕ} 0 1 = cc in absurd (omega arith)
at-get_or (x ∷ xs) zero d a h = cc
at-get_or (x ∷ xs) (suc n) d a h = at-get_or xs n d a h

-- ---- the tables that an accepted listing's report is written from

pub params-final : (ps : List StackParam) (vs : List Met) → params (final ps vs) ≡ ps
unfolding final
params-final [] vs = refl
params-final (p ∷ ps) [] = ap (p ∷◌) (params-final ps [])
params-final (p ∷ ps) (v ∷ vs) = ap (p ∷◌) (params-final ps vs)

-- the items of path n are its declaration's, from the top
finals-at : (ds : List Declaration) (ps : List Path) (n : ℕ) (t : Table) → get_elem? (final_all ds ps) n ≡ some t → (params t ≡ from_top (get_or ds n [])) × (n < length ps)
unfolding final_all
finals-at [] ps n t h = let z : ◌≡◌ {A = ℕ} 0 1 = cc in absurd (omega arith)
finals-at (d ∷ ds) [] n t h = let z : ◌≡◌ {A = ℕ} 0 1 = cc in absurd (omega arith)
finals-at (d ∷ ds) (p ∷ ps) zero t h =
    let q : final (from_top d) (meets p) ≡ t = cc in
    (ap params (sym q) ∙ params-final (from_top d) (meets p), omega arith)
finals-at (d ∷ ds) (p ∷ ps) (suc n) t h = let r = finals-at ds ps n t h in (r.0, omega arith)

-- ---- a path that a rehearsal opens on

pub record OnTable (s : List ℕ) (words path : ℕ) : Type 0 where
  pub found : Analysis
  pub table : Table
  pub examined : examine s words ≡ Ok found
  pub stands : get_elem? found.tables path ≡ some table

pub opens-on : (s : List ℕ) (words path : ℕ) → Opens s words path → OnTable s words path
unfolding opened on_path on_tables on_table
opens-on s words path h = go (examine s words) refl
  where
    at : (f : Analysis) → examine s words ≡ Ok f → (o : Option Table) → get_elem? f.tables path ≡ o → OnTable s words path
    at f e none k = let q : opened s words path ≡ Refused no_such_path = rw (e, opened, on_path, on_tables) (rw (k, on_table) refl) in absurd (subst Goes q h)
    at f e (some t) k = record { found = f; table = t; examined = e; stands = k }

    go : (w : Result Analysis) → examine s words ≡ w → OnTable s words path
    go (Err x) e = let q : opened s words path ≡ Refused x = rw (e, opened, on_path, on_tables) refl in absurd (subst Goes q h)
    go (Ok f) e = at f e (get_elem? f.tables path) refl

pub accepted-by : (s : List ℕ) (words : ℕ) (f : Analysis) → examine s words ≡ Ok f → Accepted s words
unfolding check answer
accepted-by s words f e = ap answer e

module _ (s : List ℕ) (words path : ℕ) (o : OnTable s words path) where
  pub accepted : Accepted s words
  accepted = accepted-by s words o.found o.examined

  -- its report lines are the table's
  pub lines_are : report_lines s words path ≡ drop (beginning s) (map item_of (params o.table))
  unfolding report_lines tables_of
  lines_are = ap (λ w. drop (beginning s) (map item_of (params (get_or (tables_of w) path [])))) o.examined ∙ ap (λ t. drop (beginning s) (map item_of (params t))) (at-get_or o.found.tables path [] o.table o.stands)

  module _ (c : Contract) (k : Holds s c) where
    stands-final : get_elem? (finals c) path ≡ some o.table
    stands-final = ap (λ f. get_elem? f.tables path) (Ok-injective (sym (accepted-outcome s words c k accepted) ∙ o.examined)) ∙ o.stands

    -- its items are those that the path's declaration declares, from the top
    pub items-are : params o.table ≡ from_top (declaration_of c path)
    items-are = (finals-at c.declarations (paths c.block) path o.table stands-final).0

    pub path-below : path < length (paths c.block)
    path-below = (finals-at c.declarations (paths c.block) path o.table stands-final).1

-- the part of the listing at an item's place is its name
empty-part : (s : List ℕ) → part s (record { at = 0; len = 0 }) ≡ []
unfolding part
empty-part [] = refl
empty-part (a ∷ s) = refl

name-at : (s : List ℕ) (words path k : ℕ) → Accepted s words → part s (place_or (name_of (item_at s path k))) ≡ name_bytes s words path k
unfolding name_bytes name place_or if_accepted
name-at s words path k h = rw (h, name_bytes, name) (go (name_of (item_at s path k)))
  where
    go : (p : Option Place) → part s (place_or p) ≡ elim p [ none ↦ [] | some q ↦ part s q ]
    go none = empty-part s
    go (some q) = refl

pub named : (s : List ℕ) (words path : ℕ) (o : OnTable s words path) → Named s path (params o.table)
unfolding declared_name
named s words path o k p h =
    let a = accepts s words (accepted s words path o) in
    let q : get_elem? (from_top (get_or a.contract.declarations path [])) k ≡ some p = ap (λ ps. get_elem? ps k) (sym (items-are s words path o a.contract a.listing)) ∙ h in
    name-at s words path k (accepted s words path o)
    ∙ accepted-name s words a.contract path k a.listing (accepted s words path o)
    ∙ rw (q, declared_name) refl

-- ---- other calls on the same listing

-- too little work
pub short : (s : List ℕ) (words : ℕ) → ltb words work_words ≡ true → examine s words ≡ Err (fault WorkTooShort unplaced)
unfolding examine
short s words h = rw (h, examine) refl

-- any other work: the same is found
pub same-found : (s : List ℕ) (words w : ℕ) (f : Analysis) → examine s words ≡ Ok f → ltb w work_words ≡ false → examine s w ≡ Ok f
unfolding examine
same-found s words w f e h = rw (h, examine) (go (ltb words work_words) refl)
  where
    go : (b : Bool) → ltb words work_words ≡ b → analyzed (read_listing s) ≡ Ok f
    go true q = absurd (Err≢Ok (rw (q, examine) at e))
    go false q = rw (q, examine) at e

pub enough : (s : List ℕ) (words : ℕ) (f : Analysis) → examine s words ≡ Ok f → ltb words work_words ≡ false
enough s words f e = go (ltb words work_words) refl
  where
    go : (b : Bool) → ltb words work_words ≡ b → ltb words work_words ≡ false
    go true q = absurd (Err≢Ok (sym (short s words q) ∙ e))
    go false q = q

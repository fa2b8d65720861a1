-- What the tests of a row and of a path say, and what is left of a path.
use Prim.Native.Nat.{ℕ, suc, ◌+◌, ◌/◌, ◌^◌, ◌<◌}
use native.Mathlib.Omega.{arith}
use mathlib.Core.Bool.{Bool, true, false, ◌&&◌, cond}
use mathlib.Core.List.{List}
use mathlib.Core.Path.{◌≡◌, refl, ap}
use borrow.Author.Tests.{ltb-true}
use denote.Laws.{Is}
use denote.Struct.Laws as LL
use mir.Val.{Val}
use lib.Dec.{ltb}
use lib.ListN.{length, get_or, get_or-map, take}
use Rattle.std.specs.Prelude.{Option, Some, None, Ok, Err}
use Rattle.std.specs.Result.{result_unwrap_or}
use Rattle.std.specs.List.{list_all}
use Rattle.std.proofs.lemmas.Bool.{and_parts}
use Rattle.std.proofs.lemmas.List.{get_or-take, length-take}
use Rattle.std.proofs.lemmas.List.Elements.{All-get_or}
use Rattle.std.proofs.lemmas.List.Sums.{AllPass-from_list_all}
use Rattle.ast.specs.declared.Location.{Location}
use Rattle.text.specs.declared.Place.{Place}
use Rattle.listing.specs.declared.Line.{Line}
use Rattle.listing.specs.declared.Line.TheVariants.{StackParam, Expression}
use Rattle.listing.specs.declared.ExpressionLine.TheVariants.{Variable}
use Rattle.rows.specs.Rows.{line_in, row_words, HasRow}
use Rattle.rules.specs.Result.{Result}
use Rattle.rules.specs.Table.{Table}
use Rattle.names.specs.Items.{NamedRow, Inside}
use Rattle.paths.specs.declared.NamePlace.{NamePlace}
use Rattle.paths.specs.declared.Path.{Path}
use Rattle.taken.specs.Taken.{is_run}
use Rattle.paths.specs.Path.{rows_of, no_place, WellFormed, Walked}
use Rattle.paths.specs.contracts.Path as PathT
use Rattle.paths.proofs.Path.TheLaws as PathL
use Rattle.paths.proofs.Walks.{walked-ok, walked-err, same-items}
use Rattle.lent_path.specs.declared.Answered.{Answered}
use Rattle.lent_path.specs.Rows.{is_inside, is_row, is_named, is_item, is_own, is_path, variable_of, variable_in}
use Rattle.lent_path.specs.Lent.{answered, table_after, Kept}

-- ---- rows
inside-so : (s : List ℕ) (x : Place) → is_inside s x ≡ true → Inside s x
unfolding is_inside
inside-so s x h = let l : x.at + x.len < suc (length s) = ltb-true _ _ h in omega arith

room_of : (t : List ℕ) (i : ℕ) → is_row t i ≡ true → HasRow t i
unfolding is_row
room_of t i h = let l : i < length t / row_words = ltb-true _ _ h in omega arith

item-named : (s t : List ℕ) (i : ℕ) → is_item s t i ≡ true → NamedRow s t i
unfolding is_item is_named
item-named s t i h =
    let k = and_parts (is_row t i) (is_named s (line_in t i)) h in
    go (line_in t i) refl k.1
  where
    go : (l : Line) → line_in t i ≡ l → is_named s l ≡ true → NamedRow s t i
    go l = elim l as (λ l. line_in t i ≡ l → is_named s l ≡ true → NamedRow s t i) [
      | StackParam w y x ↦ λ e n. record {
        holds = record { held = record { loc = w; ty = y; name = x }; is = e; room = room_of t i (and_parts (is_row t i) (is_named s (line_in t i)) h).0 };
        inside = inside-so s x n;
      }
      | _ ↦ λ e n. cc
    ]

-- ---- a path of these rows
pub path_sound : (s t : List ℕ) (p : Path) → length p.places ≡ 32 → is_path s t p ≡ true → WellFormed s t p
unfolding is_path is_own
path_sound s t p full h =
    let a = and_parts (ltb p.count 33) (is_own p.taken p.count && items) h in
    let b = and_parts (is_own p.taken p.count) items a.1 in
    let own = and_parts (is_run p.taken) (ltb p.taken (2 ^ p.count)) b.0 in
    let few : p.count < 33 = ltb-true p.count 33 a.0 in
    record { full = full; few = omega arith; within = ltb-true _ _ own.1; run = own.0; rows = λ k l. named k l few b.1 }
  where
    items : Bool
    items = list_all (λ q. is_item s t q.row) (take p.count p.places)

    named : (k : ℕ) → k < p.count → p.count < 33 → items ≡ true → NamedRow s t (get_or (rows_of p) k 0)
    named k l few each =
        let there : k < length (take p.count p.places) = omega (arith, length-take p.count p.places, full) in
        let row = All-get_or (λ (q : NamePlace). is_item s t q.row ≡ true) (take p.count p.places) k no_place there (AllPass-from_list_all (λ (q : NamePlace). is_item s t q.row) _ each) in
        rw (get_or-map (λ (q : NamePlace). q.row) p.places k no_place) (item-named s t _ (rw (get_or-take p.count p.places k no_place l) at row))

-- a path by value has 32 places
pub path_full : (p : Path) (vs : List Val) → Is PathT.the_row p vs → length p.places ≡ 32
path_full p vs is = (LL.owed PathT.the_type PathL.the_laws p vs is).0.1.0.1

-- ---- the variable of a row: its name lies in the listing, and its listing line is a number of 16 bits
where-some : {A : Type 0} {x : A} (b : Bool) (v : Option A) → cond b v None ≡ Some x → (b ≡ true) × (v ≡ Some x)
where-some true v h = (refl, h)
where-some false v h = cc

variable-inside : (s : List ℕ) {w : Location} {x : Place} (l : Line) → variable_of s l ≡ Some (w, x) → Inside s x
unfolding variable_of
variable-inside s {w} {x} l = elim l as (λ l. variable_of s l ≡ Some (w, x) → Inside s x) [
  | Expression (Variable v y) ↦ λ h.
      let k = where-some (is_inside s y) (Some (v, y)) h in
      let pair : (v, y) ≡ (w, x) = cc in
      let e : y ≡ x = ap (λ (q : Location × Place). q.1) pair in
      inside-so s x (rw e at k.0)
  | _ ↦ λ h. cc
]

pub variable-sound : (s t : List ℕ) (i : ℕ) {w : Location} {x : Place} → variable_in s t i ≡ Some (w, x) → Inside s x × (i + 1 < 65536)
unfolding variable_in
variable-sound s t i {w} {x} h =
    let k = where-some (ltb i 65535 && is_row t i) (variable_of s (line_in t i)) h in
    let low : i < 65535 = ltb-true i 65535 (and_parts _ _ k.0).0 in
    (variable-inside s (line_in t i) k.1, omega arith)

-- ---- what is left of a path
pub kept-by : {s t : List ℕ} {p q : Path} {w : Result Table} {u : Result Path} {r : Answered} → Walked s t p w u → r ≡ answered u → q ≡ result_unwrap_or u p → Kept s t p w r q
unfolding answered table_after
kept-by {s} {t} {p} {q} {w} {u} {r} h a e = go u refl
  where
    go : (v : Result Path) → u ≡ v → Kept s t p w r q
    go (Ok v) f = rw (a, e, f, walked-ok h f) (record { answer = refl; table = refl; items = (h.onward v f).items; sound = λ _. (h.onward v f).sound; refused = λ x g. cc })
    go (Err x) f = rw (a, e, f, walked-err h f) (record { answer = refl; table = refl; items = same-items p; sound = λ k. k; refused = λ y g. refl })

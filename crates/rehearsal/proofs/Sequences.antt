-- Over any sequence of calls from open on, the counted state and the plain machine agree.
use Prim.Native.Nat.{ℕ, ◌+◌}
use native.Mathlib.Omega.{arith}
use mathlib.Core.Bool.{Bool, true, false}
use mathlib.Core.List.{List, [], ◌∷◌, map}
use mathlib.Core.Option.{some}
use mathlib.Core.Path.{◌≡◌, refl, sym, ◌∙◌, ap, ap₂, subst}
use lib.Dec.{ltb}
use lib.ListN.{length, drop, get_elem?}
use Rattle.std.specs.Prelude.{Ok}
use Rattle.ast.specs.declared.ErrorKind.TheVariants.{WorkTooShort}
use Rattle.ast.specs.Tree.{StackParam, unplaced, fault}
use Rattle.rules.specs.Table.{Table, params}
use Rattle.rules.specs.Analyze.{Analysis}
use Rattle.rows.specs.Work.{work_words}
use Rattle.examiner.specs.Check.{examine}
use Rattle.turns.specs.declared.Rehearsal.{Rehearsal}
use Rattle.turns.specs.declared.Rehearsed.{Rehearsed}
use Rattle.turns.specs.declared.Rehearsed.TheVariants.{Refused}
use Rattle.reporting.specs.Text.{WitnessItem, item_of}
use Rattle.rehearsal.specs.Items.{report_lines}
use Rattle.turns.specs.State.{beginning, onward, lowered}
use Rattle.rehearsal.specs.Rehearse.{shown, on_table, on_tables, on_path, opened, lay_on, laid, taken_back}
use Rattle.rehearsal.specs.Plain.{Ask, lay, take_back, Step, next, begins, stay, move, asked}
use Rattle.rehearsal.specs.Calls.{Call, answer_to, kept, answers, said_by, called, sayings, standing}
use Rattle.rehearsal.specs.Theorem.{Agrees, EndsExactly, CanEnd}
use Rattle.rehearsal.proofs.Machine.{Stands, Alike, shown-alike, lay-alike, back-alike, ends, lay-all}
use Rattle.rehearsal.proofs.Tables.{OnTable, opens-on, lines_are, named, short, same-found, enough}

-- an operation on a path that is there, with work enough
on-path : (s : List ℕ) (words path : ℕ) (a : Analysis) (t : Table) (f : List StackParam → Rehearsed) → examine s words ≡ Ok a → get_elem? a.tables path ≡ some t → on_path s words path f ≡ f (params t)
unfolding on_path on_tables on_table
on-path s words path a t f e k = ap (on_tables path f) e ∙ ap (on_table f) k

-- any operation with too little work
too_short : (s : List ℕ) (w : ℕ) (r : Rehearsal) (a : Ask) → ltb w work_words ≡ true → answer_to s w r a ≡ Refused (fault WorkTooShort unplaced)
unfolding answer_to laid taken_back on_path on_tables
too_short s w r (lay x) e = ap (on_tables r.path (lay_on s r x)) (short s w e)
too_short s w r take_back e = ap (on_tables r.path (shown s (onward r.path (lowered (beginning s) r.due)))) (short s w e)

module _ (s : List ℕ) (words path : ℕ) (o : OnTable s words path) where
  abbrev Goes : Rehearsal → Rehearsed → Step → Type 0
  Goes = Alike s path (beginning s) (drop (beginning s) (map item_of (params o.table)))

  -- the rehearsal after xs have been laid
  abbrev counted : List WitnessItem → Rehearsal
  counted xs = onward path (beginning s + length xs)

  abbrev lines : List WitnessItem
  lines = drop (beginning s) (map item_of (params o.table))

  opened-alike : (r : Rehearsal) → Goes r (opened s words path) (move lines [])
  unfolding opened begins
  opened-alike r =
      let z : beginning s ≡ beginning s + 0 = omega arith in
      subst (λ a. Goes r a (move lines [])) (sym (on-path s words path o.found o.table (shown s (onward path (beginning s))) o.examined o.stands ∙ ap (λ n. shown s (onward path n) (params o.table)) z)) (shown-alike s path (params o.table) (beginning s) (named s words path o) r [] refl)

  asked-alike : (w : ℕ) (xs : List WitnessItem) (a : Ask) → examine s w ≡ Ok o.found → begins xs lines ≡ true → Goes (counted xs) (answer_to s w (counted xs) a) (asked lines xs a)
  unfolding answer_to laid taken_back
  asked-alike w xs (lay x) e h = subst (λ a. Goes (counted xs) a (asked lines xs (lay x))) (sym (on-path s w path o.found o.table (lay_on s (counted xs) x) e o.stands)) (lay-alike s path (params o.table) (beginning s) (named s words path o) xs x h)
  asked-alike w xs take_back e h = subst (λ a. Goes (counted xs) a (asked lines xs take_back)) (sym (on-path s w path o.found o.table (shown s (onward path (lowered (beginning s) (beginning s + length xs)))) e o.stands)) (back-alike s path (params o.table) (beginning s) (named s words path o) xs h)

  refused-alike : (w : ℕ) (xs : List WitnessItem) (a : Ask) → ltb w work_words ≡ true → begins xs lines ≡ true → Goes (counted xs) (answer_to s w (counted xs) a) (stay xs (fault WorkTooShort unplaced))
  unfolding kept said_by
  refused-alike w xs a e h = subst (λ a. Goes (counted xs) a (stay xs (fault WorkTooShort unplaced))) (sym (too_short s w (counted xs) a e)) (record { said = refl; then = record { is = refl; fits = h } })

  -- one call: lent too little work it is refused and changes nothing
  called-alike : (c : Call) (xs : List WitnessItem) → begins xs lines ≡ true → Goes (counted xs) (answer_to s c.words (counted xs) c.ask) (called lines xs c)
  unfolding called
  called-alike c xs h = go (ltb c.words work_words) refl
    where
      go : (b : Bool) → ltb c.words work_words ≡ b → Goes (counted xs) (answer_to s c.words (counted xs) c.ask) (called lines xs c)
      go true e = rw (e, called) (refused-alike c.words xs c.ask e h)
      go false e = rw (e, called) (asked-alike c.words xs c.ask (same-found s words c.words o.found o.examined e) h)

  -- any number of calls
  calls-agree : (cs : List Call) (r : Rehearsal) (xs : List WitnessItem) → Stands path (beginning s) lines r xs → map (said_by s) (answers s r cs) ≡ sayings lines xs cs
  unfolding answers sayings
  calls-agree [] r xs k = refl
  calls-agree (c ∷ cs) r xs k =
      let a = called-alike c xs k.fits in
      ap (λ q. map (said_by s) (answers s q (c ∷ cs))) k.is
      ∙ ap₂ ◌∷◌ a.said (calls-agree cs (kept (counted xs) (answer_to s c.words (counted xs) c.ask)) (called lines xs c).items a.then)

-- ANSWER FOR ANSWER
pub agrees : Agrees
agrees s words path r calls h =
    let o = opens-on s words path h in
    let a = opened-alike s words path o r in
    let l = lines_are s words path o in
    (a.said ∙ ap (λ x. next x []) (sym l), calls-agree s words path o calls (kept r (opened s words path)) [] a.then ∙ ap (λ x. sayings x [] calls) (sym l))

-- IT HAS ENDED EXACTLY WHEN THE ITEMS LAID ARE THE PATH'S REPORT LINES
pub ends-exactly : EndsExactly
ends-exactly s words path r calls h =
    let a = agrees s words path r calls h in
    let e = ends (report_lines s words path) calls in
    (λ k. e.0 (sym (ap₂ standing a.0 a.1) ∙ k), λ k. ap₂ standing a.0 a.1 ∙ e.1 k)

-- EVERY REHEARSAL CAN BE ENDED
pub can-end : CanEnd
can-end s words path r h =
    let o = opens-on s words path h in
    (ends-exactly s words path r _ h).1 (lay-all words (enough s words o.found o.examined) [] (report_lines s words path))

-- What is promised of an answer in numbers.
use Prim.Native.Nat.{ℕ}
use native.Mathlib.Omega.{arith}
use mathlib.Core.List.{List, [], ◌∷◌}
use mathlib.Core.Logic.{◌↔◌}
use mathlib.Core.Option.{Option, some, none}
use mathlib.Core.Path.{◌≡◌, refl, sym, ap, ◌∙◌, subst}
use lib.ListN.{length, get_or, take}
use Rattle.rows.specs.Work.{work_words}
use Rattle.text.specs.declared.Place.{Place}
use Rattle.std.specs.Prelude.{Ok, Err, Some, None, Option as StdOption}
use Rattle.ast.specs.declared.ErrorKind.{ErrorKind}
use Rattle.ast.specs.Tree.{number}
use Rattle.names.specs.declared.Item.{Item}
use Rattle.rules.specs.Result.{Result, Checked, answer}
use Rattle.examiner.specs.Check.{check}
use Rattle.examiner.specs.InOrder.{InOrder}
use Rattle.verdicts.specs.declared.Reported.{Reported}
use Rattle.examiner.specs.Report.{report, opening}
use Rattle.examiner.specs.Lent.{output_after}
use Rattle.examiner.specs.Name.{item_at, if_accepted, name_of, name, named_by, named}
use Rattle.answers.specs.Numbers.{numbers_of, place_numbers}

-- a refusal's number is not 0
number-some : (k : ErrorKind) → number k ≡ 0 → ⊥
unfolding number
number-some ErrorKind.ListingTooLong h = omega (arith, h)
number-some ErrorKind.MalformedLine h = omega (arith, h)
number-some ErrorKind.UnexpectedLine h = omega (arith, h)
number-some ErrorKind.CeilingPassed h = omega (arith, h)
number-some ErrorKind.WorkTooShort h = omega (arith, h)
number-some ErrorKind.OutputTooShort h = omega (arith, h)
number-some ErrorKind.DuplicateVariable h = omega (arith, h)
number-some ErrorKind.UndefinedVariable h = omega (arith, h)
number-some ErrorKind.VariableConsumed h = omega (arith, h)
number-some ErrorKind.UnusedVariable h = omega (arith, h)
number-some ErrorKind.InvalidConsumptionOrder h = omega (arith, h)
number-some ErrorKind.TypeMismatch h = omega (arith, h)
number-some ErrorKind.InvalidOperation h = omega (arith, h)
number-some ErrorKind.NoReturn h = omega (arith, h)
number-some ErrorKind.UnreachableCode h = omega (arith, h)
number-some ErrorKind.DeclarationPathMismatch h = omega (arith, h)
number-some ErrorKind.IntegerOverflow h = omega (arith, h)
number-some ErrorKind.MalformedPubkey h = omega (arith, h)
number-some ErrorKind.NoSuchPath h = omega (arith, h)
number-some ErrorKind.NotDue h = omega (arith, h)

-- the number of an answer is 0 exactly where it accepts
zero-accepts : (c : Checked) → (get_or (numbers_of c) 0 0 ≡ 0) ↔ (c ≡ Ok tt)
unfolding numbers_of
zero-accepts (Ok _) = (λ h. refl, λ h. refl)
zero-accepts (Err x) = (λ h. absurd (number-some x.kind h), λ h. cc)

-- what is promised of the number r, from what Check promised of its answer c
pub number-promised : (s a : List ℕ) (c : Checked) (r : ℕ) {words : ℕ} → words ≡ work_words → c ≡ check s words → (c ≡ Ok tt) ↔ InOrder s words → a ≡ numbers_of c → r ≡ get_or a 0 0 → (r ≡ get_or (numbers_of (check s work_words)) 0 0) × ((a ≡ numbers_of (check s work_words)) × ((r ≡ 0) ↔ InOrder s work_words))
number-promised s a c r l e d f g =
    let z = zero-accepts c in
    let is : c ≡ check s work_words = e ∙ ap (check s) l in
    let n : r ≡ get_or (numbers_of c) 0 0 = g ∙ ap (λ a. get_or a 0 0) f in
    let order = subst (λ k. (c ≡ Ok tt) ↔ InOrder s k) l d in
    (n ∙ ap (λ c. get_or (numbers_of c) 0 0) is, (f ∙ ap numbers_of is, (λ h. order.0 (z.0 (sym n ∙ h)), λ o. n ∙ z.1 (order.1 o))))

-- what is promised of a report, from what Report promised of its own
pub report-promised : (s a out o : List ℕ) (r : Reported) {words : ℕ} → words ≡ work_words → r ≡ report s words (length out) → o ≡ output_after s words out → ((r.length ≡ 0 → ⊥) → take 2 o ≡ opening (check s words)) → a ≡ numbers_of r.answer → (r.length ≡ (report s work_words (length out)).length) × ((a ≡ numbers_of (report s work_words (length out)).answer) × ((o ≡ output_after s work_words out) × ((r.length ≡ 0 → ⊥) → take 2 o ≡ opening (check s work_words))))
report-promised s a out o r l e f g h =
    let is : r ≡ report s work_words (length out) = e ∙ ap (λ k. report s k (length out)) l in
    (ap (λ r. r.length) is, (h ∙ ap (λ r. numbers_of r.answer) is, (f ∙ ap (λ k. output_after s k out) l, λ n. g n ∙ ap (λ k. opening (check s k)) l)))

-- a name's place in numbers, by what Name hands back
unfoldable pub place_of : Result (StdOption Place) → List ℕ
place_of (Ok (Some x)) = x.at ∷ x.len ∷ []
place_of (Ok None) = 0 ∷ 0 ∷ []
place_of (Err x) = 0 ∷ 0 ∷ []

named-says : (c : Checked) (o : Option Item) → (get_or (numbers_of (answer (named_by c o))) 0 0 ≡ get_or (numbers_of c) 0 0) × (place_of (named_by c o) ≡ place_numbers (name_of (if_accepted c o)))
unfolding numbers_of answer place_of place_numbers if_accepted
named-says (Ok _) none = (refl, refl)
named-says (Ok _) (some x) = (refl, refl)
named-says (Err x) o = (refl, refl)

-- what is promised of a name, from what Name handed back
pub name-promised : (s : List ℕ) (path position : ℕ) {r : Result (StdOption Place)} {words : ℕ} → words ≡ work_words → r ≡ named s words path position → (q : Result (StdOption Place)) → r ≡ q → (get_or (numbers_of (answer q)) 0 0 ≡ get_or (numbers_of (check s work_words)) 0 0) × (place_of q ≡ place_numbers (name s work_words path position))
unfolding named name
name-promised s path position l e q f =
    let is : q ≡ named s work_words path position = sym f ∙ e ∙ ap (λ k. named s k path position) l in
    let says = named-says (check s work_words) (item_at s path position) in
    (ap (λ r. get_or (numbers_of (answer r)) 0 0) is ∙ says.0, ap place_of is ∙ says.1)

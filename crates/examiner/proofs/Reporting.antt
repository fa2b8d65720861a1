-- What Report answers and leaves, from what its parts did.
use Prim.Native.Nat.{ℕ, ◌≤◌, ◌<◌}
use native.Mathlib.Omega.{arith}
use mathlib.Core.Bool.{Bool, true, false}
use mathlib.Core.List.{List, ◌++◌}
use mathlib.Core.Path.{◌≡◌, refl, sym, ap, ap₂, ◌∙◌}
use borrow.Author.Tests.{lt-ltb, le-ltb, ltb-false}
use lib.Dec.{ltb}
use lib.ListN.{length, take, drop, length-append, length-drop}
use Rattle.ast.specs.declared.ErrorKind.TheVariants.{WorkTooShort}
use Rattle.ast.specs.declared.CompileError.{CompileError}
use Rattle.ast.specs.Tree.{Contract, fault, unplaced}
use Rattle.rules.specs.Result.{Result, answer}
use Rattle.rules.proofs.Basics.{Ok-injective}
use Rattle.rules.proofs.Takers.{outcome}
use Rattle.rules.specs.Analyze.{Analysis, analyze}
use Rattle.rules.proofs.Theorem.{check as check_tree}
use Rattle.rules.proofs.Demand3.{accepted-finals}
use Rattle.rows.specs.Work.{work_words}
use Rattle.std.specs.Prelude.{Ok, Err}
use Rattle.paths.specs.declared.Path.{Path}
use Rattle.declarations.specs.declared.Declared.{Declared}
use Rattle.declarations.specs.Items.{ContractAt, DeclaredAs}
use Rattle.tables.specs.Held.{held_tables}
use Rattle.tables.specs.State.{tables_of, Answered}
use Rattle.analyze.proofs.Analyzing.{answered-ok, answered-err}
use Rattle.reporting.specs.Text.{fields, report_line, acceptance, refusal, text_of}
use Rattle.reporting.specs.Waits.{RowsBetween, analysis_in}
use Rattle.reporting.proofs.Spelled.{waits-spelled}
use Rattle.verdicts.specs.declared.Reported.{Reported}
use Rattle.verdicts.specs.Reports.{reported, written}
use Rattle.examiner.specs.Check.{examine, check}
use Rattle.examiner.specs.Report.{report_text, report, opening}
use Rattle.examiner.specs.Lent.{work_after, output_after}
use Rattle.examiner.proofs.Checking.{held-err, held-ok}

text-opens : (w : Result Analysis) (rest : List ℕ) → take 2 (text_of w ++ rest) ≡ opening (answer w)
unfolding text_of acceptance refusal report_line fields answer opening
text-opens (Ok a) rest = refl
text-opens (Err x) rest = refl

-- work that is too short stays as it is
pub work-short : (w : List ℕ) → length w < work_words → w ≡ work_after w
unfolding work_after
work-short w h = rw (lt-ltb (length w) work_words h, work_after) refl

module _ (s : List ℕ) (words : ℕ) (out : List ℕ) where
  pub opens : (r : Reported) (o : List ℕ) → r ≡ report s words (length out) → o ≡ output_after s words out → (r.length ≡ 0 → ⊥) → take 2 o ≡ opening (check s words)
  unfolding report reported output_after written report_text check
  opens r o e f h = go (ltb words work_words) refl
    where
      text : List ℕ
      text = text_of (examine s words)

      room : ltb words work_words ≡ false → (b : Bool) → ltb (length out) (length (text_of (examine s words))) ≡ b → take 2 o ≡ opening (check s words)
      room p true q = absurd (h (ap (λ r. r.length) (rw (p, q, report, reported) at e)))
      room p false q = ap (take 2) (rw (p, q, output_after, report_text, written) at f) ∙ text-opens (examine s words) (drop (length (text_of (examine s words))) out)

      go : (b : Bool) → ltb words work_words ≡ b → take 2 o ≡ opening (check s words)
      go true p = absurd (h (ap (λ r. r.length) (rw (p, report) at e)))
      go false p = room p (ltb (length out) (length (text_of (examine s words)))) refl

  -- work too short
  module _ (h : words < work_words) where
    pub short-answer : report s words (length out) ≡ record { answer = Err (fault WorkTooShort unplaced); length = 0 }
    unfolding report
    short-answer = rw (lt-ltb words work_words h, report) refl

    pub short-output : out ≡ output_after s words out
    unfolding output_after
    short-output = rw (lt-ltb words work_words h, output_after) refl

  -- what was found is reported
  module _ (enough : work_words ≤ words) (x : Result Analysis) (found : examine s words ≡ x) where
    pub report-is : report s words (length out) ≡ reported x (length out)
    unfolding report
    report-is = rw (le-ltb words work_words enough, found, report) refl

    pub output-is : output_after s words out ≡ written (text_of x) out
    unfolding output_after report_text
    output-is = rw (le-ltb words work_words enough, found, output_after, report_text) refl

-- of an accepted contract: the tables as they are held, the waits as they stand in its rows
module _ {s t : List ℕ} {d : Declared} (x : Contract) {n : ℕ} (D : DeclaredAs s t d x n) {r : Result (List Path)} (A : Answered s t d (held_tables (analyze x)) r) where
  pub found-fault : (y : CompileError) → r ≡ Err y → Err y ≡ analyze x
  found-fault y e = sym (held-err (analyze x) y (answered-err A e))

  pub found-analysis : (paths : List Path) → r ≡ Ok paths → Ok (analysis_in s t n d paths) ≡ analyze x
  unfolding answer check_tree
  found-analysis paths e =
      let held = held-ok (analyze x) (answered-ok A e) in
      let accepted = accepted-finals x (ap answer held.1) in
      let finals = Ok-injective (sym accepted ∙ held.1) in
      let tables : (outcome x).tables ≡ tables_of s t d paths = ap (λ a. a.tables) finals ∙ held.2 in
      ap₂ (λ ts ws. Ok (record { tables = ts; waits = ws })) (sym tables) (waits-spelled t D.block).1 ∙ sym accepted

-- the rows of its block can be read
pub block-rows : {s t : List ℕ} {d : Declared} {n : ℕ} (C : ContractAt s t n) → DeclaredAs s t d C.contract n → RowsBetween t d.block n
block-rows {t = t} C D = ((waits-spelled t D.block).0, C.rows.room, C.rows.few)

-- a text that is handed back fits
pub report-fits : (s : List ℕ) (words room : ℕ) → (report s words room).length ≤ room
unfolding report reported
report-fits s words room = go (ltb words work_words) refl
  where
    fits : ltb words work_words ≡ false → (b : Bool) → ltb room (length (text_of (examine s words))) ≡ b → (report s words room).length ≤ room
    fits p true q = rw (p, q, report, reported) (omega arith)
    fits p false q = rw (p, q, report, reported) (ltb-false room (length (text_of (examine s words))) q)

    go : (b : Bool) → ltb words work_words ≡ b → (report s words room).length ≤ room
    go true p = rw (p, report) (omega arith)
    go false p = fits p (ltb room (length (text_of (examine s words)))) refl

-- in the output that is left, which is as long as it was
output-length : (s : List ℕ) (words : ℕ) (out : List ℕ) → length (output_after s words out) ≡ length out
unfolding output_after written
output-length s words out = go (ltb words work_words) refl
  where
    text : (b : Bool) → ltb (length out) (length (report_text s words)) ≡ b → length (written (report_text s words) out) ≡ length out
    text true q = rw (q, written) refl
    text false q =
        let h = ltb-false (length out) (length (report_text s words)) q in
        rw (q, written) (length-append (report_text s words) (drop (length (report_text s words)) out) ∙ let d = length-drop (length (report_text s words)) out in omega arith)

    go : (b : Bool) → ltb words work_words ≡ b → length (output_after s words out) ≡ length out
    go true p = rw (p, output_after) refl
    go false p = rw (p, output_after) (text (ltb (length out) (length (report_text s words))) refl)

pub report-within : (s : List ℕ) (words : ℕ) (out o : List ℕ) (r : Reported) → r ≡ report s words (length out) → o ≡ output_after s words out → r.length ≤ length o
report-within s words out o r e f =
    let a : r.length ≡ (report s words (length out)).length = ap (λ r. r.length) e in
    let l : length o ≡ length out = ap length f ∙ output-length s words out in
    omega (arith, report-fits s words (length out))

-- What a report is: a text is counted, and then written if output has room for it.
use Rattle.std.proofs.Common.{◌≡◌, refl, ap, ◌∙◌, List, ◌++◌, ℕ, ◌≤◌, ◌<◌, arith, length, drop}
use Rattle.std.proofs.lemmas.Bool.{lt-ltb, le-ltb}
use Rattle.std.proofs.lemmas.List.Edits.{sets, sets-eq}
use Rattle.ast.specs.declared.ErrorKind.TheVariants.{OutputTooShort}
use Rattle.ast.specs.Tree.{fault, unplaced}
use Rattle.std.specs.Prelude.{Err}
use Rattle.rules.specs.Result.{Result, answer}
use Rattle.rules.specs.Analyze.{Analysis}
use Rattle.reporting.specs.Text.{text_of}
use Rattle.verdicts.specs.declared.Reported.{Reported}
use Rattle.verdicts.specs.Reports.{reported, written}

-- 6
abbrev too_short : Reported
too_short = record { answer = Err (fault OutputTooShort unplaced); length = 0 }

module _ (w : Result Analysis) (out : List ℕ) where
  -- an output that is too short
  module _ (h : length out < length (text_of w)) where
    pub reported-short : {r : Reported} → r ≡ too_short → r ≡ reported w (length out)
    unfolding reported
    reported-short e = rw (lt-ltb (length out) (length (text_of w)) h, reported) e

    pub written-short : out ≡ written (text_of w) out
    unfolding written
    written-short = rw (lt-ltb (length out) (length (text_of w)) h, written) refl

  -- one with room, in which the text is stored from the start on
  module _ (h : length (text_of w) ≤ length out) where
    pub reported-whole : {n : ℕ} → n ≡ length (text_of w) → record { answer = answer w; length = n } ≡ reported w (length out)
    unfolding reported
    reported-whole e = rw (le-ltb (length out) (length (text_of w)) h, reported) (ap (λ n. record { answer = answer w; length = n }) e)

    pub written-whole : {after : List ℕ} → after ≡ sets out 0 (text_of w) → after ≡ written (text_of w) out
    unfolding written
    written-whole e = rw (le-ltb (length out) (length (text_of w)) h, written) (e ∙ sets-eq (text_of w) out 0 (omega arith) ∙ ap (λ n. text_of w ++ drop n out) (omega arith))

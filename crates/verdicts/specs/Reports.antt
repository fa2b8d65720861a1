-- What is handed back and written of what was found.
use Rattle.std.specs.Prelude.{ℕ, true, false, List, ◌++◌, ltb, length, drop, Err}
use Rattle.ast.specs.declared.ErrorKind.TheVariants.{OutputTooShort}
use Rattle.ast.specs.Tree.{fault, unplaced}
use Rattle.rules.specs.Result.{Result, answer}
use Rattle.rules.specs.Analyze.{Analysis}
use Rattle.reporting.specs.Text.{text_of}
use Rattle.verdicts.specs.declared.Reported.{Reported}

-- 6 with length 0 if output is shorter than the text, else the answer with the text's length
unfoldable pub reported : Result Analysis → ℕ → Reported
reported w room = elim (ltb room (length (text_of w))) [
  | true ↦ record { answer = Err (fault OutputTooShort unplaced); length = 0 }
  | false ↦ record { answer = answer w; length = length (text_of w) }
]

-- a text in an output that has room for it; the bytes past it are unchanged
unfoldable pub written : List ℕ → List ℕ → List ℕ
written text out = elim (ltb (length out) (length text)) [ true ↦ out | false ↦ text ++ drop (length text) out ]

-- What a sink promises, of any type of sink.
use Rattle.std.specs.Prelude.{ℕ, List, [], ◌++◌, ◌≡◌}

pub record SinkLaws {S : Type 0} (after : S → List ℕ → S) (fits : S → List ℕ → Type 0) : Type 0 where
  -- no text leaves it as it is
  pub nothing : (s : S) → fits s [] → after s [] ≡ s
  -- one text and another after it are one text
  pub both : (s : S) (a b : List ℕ) → after (after s a) b ≡ after s (a ++ b)
  -- where both fit, so does the first, and then the other
  pub first : (s : S) (a b : List ℕ) → fits s (a ++ b) → fits s a
  pub next : (s : S) (a b : List ℕ) → fits s (a ++ b) → fits (after s a) b

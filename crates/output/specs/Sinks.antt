-- The two sinks: a count, and a lent output.
use Rattle.std.specs.Prelude.{ℕ, suc, ◌+◌, ◌-◌, ◌^◌, min, ◌≤◌, ◌<◌, List, [], ◌∷◌, ◌++◌, ◌≡◌, length}
use Rattle.std.proofs.Common.{ap, ap₂, ◌∙◌, arith, length-append}
use Rattle.std.proofs.Math.Seq.{length-sets}
use Rattle.std.proofs.Math.ListN.{set}
use Rattle.std.proofs.lemmas.List.Edits.{sets}
use Rattle.output.specs.declared.Counter.{Counter}
use Rattle.output.specs.declared.Writer.{Writer}
use Rattle.output.specs.Sink.{SinkLaws}

-- the count after a text: in 64 bits, of which it does not go past the largest number
abbrev pub counted : Counter → List ℕ → Counter
counted s text = record { length = min (s.length + length text) (2 ^ 64 - 1) }

-- any text can be counted from a number of 64 bits on
abbrev pub IsCount : Counter → List ℕ → Type 0
IsCount s text = s.length < 2 ^ 64

-- the output with a text stored from the position on, and the position after it
abbrev pub stored : Writer → List ℕ → Writer
stored s text = record { output = record s.output { now = sets s.output.now s.at text }; at = s.at + length text }

-- there is room for a text from the position on
abbrev pub HasRoom : Writer → List ℕ → Type 0
HasRoom s text = s.at + length text ≤ length s.output.now

pub counter_laws : SinkLaws counted IsCount
counter_laws = record {
  nothing = λ s h. ap (λ n. record { length = n }) (omega arith);
  both = λ s a b. ap (λ n. record { length = n }) (omega (arith, length-append a b));
  first = λ s a b h. h;
  next = λ s a b h. omega arith;
}

-- two texts stored, one right after the other
pub sets-sets : (out : List ℕ) (at : ℕ) (a b : List ℕ) → sets (sets out at a) (at + length a) b ≡ sets out at (a ++ b)
sets-sets out at [] b = ap (λ n. sets out n b) (omega arith)
sets-sets out at (x ∷ a) b =
    let e : at + suc (length a) ≡ suc at + length a = omega arith in
    ap (λ n. sets (sets (set out at x) (suc at) a) n b) e ∙ sets-sets (set out at x) (suc at) a b

pub writer_laws : SinkLaws stored HasRoom
writer_laws = record {
  nothing = λ s h. ap (λ n. record { output = s.output; at = n }) (omega arith);
  both = λ s a b. ap₂ (λ l n. record { output = record s.output { now = l }; at = n }) (sets-sets s.output.now s.at a b) (omega (arith, length-append a b));
  first = λ s a b h. omega (arith, length-append a b);
  next = λ s a b h. omega (arith, length-append a b, length-sets s.output.now s.at a);
}

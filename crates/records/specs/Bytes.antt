-- What a record is in a reader's bytes.
use Rattle.std.specs.Prelude.{◌≡◌, ℕ, ◌+◌, ◌*◌, ◌%◌, ◌≤◌, List, [], ◌∷◌, ◌++◌, length}
use Rattle.std.specs.Io.KnownBytes.{Consumes}
use Rattle.std.specs.declared.option.Option.{Option}

-- the number n, and after it the digits, each the low half of its byte
abbrev pub number_in : ℕ → List ℕ → ℕ
number_in n [] = n
number_in n (digit ∷ digits) = number_in (10 * n + digit % 16) digits

-- five digits that say `size`, and the byte after them, were read
abbrev pub ReadsHead : Option (List ℕ) → Option (List ℕ) → ℕ → ℕ → Type 0
ReadsHead old new after size = (digits : List ℕ) × (length digits ≡ 5) × (number_in 0 digits ≡ size) × Consumes old new (digits ++ after ∷ [])

-- a record of these bytes was read: five digits that say how many there are, byte 10, the bytes, and byte 10
abbrev pub ReadsRecord : Option (List ℕ) → Option (List ℕ) → List ℕ → Type 0
ReadsRecord old new bytes = (digits : List ℕ) × (length digits ≡ 5) × (number_in 0 digits ≡ length bytes) × Consumes old new (digits ++ 10 ∷ bytes ++ 10 ∷ [])

-- a head stands at the front: five digits, and the byte after them
abbrev pub BeginsWithHead : ℕ → List ℕ → Type 0
BeginsWithHead after xs = (digits : List ℕ) × (rest : List ℕ) × (xs ≡ digits ++ (after ∷ rest)) × (length digits ≡ 5)

-- byte 10 stands at the front
abbrev pub BeginsWithEnd : List ℕ → Type 0
BeginsWithEnd xs = (rest : List ℕ) × (xs ≡ 10 ∷ rest)

-- a record of at most `longest` bytes stands at the front
abbrev pub BeginsWithRecord : ℕ → List ℕ → Type 0
BeginsWithRecord longest xs = (digits : List ℕ) × (bytes : List ℕ) × (rest : List ℕ) × (xs ≡ digits ++ (10 ∷ (bytes ++ (10 ∷ rest)))) × (length digits ≡ 5) × (number_in 0 digits ≡ length bytes) × (length bytes ≤ longest)

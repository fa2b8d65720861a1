-- What a clause reads of `Records`.
use Rattle.std.specs.Prelude.{ℕ}
use Rattle.records.specs.declared.Records.{Records}

-- the reader inside
abbrev pub records_input : {R : Type 0} → Records R → R
records_input r = r.input

-- no record is to have more bytes
abbrev pub records_longest : {R : Type 0} → Records R → ℕ
records_longest r = r.longest

-- the most records that it may still give
abbrev pub records_left : {R : Type 0} → Records R → ℕ
records_left r = r.turns

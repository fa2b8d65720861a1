-- What a rule answers: a value, or the first fault.
use Rattle.std.specs.Prelude.{Ok, Err, Result as StdResult}
use Rattle.rules.specs.Ast.{CompileError, ErrorKind, Location, fault}

infixl 40 ◌>>=◌ ◌>>◌
-- Rust's Result<A, CompileError>
abbrev pub Result : Type 0 → Type 0
Result A = StdResult A CompileError

-- Rust's Result<(), CompileError>: a check's answer
abbrev pub Checked : Type 0
Checked = Result (Unit {0})

-- go on with the value, or stop at the fault
abbrev pub ◌>>=◌ : {A B : Type 0} → Result A → (A → Result B) → Result B
◌>>=◌ (Ok a) f = f a
◌>>=◌ (Err x) f = Err x

-- go on after a passed check, or stop at its fault
abbrev pub ◌>>◌ : {A : Type 0} → Checked → Result A → Result A
◌>>◌ (Ok _) r = r
◌>>◌ (Err x) r = Err x

-- two checks in turn: the first fault is the answer
abbrev pub both : Checked → Checked → Checked
both c d = c >> d

-- a refusal: its kind and its place
abbrev pub refuse : {A : Type 0} → ErrorKind → Location → Result A
refuse k l = Err (fault k l)

abbrev pub refused : ErrorKind → Location → Checked
refused k l = Err (fault k l)

-- the answer alone, without the value
unfoldable pub answer : {A : Type 0} → Result A → Checked
answer (Ok a) = Ok tt
answer (Err x) = Err x

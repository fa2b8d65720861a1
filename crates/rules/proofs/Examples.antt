-- Document 01's worked contract and edges, computed.
use Prim.Native.Nat.{ℕ}
use mathlib.Core.Bool.{Bool, true, false}
use mathlib.Core.List.{List, [], ◌∷◌, map}
use mathlib.Core.Option.{Option, some}
use mathlib.Core.Path.{◌≡◌, refl}
use lib.ListN.{replicate}
use Rattle.std.specs.Prelude.{Ok, Err}
use Rattle.rules.specs.Ast.{Location, nowhere, Signed, Target, Legacy, ItemType, Signature, Number, String, Boolean, StackParam, Declaration, Contract, Expression, Variable, NumberLiteral, BooleanLiteral, StringLiteral, LogicalExpression, CompareExpression, UnaryMathExpression, BinaryMathExpression, UnaryCryptoExpression, CheckSigExpression, ByteExpression, Block, IfStatement, IfElseStatement, LocktimeStatement, ExpressionStatement, []ᵇ, ◌∷ᵇ◌, BoolAnd, Equal, Greater, Less, Add as Sum, Negate, Not, Sha256, Segwit, Taproot, Factor, Factors, SingleSigFactor, MultiSigFactor, []ᶠ, ◌∷ᶠ◌, LocktimeOp, Cltv, Csv, CsvTime, fault, DuplicateVariable, UndefinedVariable, VariableConsumed, UnusedVariable, InvalidConsumptionOrder, TypeMismatch, InvalidOperation, NoReturn, UnreachableCode, DeclarationPathMismatch, IntegerOverflow, MalformedPubkey, same, loc, place}
use Rattle.rules.specs.Result.{Result, Checked, answer}
use Rattle.rules.specs.Paths.{count}
use Rattle.rules.specs.Flow.{flow, followed, goes_on}
use Rattle.rules.specs.Table.{among, enter, build, build_all}
use Rattle.rules.specs.Usage.{usage, take, take_entry, free}
use Rattle.rules.specs.Keys.{within, is_digit, all_digits, is_hex, digit, first_byte, shaped, is_key, pushed, is_ascii}
use Rattle.rules.specs.Types.{type_of, is_signature, not_signature, is_number, is_string, is_boolean, is_not, is_equality, passed, or17, of_type, variable, name_of, literal_of, ascii, compared, compare, signature, key, sig_key, size, inner, inners, threshold, factor, unary, truth}
use Rattle.rules.specs.Limits.{or21, four_bytes, element, security, up_to, in_bounds, carried, wait}
use Rattle.rules.specs.Transfer.{placed, untaken, run, hand_one, hand, transfer}
use Rattle.rules.specs.Walk.{Wait, examine, table_at, examine_at, cross, walk}
use Rattle.rules.specs.Unused.{used, unused, unused_all}
use Rattle.rules.specs.Analyze.{first_item, counted, Analysis, analyze}
use Rattle.rules.proofs.Theorem.{check}

abbrev at : ℕ → ℕ → ℕ → ℕ → Location
at s e l c = record { start = s; end = e; line = l; column = c }

abbrev item : Location → ItemType → ℕ → StackParam
item l ty x = record { loc = l; identifier = x ∷ []; ty = ty }

abbrev plus : ℕ → Signed
plus n = record { negative = false; magnitude = n }

abbrev minus : ℕ → Signed
minus n = record { negative = true; magnitude = n }

-- the worked contract: p = 112, c = 99, n = 110
abbrev worked : Contract
worked = record {
  target = Legacy;
  declarations = (item (at 0 1 1 0) String 112 ∷ item (at 3 4 1 3) Boolean 99 ∷ []) ∷ (item (at 6 7 2 0) Number 110 ∷ item (at 9 10 2 3) Boolean 99 ∷ []) ∷ [];
  block = IfElseStatement (at 20 60 3 0) (Variable (at 23 24 3 3) 10 (99 ∷ []))
      (ExpressionStatement (at 30 44 4 0)
      (CompareExpression (at 37 44 4 7) Equal
      (UnaryCryptoExpression (at 37 40 4 7) Sha256 (Variable (at 38 39 4 8) 15 (112 ∷ [])))
      (StringLiteral (at 42 44 4 12) (97 ∷ 97 ∷ []) false)) ∷ᵇ []ᵇ)
      (ExpressionStatement (at 50 58 6 0)
      (CompareExpression (at 53 58 6 3) Equal
      (Variable (at 53 54 6 3) 20 (110 ∷ []))
      (NumberLiteral (at 57 58 6 7) (plus 7))) ∷ᵇ []ᵇ) ∷ᵇ []ᵇ;
}

-- the lines that took the items, path by path from the top
unfoldable takers : Result Analysis → List (List (Option ℕ))
takers (Ok a) = map (map (λ e. e.taken)) a.tables
takers (Err x) = []

worked-takers : takers (analyze worked) ≡ (some 10 ∷ some 15 ∷ []) ∷ (some 10 ∷ some 20 ∷ []) ∷ []
unfolding takers analyze flow followed goes_on counted count build_all build enter among same walk examine_at examine table_at cross usage take take_entry free truth compared compare name_of literal_of loc signature key sig_key size inner inners threshold factor passed variable of_type type_of is_signature not_signature is_number is_string is_boolean is_not is_equality or17 ascii unary security or21 four_bytes element pushed is_hex all_digits is_digit within transfer placed run untaken hand hand_one unused used unused_all
worked-takers = refl

-- a contract of one path: its items and its statements
abbrev one : Declaration → Block → Contract
one d b = record { target = Legacy; declarations = d ∷ []; block = b }

abbrev here : Location
here = at 5 6 7 8

abbrev spot : ℕ → Location
spot n = at n n n n

abbrev return_true : Block
return_true = ExpressionStatement here (BooleanLiteral here true) ∷ᵇ []ᵇ

-- Boolean items a, b (97, 98), declared in this order: b is the top
abbrev ab : Declaration
ab = item (spot 1) Boolean 97 ∷ item (spot 2) Boolean 98 ∷ []

abbrev var : ℕ → ℕ → Expression
var l x = Variable (spot l) l (x ∷ [])

abbrev ret : Expression → Block
ret e = ExpressionStatement here e ∷ᵇ []ᵇ

-- `return v == v` for a number v, at which the limit is
abbrev numbered : Signed → Contract
numbered v = one [] (ret (CompareExpression here Equal (NumberLiteral (spot 3) v) (NumberLiteral (spot 4) (plus 1))))

abbrev lettered : ℕ → ℕ → Contract
lettered n byte = one [] (ret (CompareExpression here Equal (StringLiteral (spot 3) (replicate n byte) false) (StringLiteral (spot 4) [] false)))

abbrev waiting : LocktimeOp → Signed → Contract
waiting o v = one [] (LocktimeStatement (spot 3) 3 o v ∷ᵇ return_true)

abbrev inputs : List Contract
inputs =
    numbered (plus 2147483647) ∷ numbered (minus 2147483647) ∷ numbered (plus 2147483648) ∷ numbered (minus 2147483648) ∷
    waiting Csv (plus 65535) ∷ waiting Csv (plus 65536) ∷ waiting Cltv (plus 4294967295) ∷ waiting Cltv (plus 4294967296) ∷ waiting Csv (minus 1) ∷
    waiting CsvTime (plus 65535) ∷ waiting CsvTime (plus 65536) ∷ waiting CsvTime (minus 1) ∷
    lettered 520 122 ∷ lettered 521 122 ∷ lettered 521 97 ∷ lettered 522 97 ∷ lettered 1040 70 ∷ lettered 1042 70 ∷
    one ab (ret (LogicalExpression here BoolAnd (var 3 97) (var 4 98))) ∷
    one ab (ret (LogicalExpression here BoolAnd (var 3 98) (var 4 98))) ∷
    one ab (ret (var 3 98)) ∷
    one ab (ret (LogicalExpression here BoolAnd (var 3 98) (var 4 97))) ∷
    record { target = Legacy; declarations = []; block = return_true } ∷
    one [] return_true ∷
    one [] []ᵇ ∷
    one [] (ExpressionStatement here (BooleanLiteral here true) ∷ᵇ ExpressionStatement (spot 9) (BooleanLiteral here true) ∷ᵇ []ᵇ) ∷
    one (item (spot 1) Boolean 97 ∷ item (spot 2) Boolean 97 ∷ []) return_true ∷
    []

abbrev results : List Checked
results =
    Ok tt ∷ Ok tt ∷ Err (fault IntegerOverflow (spot 3)) ∷ Err (fault IntegerOverflow (spot 3)) ∷
    Ok tt ∷ Err (fault IntegerOverflow (spot 3)) ∷ Ok tt ∷ Err (fault IntegerOverflow (spot 3)) ∷ Err (fault IntegerOverflow (spot 3)) ∷
    Ok tt ∷ Err (fault IntegerOverflow (spot 3)) ∷ Err (fault IntegerOverflow (spot 3)) ∷
    Ok tt ∷ Err (fault IntegerOverflow (spot 3)) ∷ Err (fault IntegerOverflow (spot 3)) ∷ Ok tt ∷ Ok tt ∷ Err (fault IntegerOverflow (spot 3)) ∷
    Err (fault InvalidConsumptionOrder (spot 3)) ∷
    Err (fault VariableConsumed (spot 4)) ∷
    Err (fault UnusedVariable (spot 1)) ∷
    Ok tt ∷
    Err (fault DeclarationPathMismatch nowhere) ∷
    Ok tt ∷
    Err (fault NoReturn nowhere) ∷
    Err (fault UnreachableCode (spot 9)) ∷
    Err (fault DuplicateVariable (spot 1)) ∷
    []

edges : map check inputs ≡ results
unfolding check answer analyze first_item flow followed goes_on place counted count build_all build enter among same walk examine_at examine table_at cross usage take take_entry free truth compared compare name_of literal_of loc signature key sig_key size inner inners threshold factor passed variable of_type type_of is_signature not_signature is_number is_string is_boolean is_not is_equality or17 ascii unary security or21 four_bytes element pushed is_hex all_digits is_digit within up_to in_bounds carried wait transfer placed run untaken hand hand_one unused used unused_all
edges = refl

-- The type rules, keys, transfers and the slips that document 01 names. Items: a, b Boolean, n Number, p String, s Signature (97, 98, 110, 112, 115).
abbrev nm : ℕ → ItemType → ℕ → StackParam
nm l ty x = item (spot l) ty x

abbrev lit : ℕ → List ℕ → Bool → Expression
lit l b m = StringLiteral (spot l) b m

-- 02 and 64 digits; 04 and 64 digits; 64 digits
abbrev key02 : List ℕ
key02 = 48 ∷ 50 ∷ replicate 64 97

abbrev key04 : List ℕ
key04 = 48 ∷ 52 ∷ replicate 64 97

abbrev key32 : List ℕ
key32 = replicate 64 70

abbrev sigs : Target → List ℕ → Bool → Contract
sigs g k m = record { target = g; declarations = (nm 1 Signature 115 ∷ []) ∷ []; block = ret (CheckSigExpression (spot 2) (SingleSigFactor (spot 3) (var 4 115) (lit 5 k m))) }

abbrev multi : ℕ → Factors → Declaration → Contract
multi m fs d = one d (ret (CheckSigExpression (spot 2) (MultiSigFactor (spot 3) m fs)))

abbrev single : ℕ → ℕ → Factor
single l x = SingleSigFactor (spot l) (var l x) (lit l key02 true)

-- an if on c with an else
abbrev branch : Expression → Block → Block → Block
branch e b c = IfElseStatement (spot 30) e b c ∷ᵇ []ᵇ

abbrev pair : Declaration → Declaration → Block → Contract
pair d d' b = record { target = Segwit; declarations = d ∷ d' ∷ []; block = b }

abbrev cmp : Expression → Expression → Expression
cmp a b = CompareExpression (spot 20) Equal a b

abbrev inputs₂ : List Contract
inputs₂ =
    sigs Legacy key02 true ∷ sigs Segwit key02 false ∷ sigs Legacy key04 true ∷ sigs Taproot key32 true ∷ sigs Taproot key02 true ∷ sigs Legacy key32 true ∷
    one (nm 1 Signature 115 ∷ []) (ret (CheckSigExpression here (SingleSigFactor here (var 4 115) (BooleanLiteral (spot 5) true)))) ∷
    one [] (ret (CheckSigExpression here (SingleSigFactor here (BooleanLiteral (spot 4) true) (lit 5 key02 true)))) ∷
    one (nm 1 Number 115 ∷ []) (ret (CheckSigExpression here (SingleSigFactor here (var 4 115) (lit 5 key02 true)))) ∷
    multi 1 (single 4 115 ∷ᶠ []ᶠ) (nm 1 Signature 115 ∷ []) ∷
    multi 0 (single 4 115 ∷ᶠ []ᶠ) (nm 1 Signature 115 ∷ []) ∷
    multi 2 (single 4 115 ∷ᶠ []ᶠ) (nm 1 Signature 115 ∷ []) ∷
    multi 2 (single 4 115 ∷ᶠ MultiSigFactor (spot 6) 0 (single 7 116 ∷ᶠ []ᶠ) ∷ᶠ []ᶠ) (nm 1 Signature 115 ∷ []) ∷
    one (nm 1 Number 110 ∷ []) (ret (LogicalExpression here BoolAnd (var 4 110) (var 5 110))) ∷
    one (nm 1 Number 110 ∷ []) (ret (var 4 110)) ∷
    one (nm 1 Number 110 ∷ []) (ret (var 4 111)) ∷
    one [] (ret (CompareExpression (spot 20) Greater (lit 4 [] false) (lit 5 [] false))) ∷
    one [] (ret (CompareExpression (spot 20) Less (NumberLiteral here (plus 1)) (UnaryMathExpression here Negate (NumberLiteral here (plus 2))))) ∷
    one [] (ret (CompareExpression (spot 20) Less (BooleanLiteral here true) (UnaryMathExpression here Not (BooleanLiteral here true)))) ∷
    one [] (ret (ByteExpression (spot 8) (lit 9 (200 ∷ []) false))) ∷
    one [] (ret (ByteExpression (spot 8) (lit 9 (100 ∷ []) false))) ∷
    one [] (ret (cmp (ByteExpression (spot 8) (lit 9 (200 ∷ []) false)) (NumberLiteral here (plus 1)))) ∷
    one (nm 1 Signature 115 ∷ []) (ret (cmp (UnaryCryptoExpression (spot 8) Sha256 (var 9 115)) (lit 10 [] false))) ∷
    one [] (ret (BinaryMathExpression (spot 8) Sum (NumberLiteral here (plus 1)) (BooleanLiteral (spot 9) true))) ∷
    one [] (IfStatement (spot 8) (BooleanLiteral here true) return_true ∷ᵇ []ᵇ) ∷
    -- the condition's item is typed by path 0 alone
    pair (nm 1 Boolean 99 ∷ []) (nm 2 Number 99 ∷ []) (branch (var 4 99) return_true return_true) ∷
    pair (nm 1 Number 99 ∷ []) (nm 2 Boolean 99 ∷ []) (branch (var 4 99) return_true return_true) ∷
    -- the item is missing on the next path, or lies elsewhere there
    pair (nm 1 Boolean 99 ∷ []) [] (branch (var 4 99) return_true return_true) ∷
    pair (nm 1 Boolean 99 ∷ []) (nm 2 Boolean 99 ∷ nm 3 Boolean 97 ∷ []) (branch (var 4 99) return_true (ret (var 5 97))) ∷
    -- below the condition the paths are independent
    pair (nm 1 Boolean 97 ∷ nm 2 Boolean 98 ∷ nm 3 Boolean 99 ∷ []) (nm 4 Boolean 97 ∷ nm 5 Boolean 99 ∷ []) (branch (var 4 99) (ret (LogicalExpression here BoolAnd (var 6 98) (var 7 97))) (ret (var 8 97))) ∷
    []

abbrev results₂ : List Checked
results₂ =
    Ok tt ∷ Err (fault MalformedPubkey (spot 5)) ∷ Err (fault MalformedPubkey (spot 5)) ∷ Ok tt ∷ Err (fault MalformedPubkey (spot 5)) ∷ Err (fault MalformedPubkey (spot 5)) ∷
    Err (fault TypeMismatch (spot 5)) ∷
    Err (fault TypeMismatch (spot 4)) ∷
    Err (fault InvalidOperation (spot 4)) ∷
    Ok tt ∷
    Err (fault InvalidOperation (spot 3)) ∷
    Err (fault InvalidOperation (spot 3)) ∷
    Ok tt ∷
    Err (fault VariableConsumed (spot 5)) ∷
    Err (fault InvalidOperation (spot 4)) ∷
    Err (fault UndefinedVariable (spot 4)) ∷
    Err (fault InvalidOperation (spot 20)) ∷
    Ok tt ∷
    Err (fault InvalidOperation (spot 20)) ∷
    Err (fault InvalidOperation (spot 9)) ∷
    Err (fault InvalidOperation (spot 8)) ∷
    Err (fault InvalidOperation (spot 20)) ∷
    Err (fault InvalidOperation (spot 20)) ∷
    Err (fault InvalidOperation (spot 9)) ∷
    Err (fault NoReturn (spot 8)) ∷
    Ok tt ∷
    Err (fault InvalidOperation (spot 4)) ∷
    Err (fault DeclarationPathMismatch (spot 30)) ∷
    Err (fault DeclarationPathMismatch (spot 30)) ∷
    Ok tt ∷
    []

edges₂ : map check inputs₂ ≡ results₂
unfolding check answer analyze first_item flow followed goes_on place counted count build_all build enter among same walk examine_at examine table_at cross usage take take_entry free truth compared compare name_of literal_of loc signature key sig_key size inner inners threshold factor passed variable of_type type_of is_signature not_signature is_number is_string is_boolean is_not is_equality or17 ascii is_ascii unary security or21 four_bytes element pushed is_hex all_digits is_digit digit first_byte shaped is_key within up_to in_bounds carried wait transfer placed run untaken hand hand_one unused used unused_all
edges₂ = refl

-- the waits of an accepted contract, in listing order: bit 22 (4194304) is set for units of 512 seconds
unfoldable waits_from : Result Analysis → List Wait
waits_from (Ok a) = a.waits
waits_from (Err x) = []

abbrev waited : ℕ → LocktimeOp → ℕ → Block → Block
waited n o k b = LocktimeStatement here n o (plus k) ∷ᵇ b

carried-waits : waits_from (analyze (pair [] [] (waited 5 Cltv 700000 (branch (BooleanLiteral here true) (waited 8 Csv 144 return_true) (waited 11 CsvTime 65535 return_true))))) ≡ record { line = 5; number = 700000 } ∷ record { line = 8; number = 144 } ∷ record { line = 11; number = 4259839 } ∷ []
unfolding waits_from analyze flow followed goes_on counted count build_all build enter walk examine_at examine table_at cross usage truth security or21 up_to in_bounds carried wait transfer placed run untaken hand unused unused_all
carried-waits = refl

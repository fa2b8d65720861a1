-- check_flow: 18 and 19.
use Rattle.std.specs.Prelude.{Bool, true, false, Ok}
use Rattle.rules.specs.Ast.{Statement, Block, IfStatement, IfElseStatement, LocktimeStatement, VerifyStatement, ExpressionStatement, []ᵇ, ◌∷ᵇ◌, NoReturn, UnreachableCode, place, nowhere}
use Rattle.rules.specs.Result.{Checked, both, refused}

-- whether statements may follow: after a wait and a verify, not after an if or a return
unfoldable pub goes_on : Statement → Bool
goes_on (IfStatement l e b) = false
goes_on (IfElseStatement l e b c) = false
goes_on (LocktimeStatement l n o v) = true
goes_on (VerifyStatement l e) = true
goes_on (ExpressionStatement l e) = false

-- the answer at a statement from: may others follow it, what follows it, its answer as the last one, the answer of what follows.
-- A statement after an if or a return is 19 at that statement.
unfoldable pub followed : Bool → Block → Checked → Checked → Checked
followed g []ᵇ last after = last
followed true (s ∷ᵇ b) last after = after
followed false (s ∷ᵇ b) last after = refused UnreachableCode (place s)

unfoldable mutual
  -- the last statement: an if without else, a wait or a verify is 18 at itself; an if has its two blocks checked in turn
  pub flow_last : Statement → Checked
  flow_last (IfStatement l e b) = refused NoReturn l
  flow_last (IfElseStatement l e b c) = both (flow b) (flow c)
  flow_last (LocktimeStatement l n o v) = refused NoReturn l
  flow_last (VerifyStatement l e) = refused NoReturn l
  flow_last (ExpressionStatement l e) = Ok tt

  -- an empty block is 18 at 0,0,1,0
  pub flow : Block → Checked
  flow []ᵇ = refused NoReturn nowhere
  flow (s ∷ᵇ b) = followed (goes_on s) b (flow_last s) (flow b)

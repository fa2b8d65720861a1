-- check_variable: 12, 13, 15.
use Rattle.std.specs.Prelude.{ℕ, Bool, true, false, ◌||◌, [], ◌∷◌, Ok}
use Rattle.std.proofs.Math.Option.{Option, some, none}
use Rattle.rules.specs.Ast.{Name, same, Location, Expression, Factor, Factors, Variable, NumberLiteral, BooleanLiteral, StringLiteral, LogicalExpression, CompareExpression, UnaryMathExpression, BinaryMathExpression, UnaryCryptoExpression, CheckSigExpression, ByteExpression, SingleSigFactor, MultiSigFactor, []ᶠ, ◌∷ᶠ◌, UndefinedVariable, VariableConsumed, InvalidConsumptionOrder}
use Rattle.rules.specs.Result.{Result, ◌>>=◌, refuse}
use Rattle.rules.specs.Table.{Entry, Table}

-- an item that line n takes
abbrev pub mark : ℕ → Entry → Entry
mark n e = record { param = e.param; taken = some n }

-- the named item itself: taken before 13; a smaller position not yet taken (`gap`) 15; else line n takes it
unfoldable pub take_entry : Bool → Location → ℕ → Entry → Table → Option ℕ → Result Table
take_entry gap l n e t (some m) = refuse VariableConsumed l
take_entry true l n e t none = refuse InvalidConsumptionOrder l
take_entry false l n e t none = Ok (mark n e ∷ t)

-- whether an item is not yet taken
unfoldable pub free : Option ℕ → Bool
free none = true
free (some m) = false

-- the variable x of line n at l, from the top down; `gap`: a position above is not yet taken. Unknown is 12.
unfoldable pub take : Bool → Location → ℕ → Name → Table → Result Table
take gap l n x [] = refuse UndefinedVariable l
take gap l n x (e ∷ t) = elim (same x e.param.identifier) [
  | true ↦ take_entry gap l n e t e.taken
  | false ↦ take (gap || free e.taken) l n x t >>= λ t'. Ok (e ∷ t')
]

-- left before right, signature before key; a multi-signature that is itself a factor of another is skipped
unfoldable mutual
  pub usage : Expression → Table → Result Table
  usage (Variable l n x) t = take false l n x t
  usage (NumberLiteral l v) t = Ok t
  usage (BooleanLiteral l b) t = Ok t
  usage (StringLiteral l b m) t = Ok t
  usage (LogicalExpression l o a b) t = usage a t >>= λ t'. usage b t'
  usage (CompareExpression l o a b) t = usage a t >>= λ t'. usage b t'
  usage (UnaryMathExpression l o a) t = usage a t
  usage (BinaryMathExpression l o a b) t = usage a t >>= λ t'. usage b t'
  usage (UnaryCryptoExpression l o a) t = usage a t
  usage (CheckSigExpression l f) t = usage_factor f t
  usage (ByteExpression l a) t = usage a t

  pub usage_factor : Factor → Table → Result Table
  usage_factor (SingleSigFactor l s k) t = usage s t >>= λ t'. usage k t'
  usage_factor (MultiSigFactor l m fs) t = usage_factors fs t

  pub usage_inner : Factor → Table → Result Table
  usage_inner (SingleSigFactor l s k) t = usage s t >>= λ t'. usage k t'
  usage_inner (MultiSigFactor l m fs) t = Ok t

  pub usage_factors : Factors → Table → Result Table
  usage_factors []ᶠ t = Ok t
  usage_factors (f ∷ᶠ fs) t = usage_inner f t >>= λ t'. usage_factors fs t'

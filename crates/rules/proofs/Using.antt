-- check_variable takes the variables that the expression meets, one after the other.
use mathlib.Core.List.{List, [], ◌∷◌, ◌++◌}
use mathlib.Core.Path.{◌≡◌, refl, sym, ◌∙◌, ap}
use Rattle.std.specs.Prelude.{Ok, Err}
use Rattle.rules.specs.Ast.{Expression, Factor, Factors, Variable, NumberLiteral, BooleanLiteral, StringLiteral, LogicalExpression, CompareExpression, UnaryMathExpression, BinaryMathExpression, UnaryCryptoExpression, CheckSigExpression, ByteExpression, SingleSigFactor, MultiSigFactor, []ᶠ, ◌∷ᶠ◌}
use Rattle.rules.specs.Result.{Result, ◌>>=◌}
use Rattle.rules.specs.Table.{Table, params}
use Rattle.rules.specs.Usage.{take, usage, usage_factor, usage_inner, usage_factors}
use Rattle.rules.specs.Stack.{Met, met, met_factor, met_inner, met_factors}
use Rattle.rules.specs.InOrder.{Distinct}
use Rattle.rules.proofs.State.{State, take_all, take_all-sound, take_all-can, names_of, met_names}

pub bind-cong : {A B : Type 0} (m : Result A) (f g : A → Result B) → ((a : A) → f a ≡ g a) → (m >>= f) ≡ (m >>= g)
bind-cong (Ok a) f g h = h a
bind-cong (Err x) f g h = refl

pub bind_assoc : {A B C : Type 0} (m : Result A) (f : A → Result B) (g : B → Result C) → ((m >>= f) >>= g) ≡ (m >>= λ a. f a >>= g)
bind_assoc (Ok a) f g = refl
bind_assoc (Err x) f g = refl

take_all-append : (vs ws : List Met) (t : Table) → take_all (vs ++ ws) t ≡ (take_all vs t >>= λ t'. take_all ws t')
take_all-append [] ws t = refl
take_all-append (v ∷ vs) ws t =
    bind-cong (take _ _ _ _ t) (λ t'. take_all (vs ++ ws) t') (λ t'. take_all vs t' >>= λ t''. take_all ws t'') (λ t'. take_all-append vs ws t')
    ∙ sym (bind_assoc (take _ _ _ _ t) (λ t'. take_all vs t') (λ t''. take_all ws t''))

-- two parts in turn
two : (f g : Table → Result Table) (vs ws : List Met) (t : Table) → f t ≡ take_all vs t → ((t' : Table) → g t' ≡ take_all ws t') → (f t >>= λ t'. g t') ≡ take_all (vs ++ ws) t
two f g vs ws t p q = ap (λ m. m >>= λ t'. g t') p ∙ bind-cong (take_all vs t) (λ t'. g t') (λ t'. take_all ws t') q ∙ sym (take_all-append vs ws t)

pub bind_ok : {A : Type 0} (m : Result A) → (m >>= λ a. Ok a) ≡ m
bind_ok (Ok a) = refl
bind_ok (Err x) = refl

mutual
  unfolding usage met

  pub usage-met : (e : Expression) (t : Table) → usage e t ≡ take_all (met e) t
  usage-met (Variable l n x) t = sym (bind_ok (take _ l n x t))
  usage-met (NumberLiteral l v) t = refl
  usage-met (BooleanLiteral l b) t = refl
  usage-met (StringLiteral l b m) t = refl
  usage-met (LogicalExpression l o a b) t = two (usage a) (usage b) (met a) (met b) t (usage-met a t) (λ t'. usage-met b t')
  usage-met (CompareExpression l o a b) t = two (usage a) (usage b) (met a) (met b) t (usage-met a t) (λ t'. usage-met b t')
  usage-met (UnaryMathExpression l o a) t = usage-met a t
  usage-met (BinaryMathExpression l o a b) t = two (usage a) (usage b) (met a) (met b) t (usage-met a t) (λ t'. usage-met b t')
  usage-met (UnaryCryptoExpression l o a) t = usage-met a t
  usage-met (CheckSigExpression l f) t = usage-factor f t
  usage-met (ByteExpression l a) t = usage-met a t

  usage-factor : (f : Factor) (t : Table) → usage_factor f t ≡ take_all (met_factor f) t
  usage-factor (SingleSigFactor l s k) t = two (usage s) (usage k) (met s) (met k) t (usage-met s t) (λ t'. usage-met k t')
  usage-factor (MultiSigFactor l m fs) t = usage-factors fs t

  usage-inner : (f : Factor) (t : Table) → usage_inner f t ≡ take_all (met_inner f) t
  usage-inner (SingleSigFactor l s k) t = two (usage s) (usage k) (met s) (met k) t (usage-met s t) (λ t'. usage-met k t')
  usage-inner (MultiSigFactor l m fs) t = refl

  usage-factors : (fs : Factors) (t : Table) → usage_factors fs t ≡ take_all (met_factors fs) t
  usage-factors []ᶠ t = refl
  usage-factors (f ∷ᶠ fs) t = two (usage_inner f) (usage_factors fs) (met_inner f) (met_factors fs) t (usage-inner f t) (λ t'. usage-factors fs t')

-- an expression passed: its variables have taken the next items, and nothing else changed
pub usage-sound : (e : Expression) (ks : List Met) (t t' : Table) → State ks t → usage e t ≡ Ok t' → State (ks ++ met e) t' × (params t' ≡ params t)
usage-sound e ks t t' s h = take_all-sound (met e) ks t t' s (sym (usage-met e t) ∙ h)

-- an expression passes if its variables are the next names
pub usage-can : (e : Expression) (ks xs : List Met) (t : Table) → State ks t → Distinct (names_of t) → names_of t ≡ met_names (ks ++ (met e ++ xs)) → (t' : Table) × (usage e t ≡ Ok t')
usage-can e ks xs t s d h = let k = take_all-can (met e) ks xs t s d h in (k.0, usage-met e t ∙ k.1)

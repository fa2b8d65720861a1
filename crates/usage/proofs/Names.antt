-- What has no names takes nothing, and whether there are any, from the lines.
use Prim.Native.Nat.{ℕ, ◌<◌}
use native.Mathlib.Omega.{arith}
use mathlib.Core.Bool.{Bool, true, false, ◌||◌, or_assoc}
use mathlib.Core.List.{List, [], ◌∷◌, ◌++◌}
use mathlib.Core.Path.{◌≡◌, refl, ap, ◌∙◌}
use Rattle.std.specs.Prelude.{Ok}
use Rattle.ast.specs.Tree.{Expression, Factor, Factors, Variable, NumberLiteral, BooleanLiteral, StringLiteral, LogicalExpression, CompareExpression, UnaryMathExpression, BinaryMathExpression, UnaryCryptoExpression, CheckSigExpression, ByteExpression, SingleSigFactor, MultiSigFactor, []ᶠ, ◌∷ᶠ◌}
use Rattle.rules.specs.Result.{Result, ◌>>=◌}
use Rattle.rules.specs.Table.{Table}
use Rattle.rules.specs.Usage.{usage, usage_factor, usage_inner, usage_factors}
use Rattle.rules.proofs.Basics.{true≢false'}
use Rattle.listing.specs.declared.Line.{Line}
use Rattle.reader.specs.Spells.{SpellsExpression, SpellsFactor}
use Rattle.nodes.specs.Nodes.{Node, expression, factor, SpellsNodes}
use Rattle.nodes.proofs.Nodes.{factor_nodes, children, opened}
use Rattle.usage.specs.Names.{has_names, has_names_factor, has_names_factors, is_name}

-- two rules in turn that take nothing where there are no names
idle-two : (x y : Bool) (r : Result Table) (f : Table → Result Table) (t : Table) → (x ≡ false → r ≡ Ok t) → (y ≡ false → f t ≡ Ok t) → (x || y) ≡ false → (r >>= λ t'. f t') ≡ Ok t
idle-two true y r f t p q h = absurd (true≢false' refl h)
idle-two false y r f t p q h = rw (p refl) (q h)

mutual
  unfolding has_names usage

  pub nameless : (e : Expression) → has_names e ≡ false → (t : Table) → usage e t ≡ Ok t
  nameless (Variable l n x) h t = absurd (true≢false' refl h)
  nameless (NumberLiteral l v) h t = refl
  nameless (BooleanLiteral l b) h t = refl
  nameless (StringLiteral l b m) h t = refl
  nameless (LogicalExpression l o a b) h t = idle-two (has_names a) (has_names b) (usage a t) (usage b) t (λ n. nameless a n t) (λ n. nameless b n t) h
  nameless (CompareExpression l o a b) h t = idle-two (has_names a) (has_names b) (usage a t) (usage b) t (λ n. nameless a n t) (λ n. nameless b n t) h
  nameless (UnaryMathExpression l o a) h t = nameless a h t
  nameless (BinaryMathExpression l o a b) h t = idle-two (has_names a) (has_names b) (usage a t) (usage b) t (λ n. nameless a n t) (λ n. nameless b n t) h
  nameless (UnaryCryptoExpression l o a) h t = nameless a h t
  nameless (CheckSigExpression l f) h t = nameless-factor f h t
  nameless (ByteExpression l a) h t = nameless a h t

  nameless-factor : (f : Factor) → has_names_factor f ≡ false → (t : Table) → usage_factor f t ≡ Ok t
  nameless-factor (SingleSigFactor l a b) h t = idle-two (has_names a) (has_names b) (usage a t) (usage b) t (λ n. nameless a n t) (λ n. nameless b n t) h
  nameless-factor (MultiSigFactor l m fs) h t = nameless-factors fs h t

  nameless-inner : (f : Factor) → has_names_factor f ≡ false → (t : Table) → usage_inner f t ≡ Ok t
  nameless-inner (SingleSigFactor l a b) h t = idle-two (has_names a) (has_names b) (usage a t) (usage b) t (λ n. nameless a n t) (λ n. nameless b n t) h
  nameless-inner (MultiSigFactor l m fs) h t = refl

  nameless-factors : (fs : Factors) → has_names_factors fs ≡ false → (t : Table) → usage_factors fs t ≡ Ok t
  nameless-factors []ᶠ h t = refl
  nameless-factors (f ∷ᶠ fs) h t = idle-two (has_names_factor f) (has_names_factors fs) (usage_inner f t) (usage_factors fs) t (λ n. nameless-inner f n t) (λ n. nameless-factors fs n t) h

-- of nodes, one after the other
unfoldable pub any_names : List Node → Bool
any_names [] = false
any_names (expression e ∷ ns) = has_names e || any_names ns
any_names (factor f ∷ ns) = has_names_factor f || any_names ns

-- two expressions, and factors, before others
two-names : (a b : Expression) (ns : List Node) → (has_names a || has_names b || any_names ns) ≡ any_names (expression a ∷ expression b ∷ ns)
unfolding any_names
two-names a b ns = or_assoc (has_names a) (has_names b) (any_names ns)

factors-names : (fs : Factors) (ns : List Node) → (has_names_factors fs || any_names ns) ≡ any_names (factor_nodes fs ++ ns)
unfolding has_names any_names
factors-names []ᶠ ns = refl
factors-names (f ∷ᶠ fs) ns = or_assoc (has_names_factor f) (has_names_factors fs) (any_names ns) ∙ ap (λ b. has_names_factor f || b) (factors-names fs ns)

module _ (L : ℕ → Line) (s : List ℕ) where
  expression-names : {i j : ℕ} {e : Expression} (ns : List Node) → SpellsExpression L s i e j → (has_names e || any_names ns) ≡ (is_name (L i) || any_names (children (expression e) ++ ns))
  unfolding has_names any_names
  expression-names ns (SpellsExpression.variable q r) = rw q
  expression-names ns (SpellsExpression.number q) = rw q
  expression-names ns (SpellsExpression.boolean q) = rw q
  expression-names ns (SpellsExpression.string q r) = rw q
  expression-names ns (SpellsExpression.logical {a = a} {b = b} q u v) = rw q (two-names a b ns)
  expression-names ns (SpellsExpression.compare {a = a} {b = b} q u v) = rw q (two-names a b ns)
  expression-names ns (SpellsExpression.arithmetic {a = a} {b = b} q u v) = rw q (two-names a b ns)
  expression-names ns (SpellsExpression.unary q a) = rw q
  expression-names ns (SpellsExpression.hash q a) = rw q
  expression-names ns (SpellsExpression.size q a) = rw q
  expression-names ns (SpellsExpression.check_sig q f) = rw q

  factor-names : {i j : ℕ} {f : Factor} (ns : List Node) → SpellsFactor L s i f j → (has_names_factor f || any_names ns) ≡ (is_name (L i) || any_names (children (factor f) ++ ns))
  unfolding has_names any_names
  factor-names ns (SpellsFactor.single {a = a} {b = b} q u v) = rw q (two-names a b ns)
  factor-names ns (SpellsFactor.multi {fs = fs} q u) = rw q (factors-names fs ns)

  -- the first is a name, or there are some among what is due after its line
  pub first-name : {n i j : ℕ} {ns : List Node} → SpellsNodes L s n i ns j → 0 < n → any_names ns ≡ (is_name (L i) || any_names (opened ns))
  unfolding any_names
  first-name SpellsNodes.nil h = absurd (omega arith)
  first-name (SpellsNodes.expression {ns = ns} u v) h = expression-names ns u
  first-name (SpellsNodes.factor {ns = ns} u v) h = factor-names ns u

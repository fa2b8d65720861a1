-- The nodes that are still due: what stands below the line of the first comes before the others.
use Prim.Native.Nat.{ℕ, suc, ◌+◌, ◌-◌, ◌≤◌, ◌<◌}
use native.Mathlib.Numerals.{add-one}
use native.Mathlib.Omega.{arith}
use mathlib.Core.List.{List, [], ◌∷◌, ◌++◌}
use mathlib.Core.Path.{◌≡◌, refl, ap, subst}
use Rattle.ast.specs.Tree.{Expression, Factor, Factors, Variable, NumberLiteral, BooleanLiteral, StringLiteral, LogicalExpression, CompareExpression, UnaryMathExpression, BinaryMathExpression, UnaryCryptoExpression, CheckSigExpression, ByteExpression, SingleSigFactor, MultiSigFactor, []ᶠ, ◌∷ᶠ◌}
use Rattle.listing.specs.declared.Line.{Line}
use Rattle.rows.specs.Rows.{line_in, HasRow}
use Rattle.reader.specs.Ceilings.{max_lines}
use Rattle.reader.specs.Parts.{factor_kind, kind_of, count_of}
use Rattle.reader.specs.Spells.{SpellsExpression, SpellsFactor, SpellsFactors}
use Rattle.reader.proofs.Agree.{expression-on, factor-on}
use Rattle.nodes.specs.Stands.{ExpressionAt, FactorAt}
use Rattle.nodes.proofs.Laws.{below}
use Rattle.nodes.specs.Nodes.{Node, expression, factor, SpellsNodes, NodesAt}

-- the nodes directly below a node
abbrev pub factor_nodes : Factors → List Node
factor_nodes []ᶠ = []
factor_nodes (f ∷ᶠ fs) = factor f ∷ factor_nodes fs

abbrev pub children : Node → List Node
children (expression (Variable l n x)) = []
children (expression (NumberLiteral l v)) = []
children (expression (BooleanLiteral l b)) = []
children (expression (StringLiteral l b m)) = []
children (expression (LogicalExpression l o a b)) = expression a ∷ expression b ∷ []
children (expression (CompareExpression l o a b)) = expression a ∷ expression b ∷ []
children (expression (UnaryMathExpression l o a)) = expression a ∷ []
children (expression (BinaryMathExpression l o a b)) = expression a ∷ expression b ∷ []
children (expression (UnaryCryptoExpression l o a)) = expression a ∷ []
children (expression (CheckSigExpression l f)) = factor f ∷ []
children (expression (ByteExpression l a)) = expression a ∷ []
children (factor (SingleSigFactor l a b)) = expression a ∷ expression b ∷ []
children (factor (MultiSigFactor l m fs)) = factor_nodes fs

-- what is due after the line of the first
abbrev pub opened : List Node → List Node
opened [] = []
opened (x ∷ ns) = children x ++ ns

module _ (L : ℕ → Line) (s : List ℕ) where
  pub counted : {m n i j : ℕ} {ns : List Node} → SpellsNodes L s m i ns j → m ≡ n → SpellsNodes L s n i ns j
  counted {i = i} {j} {ns} v e = subst (λ n. SpellsNodes L s n i ns j) e v

  factors-before : {m n i j k : ℕ} {fs : Factors} {ns : List Node} → SpellsFactors L s m i fs k → SpellsNodes L s n k ns j → SpellsNodes L s (m + n) i (factor_nodes fs ++ ns) j
  factors-before SpellsFactors.nil v = counted v (omega arith)
  factors-before (SpellsFactors.cons u w) v = counted (SpellsNodes.factor u (factors-before w v)) (omega arith)

  below-expression : {n i j k : ℕ} {e : Expression} {ns : List Node} → SpellsExpression L s i e k → SpellsNodes L s n k ns j → SpellsNodes L s (count_of (L i) + n) (suc i) (children (expression e) ++ ns) j
  below-expression (SpellsExpression.variable q r) v = counted v (omega (arith, ap count_of q))
  below-expression (SpellsExpression.number q) v = counted v (omega (arith, ap count_of q))
  below-expression (SpellsExpression.boolean q) v = counted v (omega (arith, ap count_of q))
  below-expression (SpellsExpression.string q r) v = counted v (omega (arith, ap count_of q))
  below-expression (SpellsExpression.logical q a b) v = counted (SpellsNodes.expression a (SpellsNodes.expression b v)) (omega (arith, ap count_of q))
  below-expression (SpellsExpression.compare q a b) v = counted (SpellsNodes.expression a (SpellsNodes.expression b v)) (omega (arith, ap count_of q))
  below-expression (SpellsExpression.arithmetic q a b) v = counted (SpellsNodes.expression a (SpellsNodes.expression b v)) (omega (arith, ap count_of q))
  below-expression (SpellsExpression.unary q a) v = counted (SpellsNodes.expression a v) (omega (arith, ap count_of q))
  below-expression (SpellsExpression.hash q a) v = counted (SpellsNodes.expression a v) (omega (arith, ap count_of q))
  below-expression (SpellsExpression.size q a) v = counted (SpellsNodes.expression a v) (omega (arith, ap count_of q))
  below-expression (SpellsExpression.check_sig q f) v = counted (SpellsNodes.factor f v) (omega (arith, ap count_of q))

  below-factor : {n i j k : ℕ} {f : Factor} {ns : List Node} → SpellsFactor L s i f k → SpellsNodes L s n k ns j → SpellsNodes L s (count_of (L i) + n) (suc i) (children (factor f) ++ ns) j
  below-factor (SpellsFactor.single q a b) v = counted (SpellsNodes.expression a (SpellsNodes.expression b v)) (omega (arith, ap count_of q))
  below-factor (SpellsFactor.multi q u) v = counted (factors-before u v) (omega (arith, ap count_of q))

  -- the nodes below the first and the others, one row on
  nodes-below : {n i j : ℕ} {ns : List Node} → SpellsNodes L s (suc n) i ns j → SpellsNodes L s (count_of (L i) + n) (suc i) (opened ns) j
  nodes-below (SpellsNodes.expression u v) = below-expression u v
  nodes-below (SpellsNodes.factor u v) = below-factor u v

  -- the same as a loop counts them
  pub nodes-more : {n i j m : ℕ} {ns : List Node} → SpellsNodes L s n i ns j → 0 < n → m ≡ n - 1 + count_of (L i) → SpellsNodes L s m (i + 1) (opened ns) j
  nodes-more {n} {i} v h e = rw add-one (counted (nodes-below {n = n - 1} (counted v (omega arith))) (omega arith))

  pub nodes-none : {n i j : ℕ} {ns : List Node} → SpellsNodes L s n i ns j → n ≤ 0 → (ns ≡ []) × (i ≡ j)
  nodes-none SpellsNodes.nil h = (refl, refl)
  nodes-none (SpellsNodes.expression u v) h = absurd (omega arith)
  nodes-none (SpellsNodes.factor u v) h = absurd (omega arith)

  -- each has a row of its own
  pub nodes-many : {n i j : ℕ} {ns : List Node} → SpellsNodes L s n i ns j → i + n ≤ j
  nodes-many SpellsNodes.nil = omega arith
  nodes-many (SpellsNodes.expression u v) = omega (arith, expression-on L s u, nodes-many v)
  nodes-many (SpellsNodes.factor u v) = omega (arith, factor-on L s u, nodes-many v)

  -- the kind of its line
  expression-kind : {i k : ℕ} {e : Expression} → SpellsExpression L s i e k → kind_of (L i) ≤ factor_kind
  expression-kind (SpellsExpression.variable q r) = omega (arith, ap kind_of q)
  expression-kind (SpellsExpression.number q) = omega (arith, ap kind_of q)
  expression-kind (SpellsExpression.boolean q) = omega (arith, ap kind_of q)
  expression-kind (SpellsExpression.string q r) = omega (arith, ap kind_of q)
  expression-kind (SpellsExpression.logical q a b) = omega (arith, ap kind_of q)
  expression-kind (SpellsExpression.compare q a b) = omega (arith, ap kind_of q)
  expression-kind (SpellsExpression.arithmetic q a b) = omega (arith, ap kind_of q)
  expression-kind (SpellsExpression.unary q a) = omega (arith, ap kind_of q)
  expression-kind (SpellsExpression.hash q a) = omega (arith, ap kind_of q)
  expression-kind (SpellsExpression.size q a) = omega (arith, ap kind_of q)
  expression-kind (SpellsExpression.check_sig q f) = omega (arith, ap kind_of q)

  pub node-kind : {n i j : ℕ} {ns : List Node} → SpellsNodes L s n i ns j → 0 < n → kind_of (L i) ≤ factor_kind
  node-kind SpellsNodes.nil h = absurd (omega arith)
  node-kind (SpellsNodes.expression u v) h = expression-kind u
  node-kind (SpellsNodes.factor (SpellsFactor.single q a b) v) h = omega (arith, ap kind_of q)
  node-kind (SpellsNodes.factor (SpellsFactor.multi q u) v) h = omega (arith, ap kind_of q)

-- one expression, and one factor
pub one-expression : {s t : List ℕ} {i : ℕ} → ExpressionAt s t i → NodesAt s t 1 i
one-expression {s} {t} st = below (SpellsNodes (line_in t) s 1) st (SpellsNodes.expression st.spells SpellsNodes.nil) (omega arith)

pub one-factor : {s t : List ℕ} {i : ℕ} → FactorAt s t i → NodesAt s t 1 i
one-factor {s} {t} st = below (SpellsNodes (line_in t) s 1) st (SpellsNodes.factor st.spells SpellsNodes.nil) (omega arith)

-- the row of the first of n nodes, and those due after its line
module _ {s t : List ℕ} {n i : ℕ} (st : NodesAt s t n i) (h : 0 < n) where
  pub nodes-kind : kind_of (line_in t i) ≤ factor_kind
  nodes-kind = node-kind (line_in t) s st.spells h

  pub nodes-room : HasRow t i
  nodes-room = omega (arith, nodes-many (line_in t) s st.spells, st.within, st.rows.room)

  module _ {m : ℕ} (e : m ≡ n - 1 + count_of (line_in t i)) where
    pub nodes-on : NodesAt s t m (i + 1)
    nodes-on = below (SpellsNodes (line_in t) s m) st (nodes-more (line_in t) s st.spells h e) (omega arith)

    pub nodes-few : m ≤ max_lines
    nodes-few = omega (arith, nodes-many (line_in t) s nodes-on.spells, nodes-on.within, nodes-on.rows.few)

-- The rows of nodes, one after the other: what spells a tree spans one node.
use Prim.Native.Nat.{ℕ, suc, ◌+◌, ◌-◌, ◌≤◌, ◌<◌}
use native.Mathlib.Numerals.{add-one}
use native.Mathlib.Omega.{arith}
use mathlib.Core.List.{List}
use mathlib.Core.Path.{◌≡◌, refl, ap, subst}
use Rattle.ast.specs.Tree.{Expression, Factor, Factors, Statement, Block}
use Rattle.listing.specs.declared.Line.{Line}
use Rattle.rows.specs.Rows.{line_in, HasRow}
use Rattle.reader.specs.Ceilings.{max_lines}
use Rattle.reader.specs.Parts.{count_of}
use Rattle.reader.specs.Spells.{SpellsExpression, SpellsFactor, SpellsFactors, SpellsStatement, SpellsBlock, SpellsStatements}
use Rattle.nodes.specs.Stands.{Stands}
use Rattle.nodes.specs.Nodes.{Spans, Spanned}

module _ {L : ℕ → Line} where
  recounted : {m n i j : ℕ} → Spans L m i j → m ≡ n → Spans L n i j
  recounted {i = i} {j} v e = subst (λ n. Spans L n i j) e v

  -- the nodes below the line of the first and the others, one row on
  pub spans-more : {m n i j : ℕ} → Spans L n i j → 0 < n → m ≡ n - 1 + count_of (L i) → Spans L m (i + 1) j
  spans-more Spans.nil h e = absurd (omega arith)
  spans-more (Spans.cons v) h e = rw add-one (recounted v (omega arith))

  pub spans-none : {n i j : ℕ} → Spans L n i j → n ≤ 0 → i ≡ j
  spans-none Spans.nil h = refl
  spans-none (Spans.cons v) h = absurd (omega arith)

  -- each has a row of its own
  pub spans-many : {n i j : ℕ} → Spans L n i j → i + n ≤ j
  spans-many Spans.nil = omega arith
  spans-many (Spans.cons v) = omega (arith, spans-many v)

  first : {m n i j : ℕ} → Spans L m (suc i) j → m ≡ count_of (L i) + n → Spans L (suc n) i j
  first v e = Spans.cons (recounted v e)

  -- a tree before n other nodes
  module _ {s : List ℕ} where
    mutual
      pub expression-spans : {n i j k : ℕ} {e : Expression} → SpellsExpression L s i e k → Spans L n k j → Spans L (suc n) i j
      expression-spans (SpellsExpression.variable q r) v = first v (omega (arith, ap count_of q))
      expression-spans (SpellsExpression.number q) v = first v (omega (arith, ap count_of q))
      expression-spans (SpellsExpression.boolean q) v = first v (omega (arith, ap count_of q))
      expression-spans (SpellsExpression.string q r) v = first v (omega (arith, ap count_of q))
      expression-spans (SpellsExpression.logical q a b) v = first (expression-spans a (expression-spans b v)) (omega (arith, ap count_of q))
      expression-spans (SpellsExpression.compare q a b) v = first (expression-spans a (expression-spans b v)) (omega (arith, ap count_of q))
      expression-spans (SpellsExpression.arithmetic q a b) v = first (expression-spans a (expression-spans b v)) (omega (arith, ap count_of q))
      expression-spans (SpellsExpression.unary q a) v = first (expression-spans a v) (omega (arith, ap count_of q))
      expression-spans (SpellsExpression.hash q a) v = first (expression-spans a v) (omega (arith, ap count_of q))
      expression-spans (SpellsExpression.size q a) v = first (expression-spans a v) (omega (arith, ap count_of q))
      expression-spans (SpellsExpression.check_sig q f) v = first (factor-spans f v) (omega (arith, ap count_of q))

      pub factor-spans : {n i j k : ℕ} {f : Factor} → SpellsFactor L s i f k → Spans L n k j → Spans L (suc n) i j
      factor-spans (SpellsFactor.single q a b) v = first (expression-spans a (expression-spans b v)) (omega (arith, ap count_of q))
      factor-spans (SpellsFactor.multi q fs) v = first (factors-span fs v) (omega (arith, ap count_of q))

      factors-span : {m n i j k : ℕ} {fs : Factors} → SpellsFactors L s m i fs k → Spans L n k j → Spans L (m + n) i j
      factors-span SpellsFactors.nil v = recounted v (omega arith)
      factors-span (SpellsFactors.cons f fs) v = recounted (factor-spans f (factors-span fs v)) (omega arith)

    mutual
      pub statement-spans : {n i j k : ℕ} {t : Statement} → SpellsStatement L s i t k → Spans L n k j → Spans L (suc n) i j
      statement-spans (SpellsStatement.if_only q e b) v = first (expression-spans e (block-spans b v)) (omega (arith, ap count_of q))
      statement-spans (SpellsStatement.if_else q e b c) v = first (expression-spans e (block-spans b (block-spans c v))) (omega (arith, ap count_of q))
      statement-spans (SpellsStatement.wait q) v = first v (omega (arith, ap count_of q))
      statement-spans (SpellsStatement.verify q e) v = first (expression-spans e v) (omega (arith, ap count_of q))
      statement-spans (SpellsStatement.return q e) v = first (expression-spans e v) (omega (arith, ap count_of q))

      block-spans : {n i j k : ℕ} {b : Block} → SpellsBlock L s i b k → Spans L n k j → Spans L (suc n) i j
      block-spans (SpellsBlock.block q b) v = first (statements-before b v) (omega (arith, ap count_of q))

      statements-before : {m n i j k : ℕ} {b : Block} → SpellsStatements L s m i b k → Spans L n k j → Spans L (m + n) i j
      statements-before SpellsStatements.nil v = recounted v (omega arith)
      statements-before (SpellsStatements.cons t b) v = recounted (statement-spans t (statements-before b v)) (omega arith)

    pub statements-span : {n i j : ℕ} {b : Block} → SpellsStatements L s n i b j → Spans L n i j
    statements-span b = recounted (statements-before b Spans.nil) (omega arith)

-- a tree that stands is n nodes that do
pub spanned : {A : Type 0} {R : ℕ → A → ℕ → Type 0} {s t : List ℕ} {n i : ℕ} (st : Stands R s t i) → Spans (line_in t) n i st.next → Spanned t n i
spanned st v = record { next = st.next; spans = v; few = omega (arith, st.within, st.rows.few); room = omega (arith, st.within, st.rows.room) }

-- the row of the first of n nodes, and those due after its line
module _ {t : List ℕ} {n i : ℕ} (st : Spanned t n i) (h : 0 < n) where
  pub spanned-room : HasRow t i
  spanned-room = omega (arith, spans-many st.spans, st.room)

  module _ {m : ℕ} (e : m ≡ n - 1 + count_of (line_in t i)) where
    pub spanned-on : Spanned t m (i + 1)
    spanned-on = record { next = st.next; spans = spans-more st.spans h e; few = st.few; room = st.room }

    pub spanned-few : m ≤ max_lines
    spanned-few = omega (arith, spans-many spanned-on.spans, spanned-on.few)

-- What stands below a statement and a block, from their lines.
use Prim.Native.Nat.{ℕ, suc, ◌+◌, ◌-◌, ◌≤◌, ◌<◌}
use native.Mathlib.Numerals.{add-one}
use native.Mathlib.Omega.{arith}
use mathlib.Core.Bool.{Bool, true, false}
use mathlib.Core.List.{List}
use mathlib.Core.Path.{◌≡◌, refl, sym, ap, ◌∙◌, subst}
use Rattle.ast.specs.declared.Location.{Location}
use Rattle.ast.specs.declared.ErrorKind.TheVariants.{NoReturn, UnreachableCode}
use Rattle.ast.specs.Tree.{Expression, Statement, Block, IfStatement, IfElseStatement, LocktimeStatement, VerifyStatement, ExpressionStatement, []ᵇ, ◌∷ᵇ◌, place, nowhere}
use Rattle.listing.specs.declared.StatementLine.{StatementLine}
use Rattle.listing.specs.declared.Line.{Line}
use Rattle.rows.specs.Rows.{line_in}
use Rattle.reader.specs.Spells.{SpellsExpression, SpellsStatement, SpellsBlock, SpellsStatements}
use Rattle.reader.proofs.Inversion.{StatementFrom}
use Rattle.reader.proofs.Agree.{expression-on, statement-on, block_on, statements-on}
use Rattle.rules.specs.Result.{refused}
use Rattle.rules.specs.Flow.{goes_on, followed, flow_last, flow}
use Rattle.nodes.specs.Stands.{ExpressionAt, StatementAt, BlockAt, StatementsAt}
use Rattle.nodes.proofs.Laws.{below, at_row, stands_at, statement-is, block-is}
use Rattle.flow.specs.Lines.{line_goes_on, line_place}

module _ (L : ℕ → Line) (s : List ℕ) where
  -- what stands after the if-block, up to row j: nothing, or the else-block
  abbrev pub Rest : Location → Expression → Block → Bool → ℕ → Statement → ℕ → Type 0
  Rest w a b false m t j = (m ≡ j) × (t ≡ IfStatement w a b)
  Rest w a b true m t j = (c : Block) × SpellsBlock L s m c j × (t ≡ IfElseStatement w a b c)

  -- what stands from row n on, after the line of a statement t
  abbrev pub After : StatementLine → ℕ → Statement → ℕ → Type 0
  After (StatementLine.IfStatement w e) n t j = (a : Expression) × (b : Block) × (k : ℕ) × (m : ℕ) × SpellsExpression L s n a k × SpellsBlock L s k b m × (m ≤ j) × Rest w a b e m t j
  After (StatementLine.LocktimeStatement w o v) n t j = (n ≡ j) × (t ≡ LocktimeStatement w n o v)
  After (StatementLine.VerifyStatement w) n t j = (a : Expression) × SpellsExpression L s n a j × (t ≡ VerifyStatement w a)
  After (StatementLine.ExpressionStatement w) n t j = (a : Expression) × SpellsExpression L s n a j × (t ≡ ExpressionStatement w a)

  after-from : (i j : ℕ) (t : Statement) (x : StatementLine) → StatementFrom L s x i t j → After x (suc i) t j
  after-from i j t (StatementLine.IfStatement w false) (a, b, k, u, v, p) = (a, b, k, j, u, v, omega arith, (refl, p))
  after-from i j t (StatementLine.IfStatement w true) (a, b, c, k, m, u, v, x, p) = (a, b, k, m, u, v, omega (arith, block_on L s x), (c, x, p))
  after-from i j t (StatementLine.LocktimeStatement w o v) (p, q) = (sym q, p)
  after-from i j t (StatementLine.VerifyStatement w) (a, u, p) = (a, u, p)
  after-from i j t (StatementLine.ExpressionStatement w) (a, u, p) = (a, u, p)

  says-from : (n j : ℕ) (t : Statement) (x : StatementLine) → After x n t j → (goes_on t ≡ line_goes_on x) × (place t ≡ line_place x)
  unfolding goes_on place
  says-from n j t (StatementLine.IfStatement w false) (a, b, k, m, u, v, le, (q, p)) = (ap goes_on p, ap place p)
  says-from n j t (StatementLine.IfStatement w true) (a, b, k, m, u, v, le, (c, y, p)) = (ap goes_on p, ap place p)
  says-from n j t (StatementLine.LocktimeStatement w o v) (q, p) = (ap goes_on p, ap place p)
  says-from n j t (StatementLine.VerifyStatement w) (a, u, p) = (ap goes_on p, ap place p)
  says-from n j t (StatementLine.ExpressionStatement w) (a, u, p) = (ap goes_on p, ap place p)

module _ {L : ℕ → Line} {s : List ℕ} where
  pub after_is : {i j : ℕ} {t : Statement} {x y : StatementLine} → SpellsStatement L s i t j → L i ≡ Line.Statement x → x ≡ y → After L s y (i + 1) t j
  after_is {i} {j} {t} {x} {y} sp h q = subst (λ n. After L s y n t j) (sym (add-one i)) (subst (λ y. After L s y (suc i) t j) q (after-from L s i j t x (statement-is sp h)))

  -- after the line of an if, with its else or without
  pub after-if : {i j : ℕ} {t : Statement} {x : StatementLine} {w : Location} {e b : Bool} → SpellsStatement L s i t j → L i ≡ Line.Statement x → x ≡ StatementLine.IfStatement w e → e ≡ b → After L s (StatementLine.IfStatement w b) (i + 1) t j
  after-if {w = w} sp h q r = after_is sp h (q ∙ ap (StatementLine.IfStatement w) r)

  -- the statements of a block, from its line
  pub block-statements : {i j n : ℕ} {b : Block} → SpellsBlock L s i b j → L i ≡ Line.Block n → SpellsStatements L s n (i + 1) b j
  block-statements sp h = rw add-one (block-is sp h)

  -- one statement, and the others
  pub statements-more : {n i j : ℕ} {b : Block} → SpellsStatements L s n i b j → 0 < n → (t : Statement) × (d : Block) × (k : ℕ) × SpellsStatement L s i t k × SpellsStatements L s (n - 1) k d j × (b ≡ t ∷ᵇ d)
  statements-more SpellsStatements.nil h = absurd (omega arith)
  statements-more (SpellsStatements.cons {j = k} {n = m} {t = t} {b = d} u v) h = let e : suc m - 1 ≡ m = omega arith in (t, d, k, u, rw e v, refl)

  pub statements-none : {n i j : ℕ} {b : Block} → SpellsStatements L s n i b j → n ≤ 0 → (i ≡ j) × (b ≡ []ᵇ)
  statements-none SpellsStatements.nil h = (refl, refl)
  statements-none (SpellsStatements.cons u v) h = absurd (omega arith)

  -- the first two statements
  pub two-more : {n i j : ℕ} {b : Block} → SpellsStatements L s n i b j → 1 < n → (t : Statement) × (u : Statement) × (d : Block) × (k : ℕ) × (m : ℕ) × SpellsStatement L s i t k × SpellsStatement L s k u m × SpellsStatements L s (n - 1) k (u ∷ᵇ d) j × (b ≡ t ∷ᵇ u ∷ᵇ d)
  two-more {n} {i} {j} sp h =
      let (t, c, k, v, w, p) = statements-more sp (omega arith) in
      let (u, d, m, x, y, q) = statements-more w (omega arith) in
      (t, u, d, k, m, v, x, subst (λ c. SpellsStatements L s (n - 1) k c j) q w, p ∙ ap (λ c. t ∷ᵇ c) q)

  -- what a statement's line says of it
  pub says : {i j : ℕ} {t : Statement} {x : StatementLine} → SpellsStatement L s i t j → L i ≡ Line.Statement x → (goes_on t ≡ line_goes_on x) × (place t ≡ line_place x)
  says {i} {j} {t} {x} sp h = says-from L s (i + 1) j t x (after_is sp h refl)

-- the statements of a block that stands
pub statements-stand : {s t : List ℕ} {n i : ℕ} → BlockAt s t i → line_in t i ≡ Line.Block n → StatementsAt s t n (i + 1)
statements-stand {s} {t} {n} st h = below (SpellsStatements (line_in t) s n) st (block-statements st.spells h) (omega arith)

-- the first of n statements that stand, and the others, from the row k to which a walk over the first came
module _ {s t : List ℕ} {n i : ℕ} (st : StatementsAt s t n i) (h : 0 < n) where
  pub first-stands : StatementAt s t i
  first-stands = let (x, d, k, u, v, q) = statements-more st.spells h in below (SpellsStatement (line_in t) s) st u (statements-on (line_in t) s v)

  module _ {k : ℕ} (e : (x : Statement) (j : ℕ) → SpellsStatement (line_in t) s i x j → k ≡ j) where
    pub others-stand : StatementsAt s t (n - 1) k
    others-stand = let (x, d, m, u, v, q) = statements-more st.spells h in stands_at (SpellsStatements (line_in t) s (n - 1)) st (e x m u) v (omega arith)

    pub others-after : i < k
    others-after = let u = first-stands.spells in omega (arith, statement-on (line_in t) s u, e _ _ u)

-- the condition of an if that stands, its if-block at the row k to which a walk over the condition came, and its else-block at the row m to which a walk over the if-block came
module _ {s t : List ℕ} {i : ℕ} (st : StatementAt s t i) {x : StatementLine} {w : Location} {e : Bool} (h : line_in t i ≡ Line.Statement x) (q : x ≡ StatementLine.IfStatement w e) where
  pub condition-stands : ExpressionAt s t (i + 1)
  condition-stands = let (a, b, k, m, u, v, le, r) = after_is st.spells h q in below (SpellsExpression (line_in t) s) st u (omega (arith, block_on (line_in t) s v))

  module _ {k : ℕ} (c : (a : Expression) (j : ℕ) → SpellsExpression (line_in t) s (i + 1) a j → k ≡ j) where
    pub block-stands : (i < k) × BlockAt s t k
    block-stands = let (a, b, n, m, u, v, le, r) = after_is st.spells h q in (omega (arith, expression-on (line_in t) s u, c a n u), stands_at (SpellsBlock (line_in t) s) st (c a n u) v le)

    pub else-stands : {m : ℕ} → ((b : Block) (j : ℕ) → SpellsBlock (line_in t) s k b j → m ≡ j) → e ≡ true → (i < m) × BlockAt s t m
    else-stands d f =
        let (a, b, n, m, u, v, le, (o, y, p)) = after-if st.spells h q f in
        let z = d b m (at_row (SpellsBlock (line_in t) s) (c a n u) v) in
        (omega (arith, expression-on (line_in t) s u, block_on (line_in t) s v, z), stands_at (SpellsBlock (line_in t) s) st z y (omega arith))

-- flow, by a block's first statements
pub flow-on : (t u : Statement) (d : Block) → goes_on t ≡ true → flow (t ∷ᵇ u ∷ᵇ d) ≡ flow (u ∷ᵇ d)
unfolding flow followed
flow-on t u d h = rw h

pub flow-stop : (t u : Statement) (d : Block) → goes_on t ≡ false → flow (t ∷ᵇ u ∷ᵇ d) ≡ refused UnreachableCode (place u)
unfolding flow followed
flow-stop t u d h = rw h

pub flow-end : (t : Statement) → flow (t ∷ᵇ []ᵇ) ≡ flow_last t
unfolding flow followed
flow-end t = refl

pub flow-empty : flow []ᵇ ≡ refused NoReturn nowhere
unfolding flow
flow-empty = refl

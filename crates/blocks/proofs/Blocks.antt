-- The statements of a block: what the walk over them answers, from what its steps answer.
use Rattle.std.proofs.Common.{ℕ, suc, ◌+◌, ◌-◌, ◌≤◌, ◌<◌, Bool, true, false, List, set, ◌≡◌, refl, sym, ap, ap₂, subst₂, ◌∙◌, Ok, Err, IsErrAnd, arith}
use Rattle.std.proofs.lemmas.Result.{err_from_is_err_and}
use Rattle.reader.specs.Ast.{Location, StatementLine, Line, CompileError, Expression, Statement, Block}
use Rattle.reader.specs.Spells.{SpellsExpression, SpellsStatement, SpellsBlock, SpellsStatements}
use Rattle.rows.specs.Rows.{line_in}
use Rattle.nodes.specs.Stands.{ExpressionAt, StatementAt, BlockAt, StatementsAt}
use Rattle.nodes.proofs.Laws.{below, at_row}
use Rattle.flow.proofs.Statements.{after_is, after-if, block-statements, statements-more, statements-none, statements-stand, first-stands, others-stand, others-after, condition-stands, block-stands, else-stands}
use Rattle.rules.specs.Result.{Result, Checked, ◌>>=◌}
use Rattle.rules.specs.Table.{Table}
use Rattle.rules.proofs.Basics.{Ok-injective, bound}
use Rattle.paths.specs.declared.Path.{Path}
use Rattle.paths.specs.Path.{table_of, WellFormed}
use Rattle.usage.specs.declared.Used.{Used}
use Rattle.declarations.specs.declared.Declared.{Declared}
use Rattle.tables.specs.Held.{Held, walk_held, statement_held, examine_held, cross_held}
use Rattle.tables.specs.State.{tables_of, Ready}
use Rattle.tables.proofs.Held.{held_cons, held_none, held-if, held-else}
use Rattle.tables.proofs.State.{enough, in_use, tables-set, table-at, element-set}
use Rattle.statements.specs.declared.Step.{Step}
use Rattle.statements.specs.declared.Walk.{Walk}
use Rattle.statements.specs.Steps.{examined, Told}
use Rattle.statements.specs.Walks.{resumed, turned, leaving, held_of, held_in, Moved, Tried, Stepped}
use Rattle.statements.proofs.Walking.{at_next, stepped-on, tried-is}

-- what the rules make of a block, on from what is held
abbrev block_from : Declared → Held → Block → Result Held
block_from d h b = walk_held b d.target h.tables h.branch

module _ (s t : List ℕ) (d : Declared) where
  -- of each expression at l, statement or block that the rows spell where the walk goes on: P of what the rules make of it, and of the row after it
  abbrev pub EachExpression : Walk → Location → (Result Held → ℕ → Type 0) → Type 0
  EachExpression v l P = (e : Expression) (j : ℕ) → SpellsExpression (line_in t) s (v.next + 1) e j → P (examined d.target l e (tables_of s t d v.paths) v.branch) j

  abbrev pub EachStatement : Walk → (Result Held → ℕ → Type 0) → Type 0
  EachStatement v P = (x : Statement) (j : ℕ) → SpellsStatement (line_in t) s v.next x j → P (statement_held x d.target (tables_of s t d v.paths) v.branch) j

  abbrev pub EachBlock : Walk → (Result Held → ℕ → Type 0) → Type 0
  EachBlock v P = (b : Block) (j : ℕ) → SpellsBlock (line_in t) s v.next b j → P (block_from d (held_of s t d v) b) j

  -- a step that passed: the rules come to the walk v, which goes on at row j
  abbrev pub Passed : Walk → Result Held → ℕ → Type 0
  Passed v w j = (w ≡ Ok (held_of s t d v)) × (v.next ≡ j) × Ready s t d v.paths

  -- in the middle of the block at the row of v₀: n of its statements are left, and the walk is v
  pub record Midway (n : ℕ) (v₀ v : Walk) : Type 0 where
    pub past : v₀.next < v.next
    pub ready : Ready s t d v.paths
    pub stand : StatementsAt s t n v.next
    pub spelled : EachBlock v₀ (λ w j. (b : Block) × SpellsStatements (line_in t) s n v.next b j × (w ≡ block_from d (held_of s t d v) b))

  -- at the block of an if at l, which stands at the row of v: its condition took u, and the walk is v'
  pub record Entered (v : Walk) (l : Location) (h : Bool) (u : Used) (v' : Walk) : Type 0 where
    pub stand : StatementAt s t v.next
    pub ready : Ready s t d v.paths
    pub line : line_in t v.next ≡ Line.Statement (StatementLine.IfStatement l h)
    pub result : Result Used
    pub tried : EachExpression v l (λ w j. Tried s t d w j v result)
    pub was : result ≡ Ok u
    pub on : v' ≡ resumed v u

  -- at the step from that block to the else-block: the walk is v₂
  pub record Crossing (v : Walk) (l : Location) (h : Bool) (u : Used) (v' v₂ : Walk) : Type 0 where
    pub entered : Entered v l h u v'
    pub other : h ≡ true
    pub passed : EachBlock v' (Passed v₂)

-- what a step says that passed, or was refused
module _ {s t : List ℕ} {d : Declared} {w : Result Held} {j : ℕ} where
  passed : {r : Result Walk} {v : Walk} → Moved s t d w j r → r ≡ Ok v → Passed s t d v w j
  passed {v = v} m e = (sym m.result ∙ ap (held_in s t d) e, (m.onward v e).0, (m.onward v e).1)

  stopped : {r : Result Walk} {y : CompileError} → Moved s t d w j r → r ≡ Err y → w ≡ Err y
  stopped m e = sym m.result ∙ ap (held_in s t d) e

  pub moved-to : {r : Checked} {v : Walk} → Moved s t d w j (leaving r v) → {a : Unit {0}} → r ≡ Ok a → Passed s t d v w j
  moved-to m e = passed m (rw e)

  pub moved-stops : {r : Checked} (v : Walk) → Moved s t d w j (leaving r v) → {y : CompileError} → r ≡ Err y → w ≡ Err y
  moved-stops v m e = stopped m (rw e)

  pub moved-refused : (r : Checked) (v : Walk) {y : CompileError} → IsErrAnd r (λ z. z ≡ y) → w ≡ Err y → Moved s t d w j (leaving r v)
  moved-refused r v h e = let (z, k, l) = err_from_is_err_and r h in record { result = rw (k, l, e); onward = λ u o. let n : Err z ≡ Ok u = rw k at o in cc }

  module _ {A : Type 0} {n : ℕ} {go : A → Walk} {r : Result A} (m : Stepped s t d w j n go r) where
    pub stepped-to : {a : A} → r ≡ Ok a → Passed s t d (go a) w j
    stepped-to e = passed m.moved (rw e)

    pub stepped-stops : {y : CompileError} → r ≡ Err y → w ≡ Err y
    stepped-stops e = stopped m.moved (rw e)

-- before the first statement of a block
pub midway-start : {s t : List ℕ} {d : Declared} {v : Walk} {n : ℕ} → BlockAt s t v.next → Ready s t d v.paths → line_in t v.next ≡ Line.Block n → Midway s t d (n - 0) v (record v { next = v.next + 1 })
midway-start {n = n} st r h = let e : n - 0 ≡ n = omega arith in rw e (record { past = omega arith; ready = r; stand = statements-stand st h; spelled = λ b j sp. (b, block-statements sp h, refl) })

module _ {s t : List ℕ} {d : Declared} {count k : ℕ} {v₀ v : Walk} (M : Midway s t d (count - k) v₀ v) where
  -- no statement is left
  pub midway-end : count ≤ k → EachBlock s t d v₀ (λ w j. Moved s t d w j (Ok v))
  midway-end z b j sp =
      let (c, u, p) = M.spelled b j sp in
      let (e, q) = statements-none u (omega arith) in
      record { result = sym (p ∙ rw (q, held_none)); onward = λ v' o. let z : v ≡ v' = cc in rw (← z) (e, M.ready) }

  -- the next statement: where it stands, and the walk if it is refused, and if it passed
  module _ (more : k < count) where
    pub next-stands : StatementAt s t v.next
    next-stands = first-stands M.stand (omega arith)

    walks : EachBlock s t d v₀ (λ w j. (x : Statement) × (b : Block) × (m : ℕ) × SpellsStatement (line_in t) s v.next x m × SpellsStatements (line_in t) s (count - k - 1) m b j ×
        (w ≡ (statement_held x d.target (tables_of s t d v.paths) v.branch >>= λ h. block_from d h b)))
    walks b j sp =
        let (c, u, p) = M.spelled b j sp in
        let (x, b, m, y, z, q) = statements-more u (omega arith) in
        (x, b, m, y, z, p ∙ ap (block_from d (held_of s t d v)) q ∙ held_cons x b d.target _ _)

    pub midway-stops : {y : CompileError} → EachStatement s t d v (λ w j. w ≡ Err y) → EachBlock s t d v₀ (λ w j. w ≡ Err y)
    midway-stops f b j sp = let (x, b, m, y, z, p) = walks b j sp in p ∙ rw (f x m y)

    pub midway-on : {u : Walk} → EachStatement s t d v (Passed s t d u) → Midway s t d (count - (k + 1)) v₀ u
    midway-on f =
        let e : count - (k + 1) ≡ count - k - 1 = omega arith in
        rw e (record {
          past = omega (arith, M.past, others-after M.stand (omega arith) (λ x j u. (f x j u).1));
          ready = (f _ _ next-stands.spells).2;
          stand = others-stand M.stand (omega arith) (λ x j u. (f x j u).1);
          spelled = λ b j sp. let (x, b, m, y, z, p) = walks b j sp in (b, at_row (SpellsStatements (line_in t) s (count - k - 1)) (f x m y).1 z, p ∙ rw (f x m y).0);
        })

-- a statement whose expression is examined on the path in use
module _ {s t : List ℕ} {d : Declared} {n : ℕ} {v₀ v : Walk} (M : Midway s t d n v₀ v) {r : Result Step} {a : Step} {l : Location}
    (T : (x : Statement) (j : ℕ) → SpellsStatement (line_in t) s v.next x j → Told s t d v.branch x v.next j r) (e : r ≡ Ok a) (f : a ≡ Step.Examine l) where
  pub told-stands : StatementAt s t v.next → ExpressionAt s t (v.next + 1)
  told-stands st = below (SpellsExpression (line_in t) s) st (at_next (rw (e, f) at (T _ _ st.spells)).1) (omega arith)

  pub told-examined : {q : Result Used} → EachExpression s t d v l (λ w j. Tried s t d w j v q) → EachStatement s t d v (λ w j. Stepped s t d w j v.branch (resumed v) q)
  told-examined E x j sp = let (y, u, h, n) = rw (e, f) at (T x j sp) in stepped-on _ M.ready (tried-is (h v.paths (in_use v.branch M.ready)) (E y j (at_next u)))

refused_bind : {A : Type 0} (m : Result A) (f : A → Held) {y : CompileError} → (m >>= λ a. Ok (f a)) ≡ Err y → m ≡ Err y
refused_bind (Ok a) f h = cc
refused_bind (Err x) f h = cc

-- an if whose condition is refused
pub if-stops : {s t : List ℕ} {d : Declared} (v : Walk) {l : Location} {h : Bool} {q : Result Used} {y : CompileError} →
    Ready s t d v.paths → line_in t v.next ≡ Line.Statement (StatementLine.IfStatement l h) → EachExpression s t d v l (λ w j. Tried s t d w j v q) → q ≡ Err y →
    EachStatement s t d v (λ w j. w ≡ Err y)
unfolding examined
if-stops v {h = false} r q f o x j sp = let (e, b, k, m, u, i, le, (n, p)) = after_is sp q refl in rw (p, held-if, refused_bind _ _ (stepped-stops (stepped-on _ r (f e k u)) o))
if-stops v {h = true} r q f o x j sp = let (e, b, k, m, u, i, le, (c, n, p)) = after_is sp q refl in rw (p, held-else, refused_bind _ _ (stepped-stops (stepped-on _ r (f e k u)) o))

-- an if whose condition passed: the path that it took, where its block stands, and what the walk of that block says of it
module _ {s t : List ℕ} {d : Declared} {v v' : Walk} {l : Location} {h : Bool} {u : Used} (K : Entered s t d v l h u v') where
  came : EachExpression s t d v l (Passed s t d v')
  came e j sp = rw K.on (stepped-to (stepped-on _ K.ready (K.tried e j sp)) K.was)

  pub entered-used : WellFormed s t u.path × (v.branch < d.count)
  entered-used = let o = (K.tried _ _ (condition-stands K.stand K.line refl).spells).onward u K.was in (o.1.formed, o.2)

  pub entered-stands : (v.next < v'.next) × (BlockAt s t v'.next × Ready s t d v'.paths)
  entered-stands = let (on, at) = block-stands K.stand K.line refl (λ e j sp. (came e j sp).1) in (on, (at, (came _ _ (condition-stands K.stand K.line refl).spells).2))

  -- what follows goes on with the condition's table, which is that of its path
  goes_on : (F : Table → Held → Result Held) (e : Expression) (j : ℕ) → SpellsExpression (line_in t) s (v.next + 1) e j →
      (examine_held d.target l e (tables_of s t d v.paths) v.branch >>= λ a. F a (record { tables = set (tables_of s t d v.paths) v.branch a; branch = v.branch })) ≡ F (table_of s t u.path) (held_of s t d v')
  unfolding examined
  goes_on F e j sp =
      let b = bound (examine_held d.target l e (tables_of s t d v.paths) v.branch) _ (came e j sp).0 in
      let f = Ok-injective b.then in
      let on = ap (λ (h : Held). h.tables) f ∙ ap (λ (w : Walk). tables_of s t d w.paths) K.on ∙ tables-set s t d v.paths (enough K.ready) entered-used.1 u.path in
      let here = table-at s t d v.paths (enough K.ready) v.branch entered-used.1 in
      let o : b.value ≡ table_of s t u.path = cc (on, element-set _ v.branch b.value _ here, element-set _ v.branch (table_of s t u.path) _ here) in
      rw b.first (ap₂ F o f)

  pub if-only : h ≡ false → {r : Result Walk} → EachBlock s t d v' (λ w j. Moved s t d w j r) → EachStatement s t d v (λ w j. Moved s t d w j r)
  if-only o {r} m x j sp =
      let (e, b, k, n, c, i, le, (z, p)) = after-if sp K.line refl o in
      let is = ap (λ x. statement_held x d.target (tables_of s t d v.paths) v.branch) p ∙ held-if l e b d.target _ _ ∙ goes_on (λ a h. block_from d h b) e k c in
      subst₂ (λ w j. Moved s t d w j r) (sym is) z (m b n (at_row (SpellsBlock (line_in t) s) (came e k c).1 i))

  -- with an else: its two blocks, and what the rules make of it
  parts : h ≡ true → EachStatement s t d v (λ w j. (b : Block) × (k : ℕ) × (c : Block) × SpellsBlock (line_in t) s v'.next b k × SpellsBlock (line_in t) s k c j ×
      (w ≡ (block_from d (held_of s t d v') b >>= λ h. cross_held l (table_of s t u.path) h >>= λ h. block_from d h c)))
  parts o x j sp =
      let (e, b, k, n, a, i, le, (c, y, p)) = after-if sp K.line refl o in
      let after = goes_on (λ a h. block_from d h b >>= λ h. cross_held l a h >>= λ h. block_from d h c) e k a in
      (b, n, c, at_row (SpellsBlock (line_in t) s) (came e k a).1 i, y, ap (λ x. statement_held x d.target (tables_of s t d v.paths) v.branch) p ∙ held-else l e b c d.target _ _ ∙ after)

  pub block-stops : h ≡ true → {r : Checked} (v₂ : Walk) → EachBlock s t d v' (λ w j. Moved s t d w j (leaving r v₂)) → {y : CompileError} → r ≡ Err y → EachStatement s t d v (λ w j. w ≡ Err y)
  block-stops o v₂ m e x j sp = let (b, k, c, i, y, p) = parts o x j sp in p ∙ rw (moved-stops v₂ (m b k i) e)

-- from there on: the step is refused, or passes, and the else-block is walked on the next path
module _ {s t : List ℕ} {d : Declared} {v v' v₂ : Walk} {l : Location} {h : Bool} {u : Used} (K : Crossing s t d v l h u v' v₂) where
  pub crossing-ready : Ready s t d v₂.paths
  crossing-ready = (K.passed _ _ (entered-stands K.entered).1.0.spells).2

  module _ {q : Result Path} (C : Stepped s t d (cross_held l (table_of s t u.path) (held_of s t d v₂)) v₂.next (suc v₂.branch) (turned v₂) q) where
    pub cross-stops : {y : CompileError} → q ≡ Err y → EachStatement s t d v (λ w j. w ≡ Err y)
    cross-stops f x j sp = let (b, k, c, i, z, p) = parts K.entered K.other x j sp in p ∙ rw ((K.passed b k i).0, stepped-stops C f)

    module _ {g : Path} (f : q ≡ Ok g) {v₃ : Walk} (n : v₃ ≡ turned v₂ g) where
      crossed : Passed s t d v₃ (cross_held l (table_of s t u.path) (held_of s t d v₂)) v₂.next
      crossed = rw n (stepped-to C f)

      pub other-stands : (v.next < v₃.next) × (BlockAt s t v₃.next × Ready s t d v₃.paths)
      other-stands =
          let (on, at) = else-stands K.entered.stand K.entered.line refl (λ e j sp. (came K.entered e j sp).1) (λ b j sp. crossed.1 ∙ (K.passed b j sp).1) K.other in
          (on, (at, crossed.2))

      pub if-else : {r : Result Walk} → EachBlock s t d v₃ (λ w j. Moved s t d w j r) → EachStatement s t d v (λ w j. Moved s t d w j r)
      if-else E x j sp =
          let (b, k, c, i, y, p) = parts K.entered K.other x j sp in
          rw (p, (K.passed b k i).0, crossed.0) (E c j (at_row (SpellsBlock (line_in t) s) (crossed.1 ∙ (K.passed b k i).1) y))

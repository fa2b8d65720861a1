-- What a tree that stands in a table says of its first row, and of the trees below it.
use Prim.Native.Nat.{ℕ, suc, ◌+◌, ◌≤◌, ◌<◌}
use native.Mathlib.Omega.{arith}
use mathlib.Core.List.{List}
use mathlib.Core.Option.{some}
use mathlib.Core.Path.{◌≡◌, refl, sym, ap, ◌∙◌, subst}
use lib.ListN.{length}
use Rattle.std.specs.Prelude.{Ok, Err}
use Rattle.rules.specs.Result.{Checked}
use Rattle.rules.proofs.Basics.{Err≢Ok, Ok-injective}
use Rattle.ast.specs.declared.CompileError.{CompileError}
use Rattle.ast.specs.Tree.{Expression, Factor, Statement, Block}
use Rattle.text.specs.declared.Place.{Place}
use Rattle.listing.specs.declared.StatementLine.{StatementLine}
use Rattle.listing.specs.declared.ExpressionLine.{ExpressionLine}
use Rattle.listing.specs.declared.FactorLine.{FactorLine}
use Rattle.listing.specs.declared.Line.{Line}
use Rattle.listing.specs.Kinds.{part_of, statement_line, expression_line, factor_line}
use Rattle.rows.specs.Rows.{row_in, kept, kept_as, line_of, line_in}
use Rattle.rows.specs.declared.Words.{Words}
use Rattle.rows.proofs.Laws.{kept_in}
use Rattle.reader.specs.Spells.{SpellsExpression, SpellsFactor, SpellsStatement, SpellsBlock, SpellsStatements}
use Rattle.reader.proofs.Inversion.{Begun, ExpressionFrom, expression-from, FactorFrom, factor-from, StatementFrom, statement-from}
use Rattle.reader.proofs.Agree.{expression-on, factor-on, statement-on, block_on}
use Rattle.nodes.specs.Stands.{walked, Stands, ExpressionAt, FactorAt, StatementAt, BlockAt, Holds}

-- the line of a row whose letter is known
pub line-by : (t : List ℕ) (i : ℕ) (k : ℕ) {r : Words} {x : Line} → r ≡ row_in t i → r.kind ≡ k → x ≡ kept_as kept k r → line_in t i ≡ x
unfolding line_in
line-by t i k {r} {x} e q h = sym (kept_in k r x q h ∙ ap line_of e)

-- a tree below one that stands
pub below : {A B : Type 0} {R : ℕ → A → ℕ → Type 0} (Q : ℕ → B → ℕ → Type 0) {s t : List ℕ} {i : ℕ} (st : Stands R s t i) {k m : ℕ} {b : B} → Q k b m → m ≤ st.next → Stands Q s t k
below Q st {k} {m} {b} q h = record { tree = b; next = m; spells = q; count = st.count; within = omega (arith, st.within); rows = st.rows }

-- the part that the first row of a tree names lies in the listing
pub row-part : {A : Type 0} {R : ℕ → A → ℕ → Type 0} {s t : List ℕ} {i : ℕ} (st : Stands R s t i) → i < st.next → (l : Line) → line_in t i ≡ l → (x : Place) → part_of l ≡ some x → x.at + x.len ≤ length s
row-part {i = i} st h l e x q = st.rows.parts i (omega (arith, st.within)) x (ap part_of e ∙ q)

-- what a tree is, from its first line
module _ {L : ℕ → Line} {s : List ℕ} {i j : ℕ} where
  pub expression-is : {e : Expression} {x : ExpressionLine} → SpellsExpression L s i e j → L i ≡ Line.Expression x → ExpressionFrom L s x i e j
  expression-is {e} {x} sp h = subst (λ w. Begun (expression_line w) (λ x. ExpressionFrom L s x i e j)) h (expression-from L s sp)

  pub factor-is : {f : Factor} {x : FactorLine} → SpellsFactor L s i f j → L i ≡ Line.Factor x → FactorFrom L s x i f j
  factor-is {f} {x} sp h = subst (λ w. Begun (factor_line w) (λ x. FactorFrom L s x i f j)) h (factor-from L s sp)

  pub statement-is : {e : Statement} {x : StatementLine} → SpellsStatement L s i e j → L i ≡ Line.Statement x → StatementFrom L s x i e j
  statement-is {e} {x} sp h = subst (λ w. Begun (statement_line w) (λ x. StatementFrom L s x i e j)) h (statement-from L s sp)

  pub block-is : {b : Block} {n : ℕ} → SpellsBlock L s i b j → L i ≡ Line.Block n → SpellsStatements L s n (suc i) b j
  block-is {b} {n} (SpellsBlock.block {n = m} q u) h = let p : Line.Block m ≡ Line.Block n = sym q ∙ h in let e : m ≡ n = cc in subst (λ k. SpellsStatements L s k (suc i) b j) e u

-- the first row of a tree that stands
module _ {s t : List ℕ} {i : ℕ} where
  first-row : {A X : Type 0} {R : ℕ → A → ℕ → Type 0} {make : X → Line} (st : Stands R s t i) → i < st.next → (x : X) × (line_in t i ≡ make x) → Holds make t i
  first-row st h (x, q) = record { held = x; is = q; room = omega (arith, st.within, st.rows.room) }

  pub expression-holds : ExpressionAt s t i → Holds Line.Expression t i
  expression-holds st = first-row st (expression-on (line_in t) s st.spells) (line st.spells)
    where
      line : {e : Expression} {j : ℕ} → SpellsExpression (line_in t) s i e j → (x : ExpressionLine) × (line_in t i ≡ Line.Expression x)
      line (SpellsExpression.variable q r) = (_, q)
      line (SpellsExpression.number q) = (_, q)
      line (SpellsExpression.boolean q) = (_, q)
      line (SpellsExpression.string q r) = (_, q)
      line (SpellsExpression.logical q u v) = (_, q)
      line (SpellsExpression.compare q u v) = (_, q)
      line (SpellsExpression.arithmetic q u v) = (_, q)
      line (SpellsExpression.unary q u) = (_, q)
      line (SpellsExpression.hash q u) = (_, q)
      line (SpellsExpression.size q u) = (_, q)
      line (SpellsExpression.check_sig q u) = (_, q)

  pub factor-holds : FactorAt s t i → Holds Line.Factor t i
  factor-holds st = first-row st (factor-on (line_in t) s st.spells) (line st.spells)
    where
      line : {e : Factor} {j : ℕ} → SpellsFactor (line_in t) s i e j → (x : FactorLine) × (line_in t i ≡ Line.Factor x)
      line (SpellsFactor.single q u v) = (_, q)
      line (SpellsFactor.multi q u) = (_, q)

  pub statement-holds : StatementAt s t i → Holds Line.Statement t i
  statement-holds st = first-row st (statement-on (line_in t) s st.spells) (line st.spells)
    where
      line : {e : Statement} {j : ℕ} → SpellsStatement (line_in t) s i e j → (x : StatementLine) × (line_in t i ≡ Line.Statement x)
      line (SpellsStatement.if_only q u v) = (_, q)
      line (SpellsStatement.if_else q u v w) = (_, q)
      line (SpellsStatement.wait q) = (_, q)
      line (SpellsStatement.verify q u) = (_, q)
      line (SpellsStatement.return q u) = (_, q)

  pub block-holds : BlockAt s t i → Holds Line.Block t i
  block-holds st = first-row st (block_on (line_in t) s st.spells) (line st.spells)
    where
      line : {e : Block} {j : ℕ} → SpellsBlock (line_in t) s i e j → (n : ℕ) × (line_in t i ≡ Line.Block n)
      line (SpellsBlock.block q u) = (_, q)

-- what stands at the row to which a walk came
pub at_row : {B : Type 0} (Q : ℕ → B → ℕ → Type 0) {k m n : ℕ} {b : B} → n ≡ k → Q k b m → Q n b m
at_row Q {m = m} {b = b} e q = subst (λ n. Q n b m) (sym e) q

pub stands_at : {A B : Type 0} {R : ℕ → A → ℕ → Type 0} (Q : ℕ → B → ℕ → Type 0) {s t : List ℕ} {i : ℕ} (st : Stands R s t i) {k m n : ℕ} {b : B} → n ≡ k → Q k b m → m ≤ st.next → Stands Q s t n
stands_at Q st e q h = below Q st (at_row Q e q) h

-- the answer of a walk whose check passed, and of one whose check did not
pub walked-ok : {c : Checked} {n j : ℕ} → c ≡ Ok tt → n ≡ j → Ok n ≡ walked c j
walked-ok q e = rw (q, e)

pub walked-err : {c : Checked} {x : CompileError} (j : ℕ) → c ≡ Err x → Err x ≡ walked c j
walked-err j q = rw q

-- what a walk's answer says of the check
pub walked-pass : (c : Checked) (j : ℕ) {n : ℕ} → walked c j ≡ Ok n → (c ≡ Ok tt) × (j ≡ n)
walked-pass (Ok _) j h = (refl, Ok-injective h)
walked-pass (Err x) j h = absurd (Err≢Ok h)

pub walked-fault : (c : Checked) (j : ℕ) {x : CompileError} → walked c j ≡ Err x → c ≡ Err x
walked-fault (Ok _) j h = absurd (Err≢Ok (sym h))
walked-fault (Err y) j h = cc

-- The expressions that are still due: the operands of the first come before the others; the factor of a signature check is skipped.
use Prim.Native.Nat.{ℕ, suc, ◌+◌, ◌-◌, ◌≤◌, ◌<◌}
use native.Mathlib.Numerals.{add-one}
use native.Mathlib.Omega.{arith}
use mathlib.Core.List.{List, [], ◌∷◌, ◌++◌}
use mathlib.Core.Path.{◌≡◌, refl, ap, ◌∙◌}
use Rattle.std.specs.Prelude.{Ok, Err}
use Rattle.ast.specs.declared.CompileError.{CompileError}
use Rattle.ast.specs.declared.Location.{Location}
use Rattle.ast.specs.Tree.{Expression, Factor}
use Rattle.listing.specs.declared.ExpressionLine.{ExpressionLine}
use Rattle.listing.specs.declared.Line.{Line}
use Rattle.rows.specs.Rows.{line_in}
use Rattle.reader.specs.Ceilings.{max_lines}
use Rattle.reader.specs.Parts.{count_of, expression_kind, expression_part}
use Rattle.reader.specs.Spells.{SpellsExpression, SpellsFactor}
use Rattle.reader.proofs.Inversion.{ExpressionFrom}
use Rattle.rules.specs.Result.{Checked, both}
use Rattle.rules.specs.Limits.{security}
use Rattle.nodes.specs.Stands.{Stands, walked, ExpressionAt, FactorAt}
use Rattle.nodes.specs.Nodes.{Node, expression, SpellsNodes}
use Rattle.nodes.proofs.Laws.{below, expression-is, at_row, walked-ok, walked-err}
use Rattle.nodes.proofs.Nodes.{counted, nodes-many}
use Rattle.limits.specs.Lines.{overflow}

-- n expressions, one after the other, from row i up to j
abbrev expressions : List Expression → List Node
expressions [] = []
expressions (e ∷ es) = expression e ∷ expressions es

abbrev pub Due : (ℕ → Line) → List ℕ → ℕ → ℕ → List Expression → ℕ → Type 0
Due L s n i es j = SpellsNodes L s n i (expressions es) j

-- check_security of each in turn
abbrev pub security_all : List Expression → Checked
security_all [] = Ok tt
security_all (e ∷ es) = both (security e) (security_all es)

both_ok : (c : Checked) → c ≡ both c (Ok tt)
both_ok (Ok _) = refl
both_ok (Err x) = refl

both-both : (a b c : Checked) → both (both a b) c ≡ both a (both b c)
both-both (Ok _) b c = refl
both-both (Err x) b c = refl

-- some before others
all-before : (es fs : List Expression) → both (security_all es) (security_all fs) ≡ security_all (es ++ fs)
all-before [] fs = refl
all-before (e ∷ es) fs = both-both (security e) (security_all es) (security_all fs) ∙ ap (both (security e)) (all-before es fs)

module _ (L : ℕ → Line) (s : List ℕ) where
  due-before : (es fs : List Expression) {m n i j k : ℕ} → Due L s m i es k → Due L s n k fs j → Due L s (m + n) i (es ++ fs) j
  due-before [] fs SpellsNodes.nil v = counted L s v (omega arith)
  due-before (e ∷ es) fs (SpellsNodes.expression u w) v = counted L s (SpellsNodes.expression u (due-before es fs w v)) (omega arith)

  -- the first, and the others
  due-first : (es : List Expression) {n i j : ℕ} → Due L s n i es j → 0 < n → (e : Expression) × (fs : List Expression) × (k : ℕ) × SpellsExpression L s i e k × Due L s (n - 1) k fs j × (security_all es ≡ both (security e) (security_all fs))
  due-first [] SpellsNodes.nil h = absurd (omega arith)
  due-first (e ∷ es) (SpellsNodes.expression {j = k} u v) h = (e, es, k, u, counted L s v (omega arith), refl)

  due-none : (es : List Expression) {n i j : ℕ} → Due L s n i es j → n ≤ 0 → (i ≡ j) × (security_all es ≡ Ok tt)
  due-none [] SpellsNodes.nil h = (refl, refl)
  due-none (e ∷ es) (SpellsNodes.expression u v) h = absurd (omega arith)

  -- the operands of an expression: what check_security gives for it, and where they stand unless it is a signature check
  abbrev Operands : ExpressionLine → ℕ → Expression → ℕ → Type 0
  Operands x i e j = (es : List Expression) × (security e ≡ both (overflow s x) (security_all es)) × (expression_part x ≡ expression_kind → Due L s (count_of (Line.Expression x)) (suc i) es j)

  none_below : {i j : ℕ} → j ≡ suc i → Due L s 0 (suc i) [] j
  none_below q = rw q SpellsNodes.nil

  one_below : {i j : ℕ} {a : Expression} → SpellsExpression L s (suc i) a j → Due L s 1 (suc i) (a ∷ []) j
  one_below u = SpellsNodes.expression u SpellsNodes.nil

  two-below : {i j k : ℕ} {a b : Expression} → SpellsExpression L s (suc i) a k → SpellsExpression L s k b j → Due L s 2 (suc i) (a ∷ b ∷ []) j
  two-below u v = SpellsNodes.expression u (SpellsNodes.expression v SpellsNodes.nil)

  operands-from : (i j : ℕ) (e : Expression) (x : ExpressionLine) → ExpressionFrom L s x i e j → Operands x i e j
  unfolding security
  operands-from i j e (ExpressionLine.Variable w x) (p, q) = ([], ap security p, λ h. none_below q)
  operands-from i j e (ExpressionLine.NumberLiteral w v) (p, q) = ([], ap security p ∙ both_ok _, λ h. none_below q)
  operands-from i j e (ExpressionLine.BooleanLiteral w b) (p, q) = ([], ap security p, λ h. none_below q)
  operands-from i j e (ExpressionLine.StringLiteral w x m) (p, q) = ([], ap security p ∙ both_ok _, λ h. none_below q)
  operands-from i j e (ExpressionLine.LogicalExpression w o) (a, b, k, u, v, p) = (a ∷ b ∷ [], ap security p ∙ ap (both (security a)) (both_ok _), λ h. two-below u v)
  operands-from i j e (ExpressionLine.CompareExpression w o) (a, b, k, u, v, p) = (a ∷ b ∷ [], ap security p ∙ ap (both (security a)) (both_ok _), λ h. two-below u v)
  operands-from i j e (ExpressionLine.BinaryMathExpression w o) (a, b, k, u, v, p) = (a ∷ b ∷ [], ap security p ∙ ap (both (security a)) (both_ok _), λ h. two-below u v)
  operands-from i j e (ExpressionLine.UnaryMathExpression w o) (a, u, p) = (a ∷ [], ap security p ∙ both_ok _, λ h. one_below u)
  operands-from i j e (ExpressionLine.UnaryCryptoExpression w o) (a, u, p) = (a ∷ [], ap security p ∙ both_ok _, λ h. one_below u)
  operands-from i j e (ExpressionLine.ByteExpression w) (a, u, p) = (a ∷ [], ap security p ∙ both_ok _, λ h. one_below u)
  operands-from i j e (ExpressionLine.CheckSigExpression w) (f, u, p) = ([], ap security p, λ h. absurd (omega arith))

  pub operands-are : {i j : ℕ} {e : Expression} {x : ExpressionLine} → SpellsExpression L s i e j → L i ≡ Line.Expression x → Operands x i e j
  operands-are {i} {j} {e} {x} sp l = operands-from i j e x (expression-is sp l)

  -- what is due after the line of the first, which passed: its operands too
  due-more : (es : List Expression) {n i j d : ℕ} {x : ExpressionLine} → Due L s n i es j → 0 < n → L i ≡ Line.Expression x → overflow s x ≡ Ok tt → expression_part x ≡ expression_kind → d ≡ n - 1 + count_of (Line.Expression x) → (fs : List Expression) × Due L s d (i + 1) fs j × (security_all es ≡ security_all fs)
  due-more es v h l ok o c =
      let (a, fs, k, u, w, p) = due-first es v h in
      let (gs, q, z) = operands-are u l in
      (gs ++ fs, rw add-one (counted L s (due-before gs fs (z o) w) (omega arith)), p ∙ ap (λ c. both c (security_all fs)) (q ∙ ap (λ c. both c (security_all gs)) ok) ∙ all-before gs fs)

  -- after a signature check: the others, from the row after its factor
  due-signed : (es : List Expression) {n i j r : ℕ} {w : Location} → Due L s n i es j → 0 < n → L i ≡ Line.Expression (ExpressionLine.CheckSigExpression w) → ((f : Factor) (k : ℕ) → SpellsFactor L s (i + 1) f k → r ≡ k) → (fs : List Expression) × Due L s (n - 1) r fs j × (security_all es ≡ security_all fs)
  unfolding security
  due-signed es {n = n} v h l g =
      let (a, fs, k, u, w, p) = due-first es v h in
      let (f, y, q) = expression-is u l in
      (fs, at_row (SpellsNodes L s (n - 1)) (g f k (rw add-one y)) w, p ∙ ap (λ e. both (security e) (security_all fs)) q)

-- below a line that is no signature check stand expressions
pub entered : (x : ExpressionLine) → ((w : Location) → x ≡ ExpressionLine.CheckSigExpression w → ⊥) → expression_part x ≡ expression_kind
entered (ExpressionLine.Variable w x) h = refl
entered (ExpressionLine.NumberLiteral w v) h = refl
entered (ExpressionLine.BooleanLiteral w b) h = refl
entered (ExpressionLine.StringLiteral w x m) h = refl
entered (ExpressionLine.LogicalExpression w o) h = refl
entered (ExpressionLine.CompareExpression w o) h = refl
entered (ExpressionLine.BinaryMathExpression w o) h = refl
entered (ExpressionLine.UnaryMathExpression w o) h = refl
entered (ExpressionLine.UnaryCryptoExpression w o) h = refl
entered (ExpressionLine.ByteExpression w) h = refl
entered (ExpressionLine.CheckSigExpression w) h = absurd (h w refl)

-- the loop over the expression at row i: n are due from row m on
pub record Rest (s t : List ℕ) (i m n : ℕ) : Type 0 where
  pub stands : Stands (Due (line_in t) s n) s t m
  pub same : (e : Expression) (j : ℕ) → SpellsExpression (line_in t) s i e j → (es : List Expression) × Due (line_in t) s n m es j × (security e ≡ security_all es)

pub rest_all : {s t : List ℕ} {i : ℕ} → ExpressionAt s t i → Rest s t i i 1
rest_all {s} {t} st = record {
  stands = below (Due (line_in t) s 1) st {b = st.tree ∷ []} (SpellsNodes.expression st.spells SpellsNodes.nil) (omega arith);
  same = λ e j sp. (e ∷ [], SpellsNodes.expression sp SpellsNodes.nil, both_ok (security e));
}

module _ {s t : List ℕ} {i m n : ℕ} (r : Rest s t i m n) where
  pub rest-done : n ≤ 0 → (e : Expression) (j : ℕ) → SpellsExpression (line_in t) s i e j → Ok m ≡ walked (security e) j
  rest-done h e j sp =
      let (es, v, q) = r.same e j sp in
      let (d, p) = due-none (line_in t) s es v h in
      walked-ok (q ∙ p) d

  -- no more than there are rows
  pub rest-few : n ≤ max_lines
  rest-few = let st = r.stands in omega (arith, nodes-many (line_in t) s st.spells, st.within, st.rows.few)

  -- a step to the row k, with d due there, that leaves the answer as it is
  rest-step : {k d : ℕ} → ((es : List Expression) (j : ℕ) → Due (line_in t) s n m es j → (fs : List Expression) × Due (line_in t) s d k fs j × (security_all es ≡ security_all fs)) → Rest s t i k d
  rest-step {k} {d} f =
      let st = r.stands in
      let (fs, v, q) = f st.tree st.next st.spells in
      record {
        stands = below (Due (line_in t) s d) st {b = fs} v (omega arith);
        same = λ a j sp.
            let (es, u, p) = r.same a j sp in
            let (fs, v, q) = f es j u in
            (fs, v, p ∙ q);
      }

  module _ (h : 0 < n) where
    -- the expression at hand
    pub rest-first : ExpressionAt s t m
    rest-first =
        let st = r.stands in
        let (e, es, k, u, v, q) = due-first (line_in t) s st.tree st.spells h in
        below (SpellsExpression (line_in t) s) st u (omega (arith, nodes-many (line_in t) s v))

    module _ {x : ExpressionLine} (l : line_in t m ≡ Line.Expression x) where
      pub rest-fault : {y : CompileError} → overflow s x ≡ Err y → (e : Expression) (j : ℕ) → SpellsExpression (line_in t) s i e j → Err y ≡ walked (security e) j
      rest-fault y e j sp =
          let (es, v, q) = r.same e j sp in
          let (a, fs, k, u, w, p) = due-first (line_in t) s es v h in
          let (gs, o, z) = operands-are (line_in t) s u l in
          walked-err j (q ∙ p ∙ ap (λ c. both c (security_all fs)) (o ∙ ap (λ c. both c (security_all gs)) y))

      pub rest_more : {d : ℕ} → overflow s x ≡ Ok tt → expression_part x ≡ expression_kind → d ≡ n - 1 + count_of (Line.Expression x) → Rest s t i (m + 1) d
      rest_more ok o c = rest-step (λ es j v. due-more (line_in t) s es v h l ok o c)

    module _ {w : Location} (l : line_in t m ≡ Line.Expression (ExpressionLine.CheckSigExpression w)) where
      -- the factor below a signature check
      pub rest-factor : FactorAt s t (m + 1)
      rest-factor =
          let (f, u, q) = expression-is rest-first.spells l in
          let v : SpellsFactor (line_in t) s (m + 1) f rest-first.next = rw add-one u in
          below (SpellsFactor (line_in t) s) rest-first v (omega arith)

      pub rest-signed : {k : ℕ} → ((f : Factor) (j : ℕ) → SpellsFactor (line_in t) s (m + 1) f j → k ≡ j) → Rest s t i k (n - 1)
      rest-signed g = rest-step (λ es j v. due-signed (line_in t) s es v h l g)

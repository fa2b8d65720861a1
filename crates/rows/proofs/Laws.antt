-- A line comes back from its row, and each row of a table is stored apart from the others. Assumes nothing.
use mathlib.Core.Path.{◌≡◌, refl, sym, ap, ◌∙◌}
use mathlib.Core.Bool.{Bool, true, false}
use mathlib.Core.List.{List, [], ◌∷◌, ◌++◌}
use mathlib.Core.Logic.{⊎_elim}
use Prim.Native.Nat.{ℕ, zero, suc, ◌+◌, ◌*◌, ◌≤◌, ◌<◌, ◌^◌}
use native.Mathlib.Nat.{add-zero, zero-add, eq-or-lt_of_le, div-add-mod'}
use native.Mathlib.Omega.{arith}
use borrow.Author.Tests.{ne_eqb}
use lib.Dec.{eqb, lit<}
use lib.ListN.{length, drop, get_or, set, replicate, length-set, length-append, length-drop, length-replicate}
use lib.Seq.{sets, length-sets, drop-set-lt, get_or-set_same, get_or-set_other}
use Rattle.rows.specs.Rows.{row_in, row_of, statement_row, expression_row, factor_row, bit_number, Kept, kept, kept_as, words_of, line_of, line_in, with_row, with_rows, row_words, HasRow, HasRows}
use Rattle.rows.specs.declared.Words.{Words}
use Rattle.rows.specs.Work.{work_words, cleared}
use Rattle.listing.specs.declared.StatementLine.{StatementLine}
use Rattle.listing.specs.declared.ExpressionLine.{ExpressionLine}
use Rattle.listing.specs.declared.FactorLine.{FactorLine}
use Rattle.listing.specs.declared.Line.{Line}
use Rattle.ast.proofs.Laws.{target-back, type-back, logical-back, compare-back, math-back, unary-back, crypto-back, locktime-back}

-- words stored from i on: below i nothing is changed, from i on they are read back, and after the last nothing is changed
sets_below : (l : List ℕ) (i : ℕ) (vs : List ℕ) (k : ℕ) → k < i → get_or (sets l i vs) k 0 ≡ get_or l k 0
sets_below l i [] k h = refl
sets_below l i (v ∷ vs) k h = sets_below (set l i v) (suc i) vs k (omega arith) ∙ get_or-set_other l i k v 0 (λ e. omega arith)

sets-in : (l : List ℕ) (i : ℕ) (vs : List ℕ) (j : ℕ) → i + length vs ≤ length l → j < length vs → get_or (sets l i vs) (i + j) 0 ≡ get_or vs j 0
sets-in l i [] j h k = absurd (omega arith)
sets-in l i (v ∷ vs) zero h k = rw (add-zero i) (sets_below (set l i v) (suc i) vs i (omega arith) ∙ get_or-set_same l i v 0 (omega arith))
sets-in l i (v ∷ vs) (suc j) h k =
    let same : length (set l i v) ≡ length l = length-set l i v in
    ap (λ (n : ℕ). get_or (sets (set l i v) (suc i) vs) n 0) (omega arith) ∙ sets-in (set l i v) (suc i) vs j (omega arith) (omega arith)

drop-sets : (n : ℕ) (l : List ℕ) (i : ℕ) (vs : List ℕ) → i + length vs ≤ n → drop n (sets l i vs) ≡ drop n l
drop-sets n l i [] h = refl
drop-sets n l i (v ∷ vs) h = drop-sets n (set l i v) (suc i) vs (omega arith) ∙ drop-set-lt n l i v (omega arith)

-- a line comes back from its row
bit-back : (b : Bool) → eqb (bit_number b) 1 ≡ b
bit-back true = refl
bit-back false = refl

statement-row : (l : StatementLine) → line_of (statement_row l) ≡ Line.Statement l
unfolding line_of kept_as statement_row
statement-row (StatementLine.IfStatement w e) = rw (bit-back e)
statement-row (StatementLine.LocktimeStatement w o v) = rw (locktime-back o, bit-back v.negative, div-add-mod' v.magnitude (2 ^ 32))
statement-row (StatementLine.VerifyStatement w) = refl
statement-row (StatementLine.ExpressionStatement w) = refl

expression-row : (l : ExpressionLine) → line_of (expression_row l) ≡ Line.Expression l
unfolding line_of kept_as expression_row
expression-row (ExpressionLine.Variable w x) = refl
expression-row (ExpressionLine.NumberLiteral w v) = rw (bit-back v.negative, div-add-mod' v.magnitude (2 ^ 32))
expression-row (ExpressionLine.BooleanLiteral w b) = rw (bit-back b)
expression-row (ExpressionLine.StringLiteral w x m) = rw (bit-back m)
expression-row (ExpressionLine.LogicalExpression w o) = rw (logical-back o)
expression-row (ExpressionLine.CompareExpression w o) = rw (compare-back o)
expression-row (ExpressionLine.BinaryMathExpression w o) = rw (math-back o)
expression-row (ExpressionLine.UnaryMathExpression w o) = rw (unary-back o)
expression-row (ExpressionLine.UnaryCryptoExpression w o) = rw (crypto-back o)
expression-row (ExpressionLine.ByteExpression w) = refl
expression-row (ExpressionLine.CheckSigExpression w) = refl

factor-row : (l : FactorLine) → line_of (factor_row l) ≡ Line.Factor l
unfolding line_of kept_as factor_row
factor-row (FactorLine.SingleSigFactor w) = refl
factor-row (FactorLine.MultiSigFactor w m n) = refl

pub line_row : (l : Line) → line_of (row_of l) ≡ l
unfolding line_of kept_as row_of
line_row (Line.Contract g n) = rw (target-back g)
line_row (Line.Declaration n) = refl
line_row (Line.StackParam w t x) = rw (type-back t)
line_row (Line.Block n) = refl
line_row (Line.Statement l) = statement-row l
line_row (Line.Expression l) = expression-row l
line_row (Line.Factor l) = factor-row l

-- the same words give the same row
row_by : (s t : List ℕ) (i k : ℕ) → ((j : ℕ) → j < row_words → get_or s (i * row_words + j) 0 ≡ get_or t (k * row_words + j) 0) → row_in s i ≡ row_in t k
row_by s t i k h =
    let first : get_or s (i * row_words) 0 ≡ get_or t (k * row_words) 0 = simp add-zero at (h 0 (lit< tt)) in
    λ x. record { kind = first x; start = h 1 (lit< tt) x; end = h 2 (lit< tt) x; line = h 3 (lit< tt) x; column = h 4 (lit< tt) x; a = h 5 (lit< tt) x; b = h 6 (lit< tt) x; c = h 7 (lit< tt) x; d = h 8 (lit< tt) x }

pub row_same : (t : List ℕ) (i : ℕ) (l : Line) → HasRow t i → line_in (with_row t i l) i ≡ l
unfolding line_in with_row words_of
row_same t i l h =
    let words = words_of (row_of l) in
    ap line_of (row_by (sets t (i * row_words) words) words i 0 (λ j k. rw (zero-add j) (sets-in t (i * row_words) words j h k))) ∙ line_row l

pub row_other : (t : List ℕ) (i k : ℕ) (l : Line) → k < i → line_in (with_row t i l) k ≡ line_in t k
unfolding line_in with_row
row_other t i k l h = ap line_of (row_by (sets t (i * row_words) (words_of (row_of l))) t k k (λ j m. sets_below t (i * row_words) (words_of (row_of l)) (k * row_words + j) (omega arith)))

-- a table with its first n lines stored
pub rows-length : (t : List ℕ) (n : ℕ) (L : ℕ → Line) → length (with_rows t n L) ≡ length t
unfolding with_rows with_row
rows-length t zero L = refl
rows-length t (suc n) L = length-sets (with_rows t n L) (n * row_words) (words_of (row_of (L n))) ∙ rows-length t n L

pub rows-line : (t : List ℕ) (n : ℕ) (L : ℕ → Line) → HasRows t n → (k : ℕ) → k < n → line_in (with_rows t n L) k ≡ L k
unfolding with_rows
rows-line t zero L h k below = absurd (omega arith)
rows-line t (suc n) L h k below =
    let room : n * row_words + row_words ≤ length (with_rows t n L) = rw (rows-length t n L) (omega arith) in
    ⊎_elim
    (λ (s : suc k ≡ suc n). let e : k ≡ n = omega arith in rw e (row_same (with_rows t n L) n (L n) room))
    (λ (m : suc k < suc n). row_other (with_rows t n L) n k (L n) (omega arith) ∙ rows-line t n L (omega arith) k (omega arith))
    (eq-or-lt_of_le below)

pub rows-rest : (t : List ℕ) (n : ℕ) (L : ℕ → Line) → n * row_words ≤ work_words → drop work_words (with_rows t n L) ≡ drop work_words t
unfolding with_rows with_row words_of
rows-rest t zero L h = refl
rows-rest t (suc n) L h = drop-sets work_words (with_rows t n L) (n * row_words) (words_of (row_of (L n))) (omega arith) ∙ rows-rest t n L (omega arith)

pub clear-rows : (t : List ℕ) (n : ℕ) (L : ℕ → Line) → n * row_words ≤ work_words → cleared (with_rows t n L) ≡ cleared t
unfolding cleared
clear-rows t n L h = ap (λ (r : List ℕ). replicate work_words 0 ++ r) (rows-rest t n L h)

filled-length : (n : ℕ) (t : List ℕ) → n ≤ length t → length (replicate n 0 ++ drop n t) ≡ length t
filled-length n t h = simp (length-append, length-replicate, length-drop) (omega arith)

pub clear-length : (t : List ℕ) → work_words ≤ length t → length (cleared t) ≡ length t
unfolding cleared
clear-length t h = filled-length work_words t h

-- the form of a row by its letter
pub kept_in : (k : ℕ) (r : Words) (x : Line) → r.kind ≡ k → x ≡ kept_as kept k r → x ≡ line_of r
unfolding line_of
kept_in k r x e h = h ∙ ap (λ (n : ℕ). kept_as kept n r) (sym e)

-- what is known in the last arm of a match on a number whose arms are the letters of some forms
abbrev Past : ℕ → Type 0 → List Kept → Type 0
Past n A [] = A
Past n A (k ∷ ks) = Past n (A × (n ≡ k.letter → ⊥)) ks

before : (n : ℕ) (A : Type 0) (ks : List Kept) → Past n A ks → A
before n A [] h = h
before n A (k ∷ ks) h = (before n (A × (n ≡ k.letter → ⊥)) ks h).0

none_of : (n : ℕ) (A : Type 0) (ks : List Kept) (r : Words) → Past n A ks → Line.Block 0 ≡ kept_as ks n r
unfolding kept_as
none_of n A [] r h = refl
none_of n A (k ∷ ks) r h = rw (ne_eqb n k.letter (before n (A × (n ≡ k.letter → ⊥)) ks h).1, kept_as) (none_of n (A × (n ≡ k.letter → ⊥)) ks r h)

pub kept-none : (r : Words) → Past r.kind (Unit {0}) kept → Line.Block 0 ≡ line_of r
unfolding line_of
kept-none r h = none_of r.kind (Unit {0}) kept r h

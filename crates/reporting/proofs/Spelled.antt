-- The rows that spell a block hold its waits, in their order, and no others.
use Prim.Native.Nat.{ℕ, suc, ◌-◌, ◌≤◌}
use native.Mathlib.Omega.{arith}
use mathlib.Core.List.{List, [], ◌++◌, append_assoc, append-nil}
use mathlib.Core.Path.{◌≡◌, refl, sym, ap, ◌∙◌, subst}
use Rattle.std.specs.Prelude.{Ok, Err, None}
use Rattle.std.specs.Result.{result_ok}
use Rattle.ast.specs.Tree.{Expression, Factor, Factors, Statement, Block}
use Rattle.listing.specs.declared.Line.{Line}
use Rattle.rows.specs.Rows.{line_in}
use Rattle.reader.specs.Spells.{SpellsExpression, SpellsFactor, SpellsFactors, SpellsStatement, SpellsBlock, SpellsStatements}
use Rattle.rules.specs.Result.{Result}
use Rattle.rules.specs.Limits.{wait}
use Rattle.rules.specs.Walk.{Wait}
use Rattle.rules.proofs.Takers.{noted, waits_in, waits_of}
use Rattle.limits.specs.Waits.{found_in}
use Rattle.reporting.specs.Waits.{wait_at, waits_from, waits_between}

-- the waits in the rows from row i up to j, row by row
data Between (L : ℕ → Line) : ℕ → ℕ → List Wait → Type 0 where
  none : {i : ℕ} → Between L i i []
  more : {i j : ℕ} {ws : List Wait} → Between L (suc i) j ws → Between L i j (wait_at i (found_in (L i)) ++ ws)

between-on : {L : ℕ → Line} {i j : ℕ} {ws : List Wait} → Between L i j ws → i ≤ j
between-on Between.none = omega arith
between-on (Between.more b) = omega (arith, between-on b)

between-are : {L : ℕ → Line} {i j : ℕ} {ws : List Wait} → Between L i j ws → waits_from L i (j - i) ≡ ws
unfolding waits_from
between-are {L} {i} Between.none = let e : i - i ≡ 0 = omega arith in ap (waits_from L i) e
between-are {L} {i} {j} (Between.more b) =
    let e : j - i ≡ suc (j - suc i) = omega (arith, between-on b) in
    ap (waits_from L i) e ∙ ap (wait_at i (found_in (L i)) ++◌) (between-are b)

-- what the row of a wait holds
noted-at : (i : ℕ) (m : Result ℕ) → wait_at i (result_ok m) ≡ noted (suc i) m
noted-at i (Ok k) = refl
noted-at i (Err x) = refl

module _ {L : ℕ → Line} where
  -- a row of another line
  other : {i j : ℕ} {ws : List Wait} → found_in (L i) ≡ None → Between L (suc i) j ws → Between L i j ws
  other {i} {j} {ws} e b = subst (λ f. Between L i j (wait_at i f ++ ws)) e (Between.more b)

  grouped : {i k : ℕ} (us vs ws : List Wait) → Between L i k (us ++ (vs ++ ws)) → Between L i k ((us ++ vs) ++ ws)
  grouped {i} {k} us vs ws b = subst (Between L i k) (sym (append_assoc us vs ws)) b

module _ {L : ℕ → Line} {s : List ℕ} where
  -- an expression has none
  mutual
    expression-none : {i j k : ℕ} {e : Expression} {ws : List Wait} → SpellsExpression L s i e j → Between L j k ws → Between L i k ws
    expression-none (SpellsExpression.variable q r) b = other (ap found_in q) b
    expression-none (SpellsExpression.number q) b = other (ap found_in q) b
    expression-none (SpellsExpression.boolean q) b = other (ap found_in q) b
    expression-none (SpellsExpression.string q r) b = other (ap found_in q) b
    expression-none (SpellsExpression.logical q u v) b = other (ap found_in q) (expression-none u (expression-none v b))
    expression-none (SpellsExpression.compare q u v) b = other (ap found_in q) (expression-none u (expression-none v b))
    expression-none (SpellsExpression.arithmetic q u v) b = other (ap found_in q) (expression-none u (expression-none v b))
    expression-none (SpellsExpression.unary q u) b = other (ap found_in q) (expression-none u b)
    expression-none (SpellsExpression.hash q u) b = other (ap found_in q) (expression-none u b)
    expression-none (SpellsExpression.size q u) b = other (ap found_in q) (expression-none u b)
    expression-none (SpellsExpression.check_sig q f) b = other (ap found_in q) (factor-none f b)

    factor-none : {i j k : ℕ} {f : Factor} {ws : List Wait} → SpellsFactor L s i f j → Between L j k ws → Between L i k ws
    factor-none (SpellsFactor.single q u v) b = other (ap found_in q) (expression-none u (expression-none v b))
    factor-none (SpellsFactor.multi q fs) b = other (ap found_in q) (factors-none fs b)

    factors-none : {n i j k : ℕ} {fs : Factors} {ws : List Wait} → SpellsFactors L s n i fs j → Between L j k ws → Between L i k ws
    factors-none SpellsFactors.nil b = b
    factors-none (SpellsFactors.cons f fs) b = factor-none f (factors-none fs b)

  -- a statement and a block have their own
  mutual
    unfolding waits_of

    statement-has : {i j k : ℕ} {x : Statement} {ws : List Wait} → SpellsStatement L s i x j → Between L j k ws → Between L i k (waits_in x ++ ws)
    statement-has (SpellsStatement.if_only q e u) b = other (ap found_in q) (expression-none e (block-has u b))
    statement-has {ws = ws} (SpellsStatement.if_else {b = y} {c = z} q e u v) b = grouped (waits_of y) (waits_of z) ws (other (ap found_in q) (expression-none e (block-has u (block-has v b))))
    statement-has {i} {k = k} {ws = ws} (SpellsStatement.wait {l = l} {o = o} {v = v} q) b = subst (λ us. Between L i k (us ++ ws)) (ap (λ l. wait_at i (found_in l)) q ∙ noted-at i (wait l o v)) (Between.more b)
    statement-has (SpellsStatement.verify q e) b = other (ap found_in q) (expression-none e b)
    statement-has (SpellsStatement.return q e) b = other (ap found_in q) (expression-none e b)

    block-has : {i j k : ℕ} {u : Block} {ws : List Wait} → SpellsBlock L s i u j → Between L j k ws → Between L i k (waits_of u ++ ws)
    block-has (SpellsBlock.block q u) b = other (ap found_in q) (statements-have u b)

    statements-have : {n i j k : ℕ} {u : Block} {ws : List Wait} → SpellsStatements L s n i u j → Between L j k ws → Between L i k (waits_of u ++ ws)
    statements-have SpellsStatements.nil b = b
    statements-have {ws = ws} (SpellsStatements.cons {t = y} {b = z} x u) b = grouped (waits_in y) (waits_of z) ws (statement-has x (statements-have u b))

-- THE WAITS of the rows that spell a block are the block's
pub waits-spelled : {s : List ℕ} (t : List ℕ) {i j : ℕ} {b : Block} → SpellsBlock (line_in t) s i b j → (i ≤ j) × (waits_between t i j ≡ waits_of b)
waits-spelled t {b = b} sp = let h = block-has sp Between.none in (between-on h, between-are h ∙ append-nil (waits_of b))

-- Laws of count.
use Prim.Native.Nat.{ℕ, ◌+◌, ◌≤◌}
use native.Mathlib.Omega.{arith}
use mathlib.Core.Bool.{true, false}
use mathlib.Core.List.{List}
use mathlib.Core.Path.{◌≡◌, refl}
use Rattle.ast.specs.Tree.{Statement, Block, IfStatement, IfElseStatement, LocktimeStatement, VerifyStatement, ExpressionStatement, []ᵇ, ◌∷ᵇ◌}
use Rattle.listing.specs.declared.Line.{Line}
use Rattle.reader.specs.Spells.{SpellsStatement, SpellsBlock, SpellsStatements}
use Rattle.reader.proofs.Agree.{expression-on}
use Rattle.rules.specs.Flow.{goes_on}
use Rattle.rules.specs.Paths.{count_through, count}
use Rattle.flow.specs.declared.necessity.Counted.{Counted}

pub counted_is : {a b m n : ℕ} → a ≡ b → m ≡ n → ◌≡◌ {A = Counted} (record { count = a; next = m }) (record { count = b; next = n })
counted_is p q = rw (p, q)

-- by a block's first statement
pub count-on : (t : Statement) (d : Block) → goes_on t ≡ true → count (t ∷ᵇ d) ≡ count d
unfolding count count_through goes_on
count-on (IfStatement l e b) d h = let z : ◌≡◌ {A = ℕ} 0 1 = cc in absurd (omega arith)
count-on (IfElseStatement l e b c) d h = let z : ◌≡◌ {A = ℕ} 0 1 = cc in absurd (omega arith)
count-on (LocktimeStatement l n o v) d h = refl
count-on (VerifyStatement l e) d h = refl
count-on (ExpressionStatement l e) d h = let z : ◌≡◌ {A = ℕ} 0 1 = cc in absurd (omega arith)

pub count-stop : (t : Statement) (d : Block) → goes_on t ≡ false → count (t ∷ᵇ d) ≡ count_through t 0
unfolding count count_through goes_on
count-stop (IfStatement l e b) d h = refl
count-stop (IfElseStatement l e b c) d h = refl
count-stop (LocktimeStatement l n o v) d h = let z : ◌≡◌ {A = ℕ} 0 1 = cc in absurd (omega arith)
count-stop (VerifyStatement l e) d h = let z : ◌≡◌ {A = ℕ} 0 1 = cc in absurd (omega arith)
count-stop (ExpressionStatement l e) d h = refl

pub count-empty : count []ᵇ ≡ 0
unfolding count
count-empty = refl

-- a path ends in a row of its own
module _ (L : ℕ → Line) (s : List ℕ) where
  mutual
    unfolding count_through count

    through-rows : {i j : ℕ} {t : Statement} (n : ℕ) → SpellsStatement L s i t j → count_through t n + i ≤ n + j
    through-rows n (SpellsStatement.if_only q u v) = omega (arith, expression-on L s u, count-rows v)
    through-rows n (SpellsStatement.if_else q u v w) = omega (arith, expression-on L s u, count-rows v, count-rows w)
    through-rows n (SpellsStatement.wait q) = omega arith
    through-rows n (SpellsStatement.verify q u) = omega (arith, expression-on L s u)
    through-rows n (SpellsStatement.return q u) = omega (arith, expression-on L s u)

    pub count-rows : {i j : ℕ} {b : Block} → SpellsBlock L s i b j → count b + i ≤ j
    count-rows (SpellsBlock.block q u) = omega (arith, counts-rows u)

    counts-rows : {n i j : ℕ} {b : Block} → SpellsStatements L s n i b j → count b + i ≤ j
    counts-rows SpellsStatements.nil = omega arith
    counts-rows (SpellsStatements.cons {b = d} u v) = omega (arith, through-rows (count d) u, counts-rows v)

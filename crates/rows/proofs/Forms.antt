-- What a row keeps, where a reader has looked at some letters only. Assumes nothing.
use mathlib.Core.Path.{◌≡◌, refl}
use mathlib.Core.Bool.{Bool, true, false}
use mathlib.Core.List.{List, [], ◌∷◌}
use mathlib.Core.Option.{Option, some, none}
use Prim.Native.Nat.{ℕ}
use borrow.Author.Tests.{eqb-true}
use lib.Dec.{eqb}
use lib.ListN.{get_or}
use Rattle.ast.specs.declared.Target.TheVariants.{Taproot}
use Rattle.ast.specs.declared.Type.TheVariants.{Boolean}
use Rattle.ast.specs.Numbers.{targets, types}
use Rattle.listing.specs.declared.StatementLine.{StatementLine}
use Rattle.listing.specs.declared.ExpressionLine.{ExpressionLine}
use Rattle.listing.specs.declared.FactorLine.{FactorLine}
use Rattle.listing.specs.declared.Line.{Line}
use Rattle.listing.specs.Kinds.{contract_line, declaration_line, item_line, block_line, statement_line, expression_line, factor_line}
use Rattle.rows.specs.Rows.{place_in, part_in, Kept, kept, kept_as, line_of}
use Rattle.rows.specs.declared.Words.{Words}

-- what is known in the last arm of a match on a number
abbrev pub Rest : ℕ → Type 0 → List ℕ → Type 0
Rest n A [] = A
Rest n A (k ∷ ks) = Rest n (A × (n ≡ k → ⊥)) ks

-- something holds of what is there
abbrev pub If : {X : Type 0} → Option X → (X → Type 0) → Type 0
If none P = Unit {0}
If (some x) P = P x

-- what holds for each form whose letter the row has, and for an empty block, holds of the line that it keeps
abbrev pub Each : (Line → Type 0) → List Kept → Words → Type 0
Each P [] r = P (Line.Block 0)
Each P (k ∷ ks) r = (r.kind ≡ k.letter → P (k.line r)) × Each P ks r

by-letter : (P : Line → Type 0) (k l : ℕ) (x y : Line) (b : Bool) → eqb k l ≡ b → (k ≡ l → P x) → P y → P (elim b [ true ↦ x | false ↦ y ])
by-letter P k l x y true e h g = h (eqb-true k l e)
by-letter P k l x y false e h g = g

each_of : (P : Line → Type 0) (ks : List Kept) (r : Words) → Each P ks r → P (kept_as ks r.kind r)
unfolding kept_as
each_of P [] r h = h
each_of P (k ∷ ks) r h = by-letter P r.kind k.letter (k.line r) (kept_as ks r.kind r) (eqb r.kind k.letter) refl h.0 (each_of P ks r h.1)

pub each-form : (P : Line → Type 0) (r : Words) → Each P kept r → P (line_of r)
unfolding line_of
each-form P r h = each_of P kept r h

-- an expression of none of these letters is a size
pub expression-rest : (r : Words) → Rest r.kind (Unit {0}) (118 ∷ 110 ∷ 98 ∷ 115 ∷ 108 ∷ 99 ∷ 109 ∷ 117 ∷ 104 ∷ 103 ∷ []) → If (expression_line (line_of r)) (λ e. line_of r ≡ Line.Expression (ExpressionLine.ByteExpression (place_in r)))
expression-rest r rest =
    each-form
    (λ l. If (expression_line l) (λ e. l ≡ Line.Expression (ExpressionLine.ByteExpression (place_in r))))
    r
    (λ k. tt, (λ k. tt, (λ k. tt, (λ k. tt, (λ k. tt, (λ k. tt, (λ k. tt, (λ k. tt, (λ k. absurd (rest.0.0.0.0.0.0.0.0.0.1 k), (λ k. absurd (rest.0.0.0.0.0.0.0.0.1 k), (λ k. absurd (rest.0.0.0.0.0.0.0.1 k), (λ k. absurd (rest.0.0.0.0.0.0.1 k), (λ k. absurd (rest.0.0.0.0.0.1 k), (λ k. absurd (rest.0.0.0.0.1 k), (λ k. absurd (rest.0.0.0.1 k), (λ k. absurd (rest.0.0.1 k), (λ k. absurd (rest.0.1 k), (λ k. refl, (λ k. absurd (rest.1 k), (λ k. tt, (λ k. tt, tt)))))))))))))))))))))

-- a statement that is no if, wait or verify is a return
pub statement-rest : (r : Words) → Rest r.kind (Unit {0}) (73 ∷ 76 ∷ 86 ∷ []) → If (statement_line (line_of r)) (λ e. line_of r ≡ Line.Statement (StatementLine.ExpressionStatement (place_in r)))
statement-rest r rest =
    each-form
    (λ l. If (statement_line l) (λ e. l ≡ Line.Statement (StatementLine.ExpressionStatement (place_in r))))
    r
    (λ k. tt, (λ k. tt, (λ k. tt, (λ k. tt, (λ k. absurd (rest.0.0.1 k), (λ k. absurd (rest.0.1 k), (λ k. absurd (rest.1 k), (λ k. refl, (λ k. tt, (λ k. tt, (λ k. tt, (λ k. tt, (λ k. tt, (λ k. tt, (λ k. tt, (λ k. tt, (λ k. tt, (λ k. tt, (λ k. tt, (λ k. tt, (λ k. tt, tt)))))))))))))))))))))

-- a factor that is no multi-signature is a single one
pub factor-rest : (r : Words) → Rest r.kind (Unit {0}) (77 ∷ []) → If (factor_line (line_of r)) (λ e. line_of r ≡ Line.Factor (FactorLine.SingleSigFactor (place_in r)))
factor-rest r rest =
    each-form
    (λ l. If (factor_line l) (λ e. l ≡ Line.Factor (FactorLine.SingleSigFactor (place_in r))))
    r
    (λ k. tt, (λ k. tt, (λ k. tt, (λ k. tt, (λ k. tt, (λ k. tt, (λ k. tt, (λ k. tt, (λ k. tt, (λ k. tt, (λ k. tt, (λ k. tt, (λ k. tt, (λ k. tt, (λ k. tt, (λ k. tt, (λ k. tt, (λ k. tt, (λ k. tt, (λ k. refl, (λ k. absurd (rest.1 k), tt)))))))))))))))))))))

-- a block without its letter is empty
pub block-rest : (r : Words) → Rest r.kind (Unit {0}) (66 ∷ []) → If (block_line (line_of r)) (λ e. line_of r ≡ Line.Block 0)
block-rest r rest =
    each-form
    (λ l. If (block_line l) (λ e. l ≡ Line.Block 0))
    r
    (λ k. tt, (λ k. tt, (λ k. tt, (λ k. absurd (rest.1 k), (λ k. tt, (λ k. tt, (λ k. tt, (λ k. tt, (λ k. tt, (λ k. tt, (λ k. tt, (λ k. tt, (λ k. tt, (λ k. tt, (λ k. tt, (λ k. tt, (λ k. tt, (λ k. tt, (λ k. tt, (λ k. tt, (λ k. tt, refl)))))))))))))))))))))

-- an item's row
pub item-row : (r : Words) → If (item_line (line_of r)) (λ e. line_of r ≡ Line.StackParam (place_in r) (get_or types r.c Boolean) (part_in r))
item-row r =
    each-form
    (λ l. If (item_line l) (λ e. l ≡ Line.StackParam (place_in r) (get_or types r.c Boolean) (part_in r)))
    r
    (λ k. tt, (λ k. tt, (λ k. refl, (λ k. tt, (λ k. tt, (λ k. tt, (λ k. tt, (λ k. tt, (λ k. tt, (λ k. tt, (λ k. tt, (λ k. tt, (λ k. tt, (λ k. tt, (λ k. tt, (λ k. tt, (λ k. tt, (λ k. tt, (λ k. tt, (λ k. tt, (λ k. tt, tt)))))))))))))))))))))

-- a declaration's row; a contract's
pub declaration-row : (r : Words) → If (declaration_line (line_of r)) (λ e. line_of r ≡ Line.Declaration r.a)
declaration-row r =
    each-form
    (λ l. If (declaration_line l) (λ e. l ≡ Line.Declaration r.a))
    r
    (λ k. tt, (λ k. refl, (λ k. tt, (λ k. tt, (λ k. tt, (λ k. tt, (λ k. tt, (λ k. tt, (λ k. tt, (λ k. tt, (λ k. tt, (λ k. tt, (λ k. tt, (λ k. tt, (λ k. tt, (λ k. tt, (λ k. tt, (λ k. tt, (λ k. tt, (λ k. tt, (λ k. tt, tt)))))))))))))))))))))

pub contract-row : (r : Words) → If (contract_line (line_of r)) (λ e. line_of r ≡ Line.Contract (get_or targets r.a Taproot) r.b)
contract-row r =
    each-form
    (λ l. If (contract_line l) (λ e. l ≡ Line.Contract (get_or targets r.a Taproot) r.b))
    r
    (λ k. refl, (λ k. tt, (λ k. tt, (λ k. tt, (λ k. tt, (λ k. tt, (λ k. tt, (λ k. tt, (λ k. tt, (λ k. tt, (λ k. tt, (λ k. tt, (λ k. tt, (λ k. tt, (λ k. tt, (λ k. tt, (λ k. tt, (λ k. tt, (λ k. tt, (λ k. tt, (λ k. tt, tt)))))))))))))))))))))

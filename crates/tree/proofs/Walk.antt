-- The laws of the walk of a table.
use Rattle.std.proofs.Common.{◌≡◌, refl, sym, ap, ◌∙◌, ℕ, zero, suc, ◌+◌, ◌-◌, ◌≤◌, ◌<◌, Bool, true, false, ◌&&◌, List, ltb, eqb, arith, Result, Ok, Err, add-one, eqb-true, ltb-true}
use native.Mathlib.Nat.{sub-zero, sub-eq-zero_of_le}
use Rattle.tree.specs.declared.Lines.{Lines}
use Rattle.tree.specs.declared.Kind.{Kind}
use Rattle.tree.specs.declared.Kind.TheVariants.{Expression, Factor, Block, Statement, Item, Declaration, Contract, Other}
use Rattle.tree.specs.declared.Left.{Left}
use Rattle.tree.specs.declared.Form.{Form}
use Rattle.reader.specs.Ast.{ExpressionLine, FactorLine, Line, CompileError}
use Rattle.reader.specs.Ceilings.{max_lines, max_depth, max_block_depth, within_ceilings}
use Rattle.reader.specs.Parts.{expression_part, factor_part}
use Rattle.tree.specs.Table.{Asked, Found, Malformed, End, asked}
use Rattle.tree.specs.Walk.{kinds, kind_from, kind_number, kind_of, form_of, form_part, has_room, below, fits_here, due_line, due, Walk, onward, each, parts_of, node, depth_of, deepest, finished}
use Rattle.std.proofs.lemmas.Bool.{and_parts}
use Rattle.std.proofs.lemmas.List.{get_or_past}

-- a kind is known by its number
kind-from : (k : Kind) → kind_from (kind_number k) ≡ k
kind-from Expression = refl
kind-from Factor = refl
kind-from Block = refl
kind-from Statement = refl
kind-from Item = refl
kind-from Declaration = refl
kind-from Contract = refl
kind-from Other = refl

same-kind : (j k : Kind) → kind_number j ≡ kind_number k → j ≡ k
same-kind j k h = sym (kind-from j) ∙ ap kind_from h ∙ kind-from k

-- a number past those of the kinds of line
pub kind_past : (n : ℕ) → 7 ≤ n → Other ≡ kind_from n
kind_past n h = sym (get_or_past kinds n Other h)

-- each part of a line is among its deepest
pub part-deepest : (f : Form) (left : Left) (m : ℕ) → depth_of (form_part f m) left ≤ deepest f left
part-deepest f left zero = omega arith
part-deepest f left (suc m) = omega arith

-- the parts of a line go less deep than the line
expression-part : (x : ExpressionLine) → kind_number (kind_from (expression_part x)) ≤ 1
expression-part (ExpressionLine.Variable w x) = omega arith
expression-part (ExpressionLine.NumberLiteral w v) = omega arith
expression-part (ExpressionLine.BooleanLiteral w b) = omega arith
expression-part (ExpressionLine.StringLiteral w x q) = omega arith
expression-part (ExpressionLine.LogicalExpression w o) = omega arith
expression-part (ExpressionLine.CompareExpression w o) = omega arith
expression-part (ExpressionLine.BinaryMathExpression w o) = omega arith
expression-part (ExpressionLine.UnaryMathExpression w o) = omega arith
expression-part (ExpressionLine.UnaryCryptoExpression w o) = omega arith
expression-part (ExpressionLine.ByteExpression w) = omega arith
expression-part (ExpressionLine.CheckSigExpression w) = omega arith

factor-part : (x : FactorLine) → kind_number (kind_from (factor_part x)) ≤ 1
factor-part (FactorLine.SingleSigFactor w) = omega arith
factor-part (FactorLine.MultiSigFactor w p n) = omega arith

parts-fall : (l : Line) (left : Left) → let k = kind_from (kind_of l) in has_room k left ≡ true → deepest (form_of l) (below k left) < depth_of k left
parts-fall (Line.Contract g n) left h = omega arith
parts-fall (Line.Declaration n) left h = omega arith
parts-fall (Line.StackParam w t x) left h = omega arith
parts-fall (Line.Block n) left h = omega (arith, ltb-true)
parts-fall (Line.Statement l) left h = omega arith
parts-fall (Line.Expression l) left h = omega (arith, ltb-true, expression-part l)
parts-fall (Line.Factor l) left h = omega (arith, ltb-true, factor-part l)

taken : (f : Form) (b : Bool) (r : Result Form CompileError) (x : CompileError) → ◌≡◌ {A = Result Form CompileError} (Ok f) (elim b [ true ↦ r | false ↦ Err x ]) → (b ≡ true) × (Ok f ≡ r)
taken f true r x h = (refl, h)
taken f false r x h = cc

-- a line that stands where one of the kind k is due: a level is left for it, its number is within the ceiling, and its parts go less deep
stands : (k : Kind) (left : Left) (i : ℕ) (a : Asked) (f : Form) → Ok f ≡ due k left i a → ((has_room k left ≡ true) × (i < max_lines)) × (deepest f (below k left) < depth_of k left)
unfolding due due_line fits_here
stands k left i Malformed f h = cc
stands k left i End f h = cc
stands k left i (Found l) f h =
    let same = taken f (eqb (kind_number (form_of l).kind) (kind_number k)) _ _ h in
    let fits = taken f (fits_here k left i (form_of l)) _ _ same.1 in
    let is : f ≡ form_of l = cc in
    let kind : (form_of l).kind ≡ k = same-kind (form_of l).kind k (eqb-true _ _ same.0) in
    let room = and_parts (has_room k left) (ltb i max_lines && within_ceilings l) fits.0 in
    let few = and_parts (ltb i max_lines) (within_ceilings l) room.1 in
    ((room.0, ltb-true i max_lines few.0), rw (is, ← kind) (parts-fall l left (rw (← kind) at room.0)))

pub stands_room : (k : Kind) (left : Left) (i : ℕ) (a : Asked) (f : Form) → Ok f ≡ due k left i a → has_room k left ≡ true
stands_room k left i a f h = (stands k left i a f h).0.0

pub stands_few : (k : Kind) (left : Left) (i : ℕ) (a : Asked) (f : Form) → Ok f ≡ due k left i a → i < max_lines
stands_few k left i a f h = (stands k left i a f h).0.1

pub stands_falls : (k : Kind) (left : Left) (i : ℕ) (a : Asked) (f : Form) → Ok f ≡ due k left i a → deepest f (below k left) < depth_of k left
stands_falls k left i a f h = (stands k left i a f h).1

-- a node: a refusal, or a line and its parts
pub node-refused : (f : ℕ) (t : List ℕ) (n : Lines) (left : Left) (k : Kind) (i : ℕ) {x : CompileError} → 0 < f → Err x ≡ due k left i (asked t n i) → Err x ≡ node f t n left k i
unfolding node onward
node-refused zero t n left k i h e = absurd (omega arith)
node-refused (suc f) t n left k i h e = rw (← e, node, onward)

pub node_parts : (f : ℕ) (t : List ℕ) (n : Lines) (left : Left) (k : Kind) (i : ℕ) (p : Form) (b : Left) {r : Result ℕ CompileError} → depth_of k left < f → Ok p ≡ due k left i (asked t n i) → b ≡ below k left → ((g : ℕ) → deepest p b < g → r ≡ parts_of (node g t n b) p (i + 1)) → r ≡ node f t n left k i
unfolding node onward
node_parts zero t n left k i p b h e s parts = absurd (omega arith)
node_parts (suc g) t n left k i p b h e s parts =
    let falls = stands_falls k left i (asked t n i) p e in rw (← e, node, onward, ← s) (parts g (rw s (omega (arith, falls))))

pub node_alone : (f : ℕ) (t : List ℕ) (n : Lines) (left : Left) (k : Kind) (i : ℕ) (p : Form) → depth_of k left < f → Ok p ≡ due k left i (asked t n i) → p.count ≡ 0 → Ok (i + 1) ≡ node f t n left k i
unfolding parts_of each
node_alone f t n left k i p h e none = node_parts f t n left k i p (below k left) h e refl (λ g lt. rw none)

-- the parts of a line of the form f, from the k-th on
unfoldable pub parts_from : (Kind → Walk) → Form → ℕ → Walk
parts_from one f k i = each (λ m. one (form_part f m)) (f.count - k) k i

less : (count k : ℕ) → k < count → count - k ≡ suc (count - (k + 1))
less count k h = omega arith

pub parts_all : (one : Kind → Walk) (f : Form) (i : ℕ) → parts_from one f 0 i ≡ parts_of one f i
unfolding parts_from parts_of
parts_all one f i = rw sub-zero

pub parts_end : (one : Kind → Walk) (f : Form) (k i : ℕ) → f.count ≤ k → Ok i ≡ parts_from one f k i
unfolding parts_from each
parts_end one f k i h = rw (sub-eq-zero_of_le h)

-- with q for the kind of the k-th part, and r for what its node gives
pub parts_refused : (one : Kind → Walk) (f : Form) (k i : ℕ) {x : CompileError} → k < f.count → Err x ≡ one (form_part f k) i → Err x ≡ parts_from one f k i
unfolding parts_from each onward
parts_refused one f k i h e = rw (less f.count k h, ← e, each, onward)

pub parts_next : (one : Kind → Walk) (f : Form) (k i : ℕ) {j : ℕ} → k < f.count → Ok j ≡ one (form_part f k) i → parts_from one f (k + 1) j ≡ parts_from one f k i
unfolding parts_from each onward
parts_next one f k i h e = rw (less f.count k h, ← e, each, onward, add-one k)

-- what a node and its parts are shown by
pub ruleset walk_steps = (stands_room, stands_few, stands_falls, part-deepest, node-refused, node_alone, node_parts, parts_all, parts_end, parts_refused, parts_next)

-- every level is left
abbrev pub all_levels : Left
all_levels = record { blocks = max_block_depth; expressions = max_depth }

-- the T line and its declarations, the block, and nothing more
unfoldable pub contract_walk : ℕ → List ℕ → Lines → Walk
contract_walk f t n i = onward (node f t n all_levels Contract i) (λ j. onward (node f t n all_levels Block j) (λ k. finished k (asked t n k)))

-- the T line and the block as the parts of one line
abbrev pub whole : Form
whole = record { kind = Contract; count = 2; first = Contract; rest = Block; within = true }

-- two walks in a row, and a third
two-walks : (a : Result ℕ CompileError) (b c : Walk) → onward (onward a (λ j. onward (b j) Ok)) c ≡ onward a (λ j. onward (b j) c)
unfolding onward
two-walks (Err x) b c = refl
two-walks (Ok j) b c = last (b j)
  where
    last : (a : Result ℕ CompileError) → onward (onward a Ok) c ≡ onward a c
    last (Ok k) = refl
    last (Err x) = refl

whole-walk : (f : ℕ) (t : List ℕ) (n : Lines) (i : ℕ) → onward (parts_of (node f t n all_levels) whole i) (λ k. finished k (asked t n k)) ≡ contract_walk f t n i
unfolding contract_walk parts_of each
whole-walk f t n i = two-walks (node f t n all_levels Contract i) (node f t n all_levels Block) (λ k. finished k (asked t n k))

-- a contract: refused in its parts, or read to its end
pub contract_refused : (f : ℕ) (t : List ℕ) (n : Lines) (i : ℕ) {x : CompileError} → Err x ≡ parts_of (node f t n all_levels) whole i → Err x ≡ contract_walk f t n i
unfolding onward
contract_refused f t n i e = ap (λ a. onward a (λ k. finished k (asked t n k))) e ∙ whole-walk f t n i

pub contract_end : (f : ℕ) (t : List ℕ) (n : Lines) (i : ℕ) {k : ℕ} → Ok k ≡ parts_of (node f t n all_levels) whole i → finished k (asked t n k) ≡ contract_walk f t n i
unfolding onward
contract_end f t n i e = ap (λ a. onward a (λ k. finished k (asked t n k))) e ∙ whole-walk f t n i

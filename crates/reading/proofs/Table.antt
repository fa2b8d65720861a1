-- The walk of a table that holds a listing's lines is the reading of the listing.
use Prim.Native.Nat.{ℕ, zero, suc, ◌+◌, ◌*◌, ◌≤◌, ◌<◌}
use native.Mathlib.Omega.{arith}
use native.Mathlib.Numerals.{add-one, sub-one}
use mathlib.Core.Bool.{Bool, true, false, ◌&&◌}
use mathlib.Core.List.{List, [], ◌∷◌}
use mathlib.Core.Option.{Option, some, none}
use mathlib.Core.Path.{◌≡◌, refl, sym, ap, subst, ◌∙◌}
use borrow.Author.Tests.{lt-ltb, ltb-true, ltb-false}
use lib.Dec.{ltb, eqb}
use Rattle.listing.proofs.OfKind.{Kind, of-kind, contract-kind, declaration-kind, item-kind, block-kind, statement-kind, expression-kind, factor-kind}
use Rattle.listing.specs.declared.Line.TheVariants.{Contract, Declaration, StackParam, Block as BlockLine, Statement as StatementLines, Expression as ExpressionLines, Factor as FactorLines}
use Rattle.tree.specs.declared.Lines.{Lines}
use Rattle.std.specs.Prelude.{Result, Ok, Err}
use Rattle.ast.specs.declared.CompileError.{CompileError}
use Rattle.tree.specs.declared.Kind.{Kind as LineKind}
use Rattle.tree.specs.declared.Kind.TheVariants.{Expression as ExpressionKind, Factor as FactorKind, Block as BlockKind, Statement as StatementKind, Item as ItemKind, Declaration as DeclarationKind, Contract as ContractKind}
use Rattle.tree.specs.declared.Left.{Left}
use Rattle.tree.specs.declared.Form.{Form}
use Rattle.reader.specs.Ast.{Location, Target, ItemType, Place, StatementLine, ExpressionLine, FactorLine, Line, Next, found, malformed, ended, next_line, contract_line, declaration_line, item_line, block_line, statement_line, expression_line, factor_line, ErrorKind, fault, MalformedLine, UnexpectedLine, CeilingPassed, part as bytes, bytes_of, Expression, Variable, NumberLiteral, BooleanLiteral, StringLiteral, LogicalExpression, CompareExpression, UnaryMathExpression, BinaryMathExpression, UnaryCryptoExpression, CheckSigExpression, ByteExpression, Factor, SingleSigFactor, MultiSigFactor, []ᶠ, ◌∷ᶠ◌, IfStatement, IfElseStatement, LocktimeStatement, VerifyStatement, ExpressionStatement, Block, []ᵇ, ◌∷ᵇ◌}
use Rattle.reader.specs.Source.{Source, source, Read, read, refused, Reading, ◌>>=◌, yield, number, one, two, many, at_line, refuse}
use Rattle.reader.specs.Ceilings.{max_lines, max_depth, max_block_depth, within_ceilings}
use Rattle.reader.specs.Reading.{expected, due as due_reading, bounded, accept, too_deep, finish, expression_of, factor_of, expression, factor, condition, statement_of, block_of, block, item_of, item, declaration_of, declarations, contract_of, contract}
use Rattle.reader.specs.Spells.{Reached, start, step}
use Rattle.tree.specs.Table.{asked, standing, Holds, stepped}
use Rattle.tree.specs.Walk.{kind_of, kind_from, kind_number, form_of, form_part, has_room, below, line_number, refusal, fits_here, due_line, due, Walk, onward, each, parts_of, node, finished}
use Rattle.reader.proofs.Parts.{after, and₂}
use Rattle.reader.proofs.Spelling.{reached-nth, reached-few}
use Rattle.tree.proofs.Walk.{all_levels, contract_walk}

-- a line that may be asked for bears its own number
numbered : (e : ErrorKind) (i : ℕ) → i ≤ max_lines → refusal e i ≡ fault e (at_line (suc i))
unfolding line_number
numbered e i h = ap (λ m. fault e (at_line m)) (go (ltb i max_lines) refl)
  where
    go : (b : Bool) → ltb i max_lines ≡ b → line_number i ≡ suc i
    go true q = rw (q, line_number, add-one i)
    go false q = rw (q, line_number) (omega (arith, ltb-false i max_lines q, h))

-- the kind k is that of the lines that `kind` takes
is_some : {X : Type 0} → Option X → Bool
is_some none = false
is_some (some x) = true

abbrev Takes : {X : Type 0} → (Line → Option X) → LineKind → Type 0
Takes kind k = (l : Line) → eqb (kind_number (kind_from (kind_of l))) (kind_number k) ≡ is_some (kind l)

expression-takes : Takes expression_line ExpressionKind
unfolding is_some
expression-takes = elim [ Contract g n ↦ refl | Declaration n ↦ refl | StackParam l t x ↦ refl | BlockLine n ↦ refl | StatementLines l ↦ refl | ExpressionLines l ↦ refl | FactorLines l ↦ refl ]

factor-takes : Takes factor_line FactorKind
unfolding is_some
factor-takes = elim [ Contract g n ↦ refl | Declaration n ↦ refl | StackParam l t x ↦ refl | BlockLine n ↦ refl | StatementLines l ↦ refl | ExpressionLines l ↦ refl | FactorLines l ↦ refl ]

block-takes : Takes block_line BlockKind
unfolding is_some
block-takes = elim [ Contract g n ↦ refl | Declaration n ↦ refl | StackParam l t x ↦ refl | BlockLine n ↦ refl | StatementLines l ↦ refl | ExpressionLines l ↦ refl | FactorLines l ↦ refl ]

statement-takes : Takes statement_line StatementKind
unfolding is_some
statement-takes = elim [ Contract g n ↦ refl | Declaration n ↦ refl | StackParam l t x ↦ refl | BlockLine n ↦ refl | StatementLines l ↦ refl | ExpressionLines l ↦ refl | FactorLines l ↦ refl ]

item-takes : Takes item_line ItemKind
unfolding is_some
item-takes = elim [ Contract g n ↦ refl | Declaration n ↦ refl | StackParam l t x ↦ refl | BlockLine n ↦ refl | StatementLines l ↦ refl | ExpressionLines l ↦ refl | FactorLines l ↦ refl ]

declaration-takes : Takes declaration_line DeclarationKind
unfolding is_some
declaration-takes = elim [ Contract g n ↦ refl | Declaration n ↦ refl | StackParam l t x ↦ refl | BlockLine n ↦ refl | StatementLines l ↦ refl | ExpressionLines l ↦ refl | FactorLines l ↦ refl ]

contract-takes : Takes contract_line ContractKind
unfolding is_some
contract-takes = elim [ Contract g n ↦ refl | Declaration n ↦ refl | StackParam l t x ↦ refl | BlockLine n ↦ refl | StatementLines l ↦ refl | ExpressionLines l ↦ refl | FactorLines l ↦ refl ]

-- one walk after what a line opens
onward_onward : (d : Result Form CompileError) (p : Form → Result ℕ CompileError) (w : Walk) → onward d (λ f. onward (p f) w) ≡ onward (onward d p) w
unfolding onward
onward_onward (Ok f) p w = refl
onward_onward (Err x) p w = refl

module _ (s t : List ℕ) (n : Lines) (holds : Holds s t n) where
  -- what the reading gives and what the walk gives
  abbrev Agrees : {A : Type 0} → Read A → Result ℕ CompileError → Type 0
  Agrees (read a q) st = (st ≡ Ok q.index) × Reached s q
  Agrees (refused x) st = st ≡ Err x

  -- a reading and a walk agree wherever the listing is reached
  abbrev Same : {A : Type 0} → Reading A → Walk → Type 0
  Same m w = (q : Source) → Reached s q → Agrees (m q) (w q.index)

  stepped_same : {A : Type 0} (x : Read A) (st : Result ℕ CompileError) → Agrees x st → st ≡ stepped x
  unfolding stepped
  stepped_same (read a q) st h = h.0
  stepped_same (refused x) st h = h

  then_same : {A B : Type 0} (m : Reading A) (f : A → Reading B) (v w : Walk) → Same m v → ((a : A) → Same (f a) w) → Same (m >>= f) (λ i. onward (v i) w)
  unfolding ◌>>=◌ onward
  then_same {A} {B} m f v w g h q k = go (m q) (g q k)
    where
      go : (x : Read A) → Agrees x (v q.index) → Agrees {A = B} (elim x [ read a p ↦ f a p | refused e ↦ refused e ]) (onward (v q.index) w)
      go (read a p) e = rw e.0 (h a p e.1)
      go (refused x) e = rw e

  yield-same : {A : Type 0} (a : A) → Same (yield a) Ok
  unfolding yield
  yield-same a q k = (refl, k)

  -- one operand; the value is made of the operand's
  one_same : {A B : Type 0} (m : Reading A) (f : A → B) (v : Walk) → Same m v → Same (m >>= λ a. yield (f a)) v
  unfolding ◌>>=◌ yield
  one_same {A} {B} m f v g q k = go (m q) (g q k)
    where
      go : (x : Read A) → Agrees x (v q.index) → Agrees {A = B} (elim x [ read a p ↦ read (f a) p | refused e ↦ refused e ]) (v q.index)
      go (read a p) e = e
      go (refused x) e = e

  -- n times the same, as the parts from the k-th on
  many-same : {A B : Type 0} (nil : B) (cons : A → B → B) (m : Reading A) (part : ℕ → Walk) → ((k : ℕ) → Same m (part k)) → (c k : ℕ) → Same (many nil cons c m) (each part c k)
  unfolding many each
  many-same nil cons m part g zero k q r = (refl, r)
  many-same nil cons m part g (suc c) k q r =
      then_same m (λ a q. (many nil cons c m >>= λ b. yield (cons a b)) q) (part k) (λ j. each part c (suc k) j) (g k) (λ a. one_same (many nil cons c m) (cons a) (each part c (suc k)) (many-same nil cons m part g c (suc k))) q r

  -- the same, as the parts of a line of the form f, all of one kind
  many-parts : {A B : Type 0} (nil : B) (cons : A → B → B) (m : Reading A) (part : LineKind → Walk) (f : Form) → f.first ≡ f.rest → Same m (part f.first) → Same (many nil cons f.count m) (parts_of part f)
  unfolding parts_of
  many-parts nil cons m part f e g = many-same nil cons m (λ k. part (form_part f k)) go f.count 0
    where
      go : (k : ℕ) → Same m (part (form_part f k))
      go zero = g
      go (suc k) = subst (λ q. Same m (part q)) e g

  -- what the table says of the next line
  asked-next : (q : Source) → Reached s q → asked t n q.index ≡ standing (next_line q.at q.rest)
  asked-next q k = holds q.index (reached-few k) ∙ ap standing (reached-nth s k)

  -- a refusal
  refused-same : (e : ErrorKind) (q : Source) → Reached s q → ◌≡◌ {A = Result ℕ CompileError} (Err (refusal e q.index)) (Err (fault e (at_line (suc q.index))))
  refused-same e q k = ap Err (numbered e q.index (reached-few k))

  -- what a line of the kind that is due opens, if it passes no ceiling
  abbrev Opens : {A : Type 0} → LineKind → Left → Source → Line → ℕ → List ℕ → Reading A → Walk → Type 0
  Opens k left q l m u a w = Agrees (a (after q m u)) (elim (fits_here k left q.index (form_of l)) [ true ↦ w (q.index + 1) | false ↦ Err (refusal CeilingPassed q.index) ])

  due-same : {X A : Type 0} (kind : Line → Option X) (k : LineKind) (left : Left) (opens : Line → X → Reading A) (w : Form → Walk) → Takes kind k → ((q : Source) (l : Line) (x : X) (m : ℕ) (u : List ℕ) → Reached s q → next_line q.at q.rest ≡ found l m u → kind l ≡ some x → Opens k left q l m u (opens l x) (w (form_of l))) → Same (due_reading kind opens) (λ i. onward (due k left i (asked t n i)) (λ f. w f (i + 1)))
  unfolding due_reading expected due due_line onward standing is_some
  due-same {X} {A} kind k left opens w takes g q r = line (next_line q.at q.rest) refl
    where
      fit : (l : Line) (x : X) (z : Source) (b : Bool) → Agrees (opens l x z) (elim b [ true ↦ w (form_of l) (q.index + 1) | false ↦ Err (refusal CeilingPassed q.index) ]) → Agrees (opens l x z) (onward (elim b [ true ↦ Ok (form_of l) | false ↦ Err (refusal CeilingPassed q.index) ]) (λ f. w f (q.index + 1)))
      fit l x z true h = h
      fit l x z false h = h

      of : (l : Line) (m : ℕ) (u : List ℕ) → next_line q.at q.rest ≡ found l m u → (o : Option X) → kind l ≡ o → Agrees (due_reading kind opens q) (onward (due k left q.index (asked t n q.index)) (λ f. w f (q.index + 1)))
      of l m u e none o = rw (asked-next q r, e, o, takes l ∙ ap is_some o, due_reading, expected, due_line) (refused-same UnexpectedLine q r)
      of l m u e (some x) o = rw (asked-next q r, e, o, takes l ∙ ap is_some o, due_reading, expected, due_line) (fit l x (after q m u) (fits_here k left q.index (form_of l)) (g q l x m u r e o))

      line : (x : Next) → next_line q.at q.rest ≡ x → Agrees (due_reading kind opens q) (onward (due k left q.index (asked t n q.index)) (λ f. w f (q.index + 1)))
      line (found l m u) e = of l m u e (kind l) refl
      line malformed e = rw (asked-next q r, e, due_reading) (refused-same MalformedLine q r)
      line ended e = rw (asked-next q r, e, due_reading) (refused-same UnexpectedLine q r)

  -- an accepted line, with a level left for it
  accept-same : {X A : Type 0} (kind : Line → Option X) (k : LineKind) (left : Left) (opens : X → Reading A) (w : Form → Walk) → Takes kind k → has_room k left ≡ true → ((l : Line) (x : X) → kind l ≡ some x → Same (opens x) (w (form_of l))) → Same (accept kind opens) (λ i. onward (due k left i (asked t n i)) (λ f. w f (i + 1)))
  unfolding accept bounded fits_here
  accept-same {X} {A} kind k left opens w takes room g = due-same kind k left (λ l x. bounded l (opens x)) w takes opening
    where
      opening : (q : Source) (l : Line) (x : X) (m : ℕ) (u : List ℕ) → Reached s q → next_line q.at q.rest ≡ found l m u → kind l ≡ some x → Opens k left q l m u (bounded l (opens x)) (w (form_of l))
      opening q l x m u r e o = rw (room, fits_here) (go (ltb q.index max_lines && within_ceilings l) refl)
        where
          go : (b : Bool) → (ltb q.index max_lines && within_ceilings l) ≡ b → Agrees (bounded l (opens x) (after q m u)) (elim (ltb q.index max_lines && within_ceilings l) [ true ↦ w (form_of l) (q.index + 1) | false ↦ Err (refusal CeilingPassed q.index) ])
          go true b = let f = and₂ (ltb q.index max_lines) (within_ceilings l) b in rw (b, bounded, add-one q.index) (g l x o (after q m u) (step r e (ltb-true q.index max_lines f.0) f.1))
          go false b = rw (b, bounded) (refused-same CeilingPassed q r)

  -- one a level too deep
  deep-same : {X : Type 0} (A : Type 0) (kind : Line → Option X) (k : LineKind) (left : Left) (w : Form → Walk) → Takes kind k → has_room k left ≡ false → Same {A = A} (too_deep kind) (λ i. onward (due k left i (asked t n i)) (λ f. w f (i + 1)))
  unfolding too_deep fits_here
  deep-same A kind k left w takes room = due-same kind k left (λ l x r. refuse CeilingPassed r.index) w takes (λ q l x m u r e o. rw (room, fits_here) (refused-same CeilingPassed q r))

  -- nothing may follow
  finish-same : {A : Type 0} (a : A) → Same (finish a) (λ i. finished i (asked t n i))
  unfolding finish finished standing
  finish-same a q r = line (next_line q.at q.rest) refl
    where
      line : (x : Next) → next_line q.at q.rest ≡ x → Agrees (finish a q) (finished q.index (asked t n q.index))
      line (found l m u) e = rw (asked-next q r, e, finish) (refused-same UnexpectedLine q r)
      line malformed e = rw (asked-next q r, e, finish) (refused-same MalformedLine q r)
      line ended e = rw (asked-next q r, e, finish) (refl, r)

  -- no part, one, and two
  number_same : {A : Type 0} (f : ℕ → A) → Same (number >>= λ m. yield (f m)) Ok
  unfolding number ◌>>=◌ yield
  number_same f q k = (refl, k)

  one-part : {A B : Type 0} (m : Reading A) (f : A → B) (v : Walk) → Same m v → Same (one m f) (λ i. onward (v i) (λ j. Ok j))
  unfolding one
  one-part m f v g = then_same m (λ a. yield (f a)) v Ok g (λ a. yield-same (f a))

  two-parts : {A B C : Type 0} (m : Reading A) (k : Reading B) (f : A → B → C) (v w : Walk) → Same m v → Same k w → Same (two m k f) (λ i. onward (v i) (λ j. onward (w j) (λ h. Ok h)))
  unfolding two one
  two-parts m k f v w g h = then_same m (λ a. k >>= λ b. yield (f a b)) v (λ j. onward (w j) (λ h. Ok h)) g (λ a. one-part k (f a) w h)

  -- `part k` is a node of the kind k
  expression-parts : (a : Reading Expression) (f : Reading Factor) (part : LineKind → Walk) → Same a (part ExpressionKind) → Same f (part FactorKind) → (x : ExpressionLine) → Same (expression_of s a f x) (parts_of part (form_of (Line.Expression x)))
  unfolding expression_of parts_of each
  expression-parts a f part g h (ExpressionLine.Variable l x) = number_same (λ m. Variable l m (bytes s x))
  expression-parts a f part g h (ExpressionLine.NumberLiteral l v) = yield-same (NumberLiteral l v)
  expression-parts a f part g h (ExpressionLine.BooleanLiteral l k) = yield-same (BooleanLiteral l k)
  expression-parts a f part g h (ExpressionLine.StringLiteral l x m) = yield-same (StringLiteral l (bytes_of s x) m)
  expression-parts a f part g h (ExpressionLine.LogicalExpression l o) = two-parts a a (LogicalExpression l o) (part ExpressionKind) (part ExpressionKind) g g
  expression-parts a f part g h (ExpressionLine.CompareExpression l o) = two-parts a a (CompareExpression l o) (part ExpressionKind) (part ExpressionKind) g g
  expression-parts a f part g h (ExpressionLine.BinaryMathExpression l o) = two-parts a a (BinaryMathExpression l o) (part ExpressionKind) (part ExpressionKind) g g
  expression-parts a f part g h (ExpressionLine.UnaryMathExpression l o) = one-part a (UnaryMathExpression l o) (part ExpressionKind) g
  expression-parts a f part g h (ExpressionLine.UnaryCryptoExpression l o) = one-part a (UnaryCryptoExpression l o) (part ExpressionKind) g
  expression-parts a f part g h (ExpressionLine.ByteExpression l) = one-part a (ByteExpression l) (part ExpressionKind) g
  expression-parts a f part g h (ExpressionLine.CheckSigExpression l) = one-part f (CheckSigExpression l) (part FactorKind) h

  factor-parts : (a : Reading Expression) (f : Reading Factor) (part : LineKind → Walk) → Same a (part ExpressionKind) → Same f (part FactorKind) → (x : FactorLine) → Same (factor_of a f x) (parts_of part (form_of (Line.Factor x)))
  unfolding factor_of parts_of each one
  factor-parts a f part g h (FactorLine.SingleSigFactor l) = two-parts a a (SingleSigFactor l) (part ExpressionKind) (part ExpressionKind) g g
  factor-parts a f part g h (FactorLine.MultiSigFactor l m c) = one_same (many []ᶠ ◌∷ᶠ◌ c f) (MultiSigFactor l m) (parts_of part (form_of (Line.Factor (FactorLine.MultiSigFactor l m c)))) (many-parts []ᶠ ◌∷ᶠ◌ f part (form_of (Line.Factor (FactorLine.MultiSigFactor l m c))) refl h)

  statement-parts : (inner : Reading Block) (part : LineKind → Walk) → Same (condition s) (part ExpressionKind) → Same inner (part BlockKind) → (x : StatementLine) → Same (statement_of s inner x) (parts_of part (form_of (Line.Statement x)))
  unfolding statement_of parts_of each
  statement-parts inner part g h (StatementLine.IfStatement l false) = two-parts (condition s) inner (IfStatement l) (part ExpressionKind) (part BlockKind) g h
  statement-parts inner part g h (StatementLine.IfStatement l true) = then_same (condition s) (λ e. two inner inner (IfElseStatement l e)) (part ExpressionKind) (λ i. onward (part BlockKind i) (λ j. onward (part BlockKind j) (λ h. Ok h))) g (λ e. two-parts inner inner (IfElseStatement l e) (part BlockKind) (part BlockKind) h h)
  statement-parts inner part g h (StatementLine.LocktimeStatement l o v) = number_same (λ m. LocktimeStatement l m o v)
  statement-parts inner part g h (StatementLine.VerifyStatement l) = one-part (condition s) (VerifyStatement l) (part ExpressionKind) g
  statement-parts inner part g h (StatementLine.ExpressionStatement l) = one-part (condition s) (ExpressionStatement l) (part ExpressionKind) g

  -- a node of a kind: its line, and its parts with the levels `inner` left
  node-same : {X A : Type 0} (kind : Line → Option X) (line : X → Line) (k : LineKind) (left inner : Left) (opens : X → Reading A) (g : ℕ) → Kind kind line → Takes kind k → has_room k left ≡ true → below k left ≡ inner → ((x : X) → Same (opens x) (parts_of (node g t n inner) (form_of (line x)))) → Same (accept kind opens) (node (suc g) t n left k)
  unfolding node
  node-same kind line k left inner opens g made takes room e h =
      accept-same kind k left opens (parts_of (node g t n (below k left))) takes room (λ l x o. subst (λ y. Same (opens x) (parts_of (node g t n (below k left)) (form_of y))) (sym (of-kind kind line made o)) (subst (λ z. Same (opens x) (parts_of (node g t n z) (form_of (line x)))) (sym e) (h x)))

  node-deep : {X : Type 0} (A : Type 0) (kind : Line → Option X) (k : LineKind) (left : Left) (g : ℕ) → Takes kind k → has_room k left ≡ false → Same {A = A} (too_deep kind) (node (suc g) t n left k)
  unfolding node
  node-deep A kind k left g takes room = deep-same A kind k left (parts_of (node g t n (below k left))) takes room

  -- b levels of blocks and d of expressions are left
  abbrev levels : ℕ → ℕ → Left
  levels b d = record { blocks = b; expressions = d }

  mutual
    unfolding expression

    expression-same : (d b g : ℕ) → d ≤ g → Same (expression d s) (node (suc g) t n (levels b d) ExpressionKind)
    expression-same zero b g h = node-deep Expression expression_line ExpressionKind (levels b 0) g expression-takes refl
    expression-same (suc d) b zero h = absurd (omega arith)
    expression-same (suc d) b (suc g) h = node-same expression_line Line.Expression ExpressionKind (levels b (suc d)) (levels b d) (expression_of s (λ q. expression d s q) (λ q. factor d s q)) (suc g) expression-kind expression-takes (lt-ltb 0 (suc d) (omega arith)) (rw sub-one) (expression-parts (λ q. expression d s q) (λ q. factor d s q) (node (suc g) t n (levels b d)) (expression-same d b g (omega arith)) (factor-same d b g (omega arith)))

    factor-same : (d b g : ℕ) → d ≤ g → Same (factor d s) (node (suc g) t n (levels b d) FactorKind)
    factor-same zero b g h = node-deep Factor factor_line FactorKind (levels b 0) g factor-takes refl
    factor-same (suc d) b zero h = absurd (omega arith)
    factor-same (suc d) b (suc g) h = node-same factor_line Line.Factor FactorKind (levels b (suc d)) (levels b d) (factor_of (λ q. expression d s q) (λ q. factor d s q)) (suc g) factor-kind factor-takes (lt-ltb 0 (suc d) (omega arith)) (rw sub-one) (factor-parts (λ q. expression d s q) (λ q. factor d s q) (node (suc g) t n (levels b d)) (expression-same d b g (omega arith)) (factor-same d b g (omega arith)))

  statement-same : (b g : ℕ) (inner : Reading Block) → max_depth ≤ g → Same inner (node (suc g) t n (levels b max_depth) BlockKind) → Same (accept statement_line (statement_of s inner)) (node (suc (suc g)) t n (levels b max_depth) StatementKind)
  unfolding condition
  statement-same b g inner h e = node-same statement_line Line.Statement StatementKind (levels b max_depth) (levels b max_depth) (statement_of s inner) (suc g) statement-kind statement-takes refl refl (statement-parts inner (node (suc g) t n (levels b max_depth)) (expression-same max_depth b g h) e)

  block_same : (b g : ℕ) → 2 * b + max_depth ≤ g → Same (block b s) (node (suc g) t n (levels b max_depth) BlockKind)
  unfolding block block_of parts_of
  block_same zero g h = node-deep Block block_line BlockKind (levels 0 max_depth) g block-takes refl
  block_same (suc b) zero h = absurd (omega arith)
  block_same (suc b) (suc zero) h = absurd (omega arith)
  block_same (suc b) (suc (suc g)) h =
      node-same block_line Line.Block BlockKind (levels (suc b) max_depth) (levels b max_depth) (block_of (accept statement_line (statement_of s (λ q. block b s q)))) (suc (suc g)) block-kind block-takes (lt-ltb 0 (suc b) (omega arith)) (rw sub-one) (λ c. many-parts []ᵇ ◌∷ᵇ◌ (accept statement_line (statement_of s (λ q. block b s q))) (node (suc (suc g)) t n (levels b max_depth)) (form_of (Line.Block c)) refl (statement-same b g (λ q. block b s q) (omega arith) (block_same b g (omega arith))))

  item-same : {A : Type 0} (make : Location → ItemType → Place → A) (left : Left) (g : ℕ) → Same (accept item_line (item_of make)) (node (suc g) t n left ItemKind)
  unfolding item_of parts_of each
  item-same make left g = node-same item_line (λ (l, y, x). Line.StackParam l y x) ItemKind left left (item_of make) g item-kind item-takes refl refl (λ (l, y, x). yield-same (make l y x))

  declaration-same : {A : Type 0} (make : Location → ItemType → Place → A) (left : Left) (g : ℕ) → Same (accept declaration_line (declaration_of make)) (node (suc (suc g)) t n left DeclarationKind)
  unfolding declaration_of parts_of
  declaration-same make left g = node-same declaration_line Line.Declaration DeclarationKind left left (declaration_of make) (suc g) declaration-kind declaration-takes refl refl (λ c. many-parts [] ◌∷◌ (accept item_line (item_of make)) (node (suc g) t n left) (form_of (Line.Declaration c)) refl (item-same make left g))

  -- after the declarations: the block, and nothing more
  abbrev rest : ℕ → Walk
  rest f i = onward (node f t n all_levels BlockKind i) (λ j. finished j (asked t n j))

  -- what the T line opens
  body_same : (f g : ℕ) → 2 * max_block_depth + max_depth < f → (x : Target × ℕ) → Same (contract_of s x) (λ i. onward (parts_of (node (suc (suc g)) t n all_levels) (form_of (Line.Contract x.0 x.1)) i) (rest f))
  unfolding contract_of declarations parts_of
  body_same zero g h x = absurd (omega arith)
  body_same (suc f) g h (y, c) =
      then_same (declarations (item s) c) (λ ds. block max_block_depth s >>= λ b. finish (record { target = y; declarations = ds; block = b })) (parts_of (node (suc (suc g)) t n all_levels) (form_of (Line.Contract y c))) (rest (suc f)) (many-parts [] ◌∷◌ (accept declaration_line (declaration_of (item s))) (node (suc (suc g)) t n all_levels) (form_of (Line.Contract y c)) refl (declaration-same (item s) all_levels g)) (λ ds. then_same (block max_block_depth s) (λ b. finish (record { target = y; declarations = ds; block = b })) (node (suc f) t n all_levels BlockKind) (λ k. finished k (asked t n k)) (block_same max_block_depth f (omega arith)) (λ b. finish-same (record { target = y; declarations = ds; block = b })))

  contract-same : (f : ℕ) → 2 * max_block_depth + max_depth < f → Same (contract s) (contract_walk f t n)
  unfolding contract contract_walk node
  contract-same zero h q k = absurd (omega arith)
  contract-same (suc zero) h q k = absurd (omega arith)
  contract-same (suc (suc zero)) h q k = absurd (omega arith)
  contract-same (suc (suc (suc g))) h q k =
      subst (Agrees (contract s q)) (onward_onward (due ContractKind all_levels q.index (asked t n q.index)) (λ f. parts_of (node (suc (suc g)) t n all_levels) f (q.index + 1)) (rest (suc (suc (suc g))))) (accept-same contract_line ContractKind all_levels (contract_of s) (λ f i. onward (parts_of (node (suc (suc g)) t n all_levels) f i) (rest (suc (suc (suc g))))) contract-takes refl (λ l x o. subst (λ y. Same (contract_of s x) (λ i. onward (parts_of (node (suc (suc g)) t n all_levels) (form_of y) i) (rest (suc (suc (suc g)))))) {y = l} (sym (of-kind contract_line (λ (y, c). Line.Contract y c) contract-kind o)) (body_same (suc (suc (suc g))) g h x)) q k)

  pub contract-walk : (f : ℕ) → 2 * max_block_depth + max_depth < f → contract_walk f t n 0 ≡ stepped (contract s (source s 0 0))
  contract-walk f h = stepped_same (contract s (source s 0 0)) (contract_walk f t n 0) (contract-same f h (source s 0 0) start)

-- Rules on rows: what stands below a node, answers in turn, and a node answered by what stands below it.
use Prim.Native.Nat.{ℕ, suc, ◌+◌, ◌≤◌, ◌<◌}
use native.Mathlib.Numerals.{add-one}
use native.Mathlib.Omega.{arith}
use mathlib.Core.List.{List}
use mathlib.Core.Path.{◌≡◌, refl, sym, ap, ◌∙◌, subst}
use lib.ListN.{length}
use Rattle.std.specs.Prelude.{Ok, Err}
use Rattle.ast.specs.declared.Location.{Location}
use Rattle.ast.specs.declared.Target.{Target}
use Rattle.text.specs.declared.Place.{Place}
use Rattle.listing.specs.Kinds.{part_of}
use Rattle.listing.specs.declared.ExpressionLine.{ExpressionLine}
use Rattle.listing.specs.declared.Line.{Line}
use Rattle.rules.specs.Result.{Result, Checked, both}
use Rattle.ast.specs.declared.CompileError.{CompileError}
use Rattle.ast.specs.Tree.{StackParam, Declaration, from_top, Expression, Factors}
use Rattle.rows.specs.Rows.{line_in}
use Rattle.reader.specs.Reading.{item}
use Rattle.reader.specs.Spells.{SpellsExpression, SpellsFactor, SpellsFactors, SpellsItems}
use Rattle.reader.proofs.Agree.{expression-on, factor-on, factors-on}
use Rattle.nodes.specs.Stands.{walked}
use Rattle.nodes.proofs.Laws.{below, row-part, walked-pass, walked-fault}
use Rattle.names.specs.Items.{ItemsAt, Inside}
use Rattle.reader.proofs.Items.{items-end}
use Rattle.rules.specs.Types.{size, inner, inners}
use Rattle.operands.specs.declared.Context.{Context}
use Rattle.operands.specs.Typed.{Declares, Under, Answers, ExpressionUnder, Checks, Two, SpellsTwo, TwoUnder, ChecksTwo, FactorUnder, FactorsUnder, ChecksFactor, ChecksFactors}

-- a rule on an expression
abbrev Rule : Type 0
Rule = Expression → Target → List StackParam → Checked

module _ {s t : List ℕ} {p : Context} where
  -- a tree's row lies in the table
  pub row_low : {i : ℕ} → ExpressionUnder s t p i → i < length t
  row_low u = omega (arith, expression-on (line_in t) s u.node.spells, u.node.within, u.node.rows.room)

  pub factor-low : {i : ℕ} → FactorUnder s t p i → i < length t
  factor-low u = omega (arith, factor-on (line_in t) s u.node.spells, u.node.within, u.node.rows.room)

  -- a variable's name lies in the listing
  pub name-under : {i : ℕ} {l : Location} {x : Place} (u : ExpressionUnder s t p i) → line_in t i ≡ Line.Expression (ExpressionLine.Variable l x) → ItemsAt s t p.items.count p.items.first × Inside s x
  unfolding part_of
  name-under u h = (u.items, row-part u.node (expression-on _ _ u.node.spells) _ h _ refl)

  -- what stands below: from the next row on up to the end of the node
  pub under : {A B : Type 0} {R : ℕ → A → ℕ → Type 0} (Q : ℕ → B → ℕ → Type 0) {i k m : ℕ} {b : B} (u : Under R s t p i) → Q k b m → m ≤ u.node.next → Under Q s t p k
  under Q u q h = record { node = below Q u.node q h; items = u.items }

  pub operand : {A B : Type 0} {R : ℕ → A → ℕ → Type 0} (Q : ℕ → B → ℕ → Type 0) {i : ℕ} {b : B} (u : Under R s t p i) → Q (suc i) b u.node.next → Under Q s t p (i + 1)
  operand Q u q = rw add-one (under Q u q (omega arith))

  pub operands : {A : Type 0} {R : ℕ → A → ℕ → Type 0} {i : ℕ} {a b : Expression} {k : ℕ} (u : Under R s t p i) → SpellsExpression (line_in t) s (suc i) a k → SpellsExpression (line_in t) s k b u.node.next → TwoUnder s t p (i + 1)
  operands {a = a} {b} {k} u q r = operand (SpellsTwo s t) {b = record { left = a; right = b }} u (record { mid = k; first = q; second = r })

  pub left-under : {i : ℕ} → TwoUnder s t p i → ExpressionUnder s t p i
  left-under u = under (SpellsExpression (line_in t) s) u u.node.spells.first (omega (arith, expression-on (line_in t) s u.node.spells.second))

  pub first_under : {i n : ℕ} → FactorsUnder (suc n) s t p i → FactorUnder s t p i
  first_under {i} {n} u = go u.node.spells (omega arith)
    where
      go : {fs : Factors} {j : ℕ} → SpellsFactors (line_in t) s (suc n) i fs j → j ≤ u.node.next → FactorUnder s t p i
      go (SpellsFactors.cons q r) h = under (SpellsFactor (line_in t) s) u q (omega (arith, factors-on (line_in t) s r))

module _ (s t : List ℕ) (p : Context) where
  -- some declaration is named
  pub declared : ItemsAt s t p.items.count p.items.first → (d : Declaration) × Declares s t p d
  declared u = (u.tree, subst (λ j. SpellsItems (line_in t) StackParam (item s) p.items.count p.items.first u.tree j) (items-end u.spells) u.spells)

  -- a pass on a tree ends where the tree does
  passes : {A : Type 0} (R : ℕ → A → ℕ → Type 0) (rule : A → Target → List StackParam → Checked) (i n : ℕ) (r : Result ℕ) → r ≡ Ok n → Answers R rule s t p i r → (e : A) (j : ℕ) (d : Declaration) → R i e j → Declares s t p d → (rule e p.target (from_top d) ≡ Ok tt) × (j ≡ n)
  passes R rule i n r w h e j d u q = walked-pass (rule e p.target (from_top d)) j (sym (h e j d u q) ∙ w)

  faults : {A : Type 0} (R : ℕ → A → ℕ → Type 0) (rule : A → Target → List StackParam → Checked) (i : ℕ) (x : CompileError) (r : Result ℕ) → r ≡ Err x → Answers R rule s t p i r → (e : A) (j : ℕ) (d : Declaration) → R i e j → Declares s t p d → rule e p.target (from_top d) ≡ Err x
  faults R rule i x r w h e j d u q = walked-fault (rule e p.target (from_top d)) j (sym (h e j d u q) ∙ w)

  -- the right operand stands where a pass on the left one ends
  module _ (i n : ℕ) (one : Rule) (l : Result ℕ) (w : l ≡ Ok n) (h : Checks one s t p i l) where
    pub right-under : TwoUnder s t p i → ExpressionUnder s t p n × (i < n)
    right-under u =
        let v = u.node.spells in
        let d = declared u.items in
        let e : v.mid ≡ n = (passes (SpellsExpression (line_in t) s) one i n l w h _ _ _ v.first d.1).1 in
        (subst (λ k. ExpressionUnder s t p k) e (under (SpellsExpression (line_in t) s) u v.second (omega arith)), omega (arith, expression-on (line_in t) s v.first))

    pub two-pass : (other : Rule) (r : Result ℕ) → Checks other s t p n r → ChecksTwo one other s t p i r
    two-pass other r k e j d v q =
        let z = passes (SpellsExpression (line_in t) s) one i n l w h _ _ _ v.first q in
        rw z.0 (k _ _ _ (subst (λ m. SpellsExpression (line_in t) s m e.right j) z.1 v.second) q)

  pub two-fault : (i : ℕ) (x : CompileError) (one other : Rule) (r : Result ℕ) → r ≡ Err x → Checks one s t p i r → ChecksTwo one other s t p i r
  two-fault i x one other r w h e j d v q = rw (faults (SpellsExpression (line_in t) s) one i x r w h _ _ _ v.first q, w)

  -- factors in turn
  abbrev Inner : ℕ → Result ℕ → Type 0
  Inner i r = ChecksFactor inner s t p i r

  abbrev Inners : ℕ → ℕ → Result ℕ → Type 0
  Inners n i r = ChecksFactors n (λ fs g ps. inners g ps fs) s t p i r

  pub inners-end : (i : ℕ) → Inners 0 i (Ok i)
  unfolding inners
  inners-end i fs j d SpellsFactors.nil q = refl

  pub inners-fault : (n i : ℕ) (x : CompileError) (r : Result ℕ) → r ≡ Err x → Inner i r → Inners (suc n) i r
  unfolding inners
  inners-fault n i x r w h fs j d (SpellsFactors.cons {f = f} u v) q = rw (faults (SpellsFactor (line_in t) s) (λ f g ps. inner g ps f) i x r w h f _ d u q, w)

  module _ (n i m : ℕ) (l : Result ℕ) (w : l ≡ Ok m) (h : Inner i l) where
    pub rest_under : FactorsUnder (suc n) s t p i → FactorsUnder n s t p m
    rest_under u = go u.node.spells (omega arith)
      where
        go : {fs : Factors} {j : ℕ} → SpellsFactors (line_in t) s (suc n) i fs j → j ≤ u.node.next → FactorsUnder n s t p m
        go (SpellsFactors.cons {f = f} q r) k =
            let d = declared u.items in
            let e = (passes (SpellsFactor (line_in t) s) (λ f g ps. inner g ps f) i m l w h f _ d.0 q d.1).1 in
            subst (λ b. FactorsUnder n s t p b) e (under (SpellsFactors (line_in t) s n) u r k)

    pub inners-pass : (r : Result ℕ) → Inners n m r → Inners (suc n) i r
    unfolding inners
    inners-pass r k fs j d (SpellsFactors.cons {f = f} {fs = rest} u v) q =
        let z = passes (SpellsFactor (line_in t) s) (λ f g ps. inner g ps f) i m l w h f _ d u q in
        rw z.0 (k rest j d (subst (λ b. SpellsFactors (line_in t) s n b rest j) z.1 v) q)

-- n factors are n
pub factors-size : (s t : List ℕ) {n i j : ℕ} {fs : Factors} → SpellsFactors (line_in t) s n i fs j → size fs ≡ n
unfolding size
factors-size s t SpellsFactors.nil = refl
factors-size s t (SpellsFactors.cons u v) = ap suc (factors-size s t v)

-- what is answered by one rule is answered by another that agrees with it on the node
pub turn : {e E : Expression} (F G : Expression → Checked) (j : ℕ) {r : Result ℕ} → e ≡ E → F E ≡ G E → r ≡ walked (F e) j → r ≡ walked (G e) j
turn F G j q h k = k ∙ ap (λ c. walked c j) (ap F q ∙ h ∙ ap G (sym q))

-- a check, and after its pass another
module _ (c d : Checked) {o : Checked} (q : both c d ≡ o) (j : ℕ) {r : Result ℕ} (h : r ≡ walked c j) where
  pub then-fault : {x : CompileError} → r ≡ Err x → r ≡ walked o j
  then-fault w = rw (w, ← q, walked-fault c j (sym h ∙ w))

  pub then-pass : {n : ℕ} {b : Result ℕ} → r ≡ Ok n → b ≡ walked d n → b ≡ walked o j
  then-pass w k = let z = walked-pass c j (sym h ∙ w) in rw (← q, z.0, z.1) k

-- a node with no operand
pub leaf : {e E : Expression} (G : Expression → Checked) {i j : ℕ} {r : Result ℕ} → e ≡ E → j ≡ suc i → r ≡ walked (G E) (i + 1) → r ≡ walked (G e) j
leaf {e} {E} G {i} {j} {r} q n h = rw (q, n) (rw add-one at h)

module _ (s t : List ℕ) (p : Context) (i j : ℕ) {A : Type 0} {e : A} (d : Declaration) (r : Result ℕ) (q : Declares s t p d) (G : A → Checked) where
  -- a node answered by what stands below it
  pub by-operand : {C : Type 0} {U : C → A} (R : ℕ → C → ℕ → Type 0) (rule : C → Target → List StackParam → Checked) → (a : C) × R (suc i) a j × (e ≡ U a) → Answers R rule s t p (i + 1) r → ((a : C) → rule a p.target (from_top d) ≡ G (U a)) → r ≡ walked (G e) j
  by-operand R rule (a, u, w) h k = rw (w, ← k a) ((rw add-one at h) a j d u q)

  pub by_two : {B : Expression → Expression → A} (rule : Two → Target → List StackParam → Checked) → (a : Expression) × (b : Expression) × (k : ℕ) × SpellsExpression (line_in t) s (suc i) a k × SpellsExpression (line_in t) s k b j × (e ≡ B a b) → Answers (SpellsTwo s t) rule s t p (i + 1) r → ((a b : Expression) → rule (record { left = a; right = b }) p.target (from_top d) ≡ G (B a b)) → r ≡ walked (G e) j
  by_two rule (a, b, m, u, v, w) h k = rw (w, ← k a b) ((rw add-one at h) (record { left = a; right = b }) j d (record { mid = m; first = u; second = v }) q)

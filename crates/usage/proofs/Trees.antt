-- The names of a tree from its first line: what stands below, and the rule for it.
use Prim.Native.Nat.{ℕ, suc, ◌+◌, ◌-◌, ◌≤◌, ◌<◌}
use native.Mathlib.Nat.{zero-add}
use native.Mathlib.Numerals.{add-one}
use native.Mathlib.Omega.{arith}
use mathlib.Core.Bool.{false}
use mathlib.Core.List.{List, [], ◌∷◌, ◌++◌}
use mathlib.Core.Path.{◌≡◌, refl, sym, ap, ◌∙◌, subst}
use denote.Enum.Declared.{tag_of}
use types.Run.{OneOf, miss}
use Rattle.std.specs.Prelude.{Ok, Err, IsErrAnd}
use Rattle.std.proofs.lemmas.Result.{err_from_is_err_and}
use Rattle.ast.specs.declared.Location.{Location}
use Rattle.ast.specs.declared.CompileError.{CompileError}
use Rattle.ast.specs.Tree.{Expression, Factor, Factors}
use Rattle.text.specs.declared.Place.{Place}
use Rattle.text.specs.Text.{part}
use Rattle.listing.specs.Kinds.{part_of}
use Rattle.listing.specs.declared.ExpressionLine.{ExpressionLine}
use Rattle.listing.specs.declared.FactorLine.{FactorLine}
use Rattle.listing.specs.declared.Line.{Line}
use Rattle.listing.specs.contracts.ExpressionLine.{the_type}
use Rattle.rows.specs.Rows.{line_in}
use Rattle.reader.specs.Parts.{count_of}
use Rattle.reader.specs.Ceilings.{max_lines}
use Rattle.reader.specs.Spells.{SpellsExpression, SpellsFactor, SpellsFactors}
use Rattle.reader.proofs.Inversion.{ExpressionFrom, FactorFrom}
use Rattle.reader.proofs.Agree.{expression-on, factor-on, factors-on}
use Rattle.rules.specs.Result.{Result, ◌>>=◌}
use Rattle.rules.specs.Table.{Table}
use Rattle.rules.specs.Usage.{take, usage, usage_factor, usage_inner, usage_factors}
use Rattle.nodes.specs.Stands.{Stands}
use Rattle.names.specs.Items.{Inside}
use Rattle.nodes.proofs.Laws.{expression-is, factor-is, row-part, below}
use Rattle.usage.specs.declared.Parts.{Parts}
use Rattle.usage.specs.declared.Parts.TheVariants.{Named, Expressions, Factors as Signed}
use Rattle.paths.specs.declared.Path.{Path}
use Rattle.usage.specs.declared.Used.{Used}
use Rattle.paths.specs.Path.{table_of, WellFormed, SameItems, Walked}
use Rattle.usage.specs.Walk.{SpellsExpressions, usage_all, FactorParts, PartsAre, Walks}
use Rattle.paths.proofs.Walks.{same-items, items-then}
use Rattle.usage.proofs.Walks.{at_next, to-fault, to-pass, to-next, to-ok, to-err, to-onward, to-is}

-- ---- some expressions in turn

bind_ok : {A : Type 0} (m : Result A) → m ≡ (m >>= λ a. Ok a)
bind_ok (Ok a) = refl
bind_ok (Err x) = refl

-- one, and two
pub one-all : (a : Expression) (t : Table) → usage a t ≡ usage_all (a ∷ []) t
unfolding usage_all
one-all a t = bind_ok (usage a t)

two-all : (a b : Expression) (t : Table) → (usage a t >>= λ t'. usage b t') ≡ usage_all (a ∷ b ∷ []) t
unfolding usage_all
two-all a b t = go (usage a t)
  where
    go : (m : Result Table) → (m >>= λ t'. usage b t') ≡ (m >>= λ t'. usage b t' >>= λ t''. Ok t'')
    go (Ok u) = bind_ok (usage b u)
    go (Err x) = refl

bind-bind : {A B C : Type 0} (m : Result A) (f : A → Result B) (g : B → Result C) (h : A → Result C) → ((a : A) → (f a >>= λ b. g b) ≡ h a) → ((m >>= λ a. f a) >>= λ b. g b) ≡ (m >>= λ a. h a)
bind-bind (Ok a) f g h e = e a
bind-bind (Err x) f g h e = refl

all_append : (xs ys : List Expression) (t : Table) → (usage_all xs t >>= λ t'. usage_all ys t') ≡ usage_all (xs ++ ys) t
unfolding usage_all
all_append [] ys t = refl
all_append (x ∷ xs) ys t = bind-bind (usage x t) (usage_all xs) (usage_all ys) (usage_all (xs ++ ys)) (λ u. all_append xs ys u)

module _ (L : ℕ → Line) (s : List ℕ) where
  pub spells_one : {i j : ℕ} {a : Expression} → SpellsExpression L s i a j → SpellsExpressions L s 1 i (a ∷ []) j
  spells_one u = SpellsExpressions.cons u SpellsExpressions.nil

  spells-append : {n m i j k : ℕ} {xs ys : List Expression} → SpellsExpressions L s n i xs k → SpellsExpressions L s m k ys j → SpellsExpressions L s (n + m) i (xs ++ ys) j
  spells-append {m = m} {i} {j} {ys = ys} SpellsExpressions.nil v = rw (zero-add m) v
  spells-append {m = m} {i} {j} {ys = ys} (SpellsExpressions.cons {n = n} {e = e} {es = es} u w) v =
      let q : suc (n + m) ≡ suc n + m = omega arith in
      subst (λ l. SpellsExpressions L s l i (e ∷ (es ++ ys)) j) q (SpellsExpressions.cons u (spells-append w v))

  -- each has a row of its own
  pub expressions-many : {n i j : ℕ} {es : List Expression} → SpellsExpressions L s n i es j → i + n ≤ j
  expressions-many SpellsExpressions.nil = omega arith
  expressions-many (SpellsExpressions.cons u v) = omega (arith, expression-on L s u, expressions-many v)

-- ---- what stands below a line

module _ (L : ℕ → Line) (s : List ℕ) where
  -- below the line of the expression e, which stands at row i; n is the row after it
  abbrev pub LineParts : ExpressionLine → ℕ → ℕ → Expression → ℕ → Type 0
  LineParts (ExpressionLine.Variable w x) i n e j = PartsAre L s i e j (Named w x)
  LineParts (ExpressionLine.NumberLiteral w v) i n e j = PartsAre L s i e j (Expressions 0 n)
  LineParts (ExpressionLine.BooleanLiteral w b) i n e j = PartsAre L s i e j (Expressions 0 n)
  LineParts (ExpressionLine.StringLiteral w x m) i n e j = PartsAre L s i e j (Expressions 0 n)
  LineParts (ExpressionLine.LogicalExpression w o) i n e j = PartsAre L s i e j (Expressions 2 n)
  LineParts (ExpressionLine.CompareExpression w o) i n e j = PartsAre L s i e j (Expressions 2 n)
  LineParts (ExpressionLine.BinaryMathExpression w o) i n e j = PartsAre L s i e j (Expressions 2 n)
  LineParts (ExpressionLine.UnaryMathExpression w o) i n e j = PartsAre L s i e j (Expressions 1 n)
  LineParts (ExpressionLine.UnaryCryptoExpression w o) i n e j = PartsAre L s i e j (Expressions 1 n)
  LineParts (ExpressionLine.ByteExpression w) i n e j = PartsAre L s i e j (Expressions 1 n)
  LineParts (ExpressionLine.CheckSigExpression w) i n e j = (f : Factor) × SpellsFactor L s n f j × ((t : Table) → usage e t ≡ usage_factor f t)

  leaf : (i j : ℕ) (e y : Expression) → ((t : Table) → usage y t ≡ Ok t) → e ≡ y → j ≡ suc i → PartsAre L s i e j (Expressions 0 (suc i))
  unfolding usage_all
  leaf i j e y h p q = (omega arith, ([], rw q SpellsExpressions.nil, λ t. ap (λ z. usage z t) p ∙ h t))

  one_below : (i j : ℕ) (e y a : Expression) → SpellsExpression L s (suc i) a j → ((t : Table) → usage y t ≡ usage a t) → e ≡ y → PartsAre L s i e j (Expressions 1 (suc i))
  one_below i j e y a u h p = (omega arith, (a ∷ [], spells_one L s u, λ t. ap (λ z. usage z t) p ∙ h t ∙ one-all a t))

  two-below : (i j k : ℕ) (e y a b : Expression) → SpellsExpression L s (suc i) a k → SpellsExpression L s k b j → ((t : Table) → usage y t ≡ (usage a t >>= λ t'. usage b t')) → e ≡ y → PartsAre L s i e j (Expressions 2 (suc i))
  two-below i j k e y a b u v h p = (omega arith, (a ∷ b ∷ [], SpellsExpressions.cons u (spells_one L s v), λ t. ap (λ z. usage z t) p ∙ h t ∙ two-all a b t))

  line-parts : (i j : ℕ) (e : Expression) (x : ExpressionLine) → L i ≡ Line.Expression x → ExpressionFrom L s x i e j → LineParts x i (suc i) e j
  unfolding usage
  line-parts i j e (ExpressionLine.Variable w x) h (p, q) = h
  line-parts i j e (ExpressionLine.NumberLiteral w v) h (p, q) = leaf i j e _ (λ t. refl) p q
  line-parts i j e (ExpressionLine.BooleanLiteral w b) h (p, q) = leaf i j e _ (λ t. refl) p q
  line-parts i j e (ExpressionLine.StringLiteral w x m) h (p, q) = leaf i j e _ (λ t. refl) p q
  line-parts i j e (ExpressionLine.LogicalExpression w o) h (a, b, k, u, v, p) = two-below i j k e _ a b u v (λ t. refl) p
  line-parts i j e (ExpressionLine.CompareExpression w o) h (a, b, k, u, v, p) = two-below i j k e _ a b u v (λ t. refl) p
  line-parts i j e (ExpressionLine.BinaryMathExpression w o) h (a, b, k, u, v, p) = two-below i j k e _ a b u v (λ t. refl) p
  line-parts i j e (ExpressionLine.UnaryMathExpression w o) h (a, u, p) = one_below i j e _ a u (λ t. refl) p
  line-parts i j e (ExpressionLine.UnaryCryptoExpression w o) h (a, u, p) = one_below i j e _ a u (λ t. refl) p
  line-parts i j e (ExpressionLine.ByteExpression w) h (a, u, p) = one_below i j e _ a u (λ t. refl) p
  line-parts i j e (ExpressionLine.CheckSigExpression w) h (f, u, p) = (f, u, λ t. ap (λ z. usage z t) p)

  pub parts_are : {i j : ℕ} {e : Expression} {x y : ExpressionLine} → SpellsExpression L s i e j → L i ≡ Line.Expression x → x ≡ y → LineParts y i (i + 1) e j
  parts_are {i} {j} {e} {x} {y} sp h r = subst (λ y. LineParts y i (i + 1) e j) r (subst (λ n. LineParts x i n e j) (sym (add-one i)) (line-parts i j e x h (expression-is sp h)))

  -- where neither a name nor a signature check stands, as many expressions as the line has parts
  pub parts-counted : {i j n : ℕ} {e : Expression} (x : ExpressionLine) → OneOf (1 ∷ 2 ∷ 3 ∷ 4 ∷ 5 ∷ 6 ∷ 7 ∷ 8 ∷ 9 ∷ []) (tag_of the_type x) → SpellsExpression L s i e j → L i ≡ Line.Expression x → n ≡ count_of (Line.Expression x) → PartsAre L s i e j (Expressions n (i + 1))
  parts-counted (ExpressionLine.Variable w x) h sp q c = absurd (miss (1 ∷ 2 ∷ 3 ∷ 4 ∷ 5 ∷ 6 ∷ 7 ∷ 8 ∷ 9 ∷ []) 0 tt h)
  parts-counted (ExpressionLine.NumberLiteral w v) h sp q c = rw c (parts_are sp q refl)
  parts-counted (ExpressionLine.BooleanLiteral w b) h sp q c = rw c (parts_are sp q refl)
  parts-counted (ExpressionLine.StringLiteral w x m) h sp q c = rw c (parts_are sp q refl)
  parts-counted (ExpressionLine.LogicalExpression w o) h sp q c = rw c (parts_are sp q refl)
  parts-counted (ExpressionLine.CompareExpression w o) h sp q c = rw c (parts_are sp q refl)
  parts-counted (ExpressionLine.BinaryMathExpression w o) h sp q c = rw c (parts_are sp q refl)
  parts-counted (ExpressionLine.UnaryMathExpression w o) h sp q c = rw c (parts_are sp q refl)
  parts-counted (ExpressionLine.UnaryCryptoExpression w o) h sp q c = rw c (parts_are sp q refl)
  parts-counted (ExpressionLine.ByteExpression w) h sp q c = rw c (parts_are sp q refl)
  parts-counted (ExpressionLine.CheckSigExpression w) h sp q c = absurd (miss (1 ∷ 2 ∷ 3 ∷ 4 ∷ 5 ∷ 6 ∷ 7 ∷ 8 ∷ 9 ∷ []) 10 tt h)

  -- the parts of a signature check are its factor's
  pub signed_parts : (i j : ℕ) (e : Expression) (f : Factor) → ((t : Table) → usage e t ≡ usage_factor f t) → (o : Parts) → FactorParts L s (i + 1) f j o → PartsAre L s i e j o
  signed_parts i j e f h (Named w x) p = absurd p
  signed_parts i j e f h (Expressions n k) p = (omega (arith, p.0), (p.1.0, p.1.1, λ t. h t ∙ p.1.2 t))
  signed_parts i j e f h (Signed n k) p = (omega (arith, p.0), (p.1.0, p.1.1, λ t. h t ∙ p.1.2 t))

  -- the same for a factor, by itself and as one of a multi-signature
  abbrev pub FactorBelow : FactorLine → ℕ → Factor → ℕ → Type 0
  FactorBelow (FactorLine.SingleSigFactor w) n f j = (es : List Expression) × SpellsExpressions L s 2 n es j × ((t : Table) → usage_factor f t ≡ usage_all es t) × ((t : Table) → usage_inner f t ≡ usage_all es t)
  FactorBelow (FactorLine.MultiSigFactor w m k) n f j = (fs : Factors) × SpellsFactors L s k n fs j × ((t : Table) → usage_factor f t ≡ usage_factors fs t) × ((t : Table) → usage_inner f t ≡ Ok t)

  factor-from : (i j : ℕ) (f : Factor) (x : FactorLine) → FactorFrom L s x i f j → FactorBelow x (suc i) f j
  unfolding usage_factor usage_inner usage
  factor-from i j f (FactorLine.SingleSigFactor w) (a, b, k, u, v, p) = (a ∷ b ∷ [], SpellsExpressions.cons u (spells_one L s v), (λ t. ap (λ g. usage_factor g t) p ∙ two-all a b t), λ t. ap (λ g. usage_inner g t) p ∙ two-all a b t)
  factor-from i j f (FactorLine.MultiSigFactor w m n) (fs, u, p) = (fs, u, (λ t. ap (λ g. usage_factor g t) p), λ t. ap (λ g. usage_inner g t) p)

  pub factor-parts : {i j : ℕ} {f : Factor} {x y : FactorLine} → SpellsFactor L s i f j → L i ≡ Line.Factor x → x ≡ y → FactorBelow y (i + 1) f j
  factor-parts {i} {j} {f} {x} {y} sp h r = subst (λ y. FactorBelow y (i + 1) f j) r (subst (λ n. FactorBelow x n f j) (sym (add-one i)) (factor-from i j f x (factor-is sp h)))

-- ---- trees in a series, taken one by one

pub record Series {A B : Type 0} (R : ℕ → ℕ → A → ℕ → Type 0) (Q : ℕ → B → ℕ → Type 0) (all : A → Table → Result Table) (one : B → Table → Result Table) : Type 0 where
  pub first : (n i j : ℕ) (x : A) → R n i x j → 0 < n → (b : B) × (y : A) × (k : ℕ) × Q i b k × R (n - 1) k y j × ((t : Table) → all x t ≡ (one b t >>= λ t'. all y t'))
  pub none : (n i j : ℕ) (x : A) → R n i x j → n ≤ 0 → (i ≡ j) × ((t : Table) → all x t ≡ Ok t)
  pub on : (n i j : ℕ) (x : A) → R n i x j → i ≤ j
  pub moves : (i j : ℕ) (b : B) → Q i b j → i < j

pub factors-series : (L : ℕ → Line) (s : List ℕ) → Series (SpellsFactors L s) (SpellsFactor L s) usage_factors usage_inner
unfolding usage_factors
factors-series L s = record { first = first; none = none; on = λ n i j x sp. factors-on L s sp; moves = λ i j b sp. factor-on L s sp }
  where
    first : (n i j : ℕ) (x : Factors) → SpellsFactors L s n i x j → 0 < n → (b : Factor) × (y : Factors) × (k : ℕ) × SpellsFactor L s i b k × SpellsFactors L s (n - 1) k y j × ((t : Table) → usage_factors x t ≡ (usage_inner b t >>= λ t'. usage_factors y t'))
    first n i j x SpellsFactors.nil h = absurd (omega arith)
    first n i j x (SpellsFactors.cons {j = k} {n = m} {f = f} {fs = gs} u v) h = let e : suc m - 1 ≡ m = omega arith in (f, gs, k, u, rw e v, λ t. refl)

    none : (n i j : ℕ) (x : Factors) → SpellsFactors L s n i x j → n ≤ 0 → (i ≡ j) × ((t : Table) → usage_factors x t ≡ Ok t)
    none n i j x SpellsFactors.nil h = (refl, λ t. refl)
    none n i j x (SpellsFactors.cons u v) h = absurd (omega arith)

pub expressions-series : (L : ℕ → Line) (s : List ℕ) → Series (SpellsExpressions L s) (SpellsExpression L s) usage_all usage
unfolding usage_all
expressions-series L s = record { first = first; none = none; on = λ n i j x sp. omega (arith, expressions-many L s sp); moves = λ i j b sp. expression-on L s sp }
  where
    first : (n i j : ℕ) (x : List Expression) → SpellsExpressions L s n i x j → 0 < n → (b : Expression) × (y : List Expression) × (k : ℕ) × SpellsExpression L s i b k × SpellsExpressions L s (n - 1) k y j × ((t : Table) → usage_all x t ≡ (usage b t >>= λ t'. usage_all y t'))
    first n i j x SpellsExpressions.nil h = absurd (omega arith)
    first n i j x (SpellsExpressions.cons {j = k} {n = m} {e = f} {es = gs} u v) h = let e : suc m - 1 ≡ m = omega arith in (f, gs, k, u, rw e v, λ t. refl)

    none : (n i j : ℕ) (x : List Expression) → SpellsExpressions L s n i x j → n ≤ 0 → (i ≡ j) × ((t : Table) → usage_all x t ≡ Ok t)
    none n i j x SpellsExpressions.nil h = (refl, λ t. refl)
    none n i j x (SpellsExpressions.cons u v) h = absurd (omega arith)

-- the loop over n trees from row i and the path p: `left` are to come, and u is the row that they begin at and the path now
pub record Rest {A : Type 0} (R : ℕ → ℕ → A → ℕ → Type 0) (all : A → Table → Result Table) (s t : List ℕ) (n i : ℕ) (p : Path) (left : ℕ) (u : Used) : Type 0 where
  pub sound : WellFormed s t u.path
  pub items : SameItems p u.path
  pub stands : Stands (R left) s t u.next
  pub on : i ≤ u.next
  pub same : (x : A) (j : ℕ) → R n i x j → (y : A) × R left u.next y j × (all x (table_of s t p) ≡ all y (table_of s t u.path))

pub rest_all : {A : Type 0} {R : ℕ → ℕ → A → ℕ → Type 0} {all : A → Table → Result Table} {s t : List ℕ} {n i : ℕ} {p : Path} → WellFormed s t p → Stands (R n) s t i → Rest R all s t n i p n (record { path = p; next = i })
rest_all {p = p} sound st = record { sound = sound; items = same-items p; stands = st; on = omega arith; same = λ x j sp. (x, sp, refl) }

module _ {A B : Type 0} {R : ℕ → ℕ → A → ℕ → Type 0} {Q : ℕ → B → ℕ → Type 0} {all : A → Table → Result Table} {one : B → Table → Result Table} (S : Series R Q all one) {s t : List ℕ} {n i : ℕ} {p : Path} {left : ℕ} {u : Used} (r : Rest R all s t n i p left u) where
  pub rest-done : left ≤ 0 → Walks (R n) all s t i p (Ok u)
  rest-done h x j sp =
      let g = r.same x j sp in
      let z = S.none left u.next j g.0 g.1 h in
      to-pass refl (g.2 ∙ z.1 (table_of s t u.path)) z.0 r.sound r.items

  module _ (h : 0 < left) where
    -- the tree at hand stands
    pub rest-first : Stands Q s t u.next
    rest-first =
        let st = r.stands in
        let g = S.first left u.next st.next st.tree st.spells h in
        below Q st g.3 (S.on (left - 1) g.2 st.next g.1 g.4)

    module _ {a : Result Used} (walk : Walks Q one s t u.next u.path a) where
      -- its fault is the answer
      pub rest-fault : {b : Result Used} {x : CompileError} → a ≡ Err x → IsErrAnd b (λ y. y ≡ x) → Walks (R n) all s t i p b
      rest-fault {b} {x} e d o j sp =
          let g = r.same o j sp in
          let f = S.first left u.next j g.0 g.1 h in
          let (y, k, l) = err_from_is_err_and b d in
          to-fault (k ∙ ap Err l) (g.2 ∙ f.5 (table_of s t u.path) ∙ rw (to-err (walk f.0 f.2 f.3) e))

      pub rest_more : {v : Used} → a ≡ Ok v → Rest R all s t n i p (left - 1) v
      rest_more {v} e =
          let st = r.stands in
          let g = S.first left u.next st.next st.tree st.spells h in
          let w = walk g.0 g.2 g.3 in
          let o = to-onward w e in
          let next : v.next ≡ g.2 = w.next v e in
          record {
            sound = o.sound;
            items = items-then r.items o.items;
            stands = subst (λ k. Stands (R (left - 1)) s t k) (sym next) (below (R (left - 1)) st g.4 (omega arith));
            on = omega (arith, r.on, S.moves u.next g.2 g.0 g.3);
            same = λ x j sp.
                let b = r.same x j sp in
                let f = S.first left u.next j b.0 b.1 h in
                let y = walk f.0 f.2 f.3 in
                (f.1, subst (λ k. R (left - 1) k f.1 j) (sym (y.next v e)) f.4, b.2 ∙ f.5 (table_of s t u.path) ∙ rw (to-ok y e));
          }

      -- the walk goes on
      pub rest-on : {v : Used} → a ≡ Ok v → u.next < v.next
      rest-on {v} e =
          let st = r.stands in
          let g = S.first left u.next st.next st.tree st.spells h in
          omega (arith, S.moves u.next g.2 g.0 g.3, (walk g.0 g.2 g.3).next v e)

-- ---- the walks over what stands at a row

module _ (s t : List ℕ) (i : ℕ) where
  -- a variable
  module _ (w : Location) (x : Place) (h : line_in t i ≡ Line.Expression (ExpressionLine.Variable w x)) where
    pub named-walk : {q : Path} {r : Result Path} → Walked s t q (take false w (suc i) (part s x) (table_of s t q)) r → Walks (SpellsExpression (line_in t) s) usage s t i q (at_next (i + 1) r)
    unfolding usage
    named-walk {q} {r} walk e j sp =
        let (p, k) = expression-is sp h in
        to-is (to-next r walk (add-one i ∙ sym k)) (ap (λ z. usage z (table_of s t q)) p)

    pub named-inside : Stands (SpellsExpression (line_in t) s) s t i → Inside s x
    unfolding part_of
    named-inside st = row-part st (expression-on (line_in t) s st.spells) (Line.Expression (ExpressionLine.Variable w x)) h x refl

  -- the factors of a multi-signature
  module _ (n k : ℕ) (parts : (e : Expression) (j : ℕ) → SpellsExpression (line_in t) s i e j → PartsAre (line_in t) s i e j (Signed n k)) where
    pub signed-walk : {q : Path} {r : Result Used} → Walks (SpellsFactors (line_in t) s n) usage_factors s t k q r → Walks (SpellsExpression (line_in t) s) usage s t i q r
    signed-walk {q} walk e j sp = let b = parts e j sp in to-is (walk b.1.0 j b.1.1) (b.1.2 (table_of s t q))

    pub signed-stands : Stands (SpellsExpression (line_in t) s) s t i → (i < k) × Stands (SpellsFactors (line_in t) s n) s t k
    signed-stands st = let b = parts st.tree st.next st.spells in (b.0, below (SpellsFactors (line_in t) s n) st b.1.1 (omega arith))

-- the loop over expressions, where the one at hand has others below it: they come before those that are to come
module _ {s t : List ℕ} {n i : ℕ} {p : Path} {left : ℕ} {u : Used} (r : Rest (SpellsExpressions (line_in t) s) usage_all s t n i p left u) where
  -- no more than there are rows
  pub rest-few : left ≤ max_lines
  rest-few = let st = r.stands in omega (arith, expressions-many (line_in t) s st.spells, st.within, st.rows.few)

  pub rest_below : 0 < left → (m k : ℕ) → ((e : Expression) (j : ℕ) → SpellsExpression (line_in t) s u.next e j → PartsAre (line_in t) s u.next e j (Expressions m k)) → Rest (SpellsExpressions (line_in t) s) usage_all s t n i p (left - 1 + m) (record { path = u.path; next = k })
  rest_below h m k parts =
      let S = expressions-series (line_in t) s in
      let st = r.stands in
      let c : m + (left - 1) ≡ left - 1 + m = omega arith in
      let g = S.first left u.next st.next st.tree st.spells h in
      let b = parts g.0 g.2 g.3 in
      record {
        sound = r.sound;
        items = r.items;
        stands = below (SpellsExpressions (line_in t) s (left - 1 + m)) st (subst (λ l. SpellsExpressions (line_in t) s l k (b.1.0 ++ g.1) st.next) c (spells-append (line_in t) s b.1.1 g.4)) (omega arith);
        on = omega (arith, r.on, b.0);
        same = λ x j sp.
            let a = r.same x j sp in
            let f = S.first left u.next j a.0 a.1 h in
            let d = parts f.0 f.2 f.3 in
            (d.1.0 ++ f.1, subst (λ l. SpellsExpressions (line_in t) s l k (d.1.0 ++ f.1) j) c (spells-append (line_in t) s d.1.1 f.4), a.2 ∙ f.5 (table_of s t u.path) ∙ ap (λ w. w >>= λ t'. usage_all f.1 t') (d.1.2 (table_of s t u.path)) ∙ all_append d.1.0 f.1 (table_of s t u.path));
      }

-- The shape of a block that passes flow, and its paths.
use Prim.Native.Nat.{ℕ, ◌+◌}
use mathlib.Core.List.{List, [], ◌∷◌, ◌++◌, map}
use mathlib.Core.Path.{◌≡◌, refl, sym, ◌∙◌, ap, ap₂}
use lib.ListN.{length, length-append, length-map}
use Rattle.std.specs.Prelude.{Ok}
use Rattle.rules.specs.Ast.{Location, Signed, LocktimeOp, Expression, Statement, Block, IfStatement, IfElseStatement, LocktimeStatement, VerifyStatement, ExpressionStatement, []ᵇ, ◌∷ᵇ◌}
use Rattle.rules.specs.Paths.{Path, paths, through, count, count_through}
use Rattle.rules.specs.Flow.{flow, flow_last, followed, goes_on}
use Rattle.rules.proofs.Basics.{both_ok}

-- waits and verifies, and then a return, or an if with else whose two blocks are alike
pub data Flows : Block → Type 0 where
  returns : (l : Location) (e : Expression) → Flows (ExpressionStatement l e ∷ᵇ []ᵇ)
  waits : (l : Location) (n : ℕ) (o : LocktimeOp) (v : Signed) {b : Block} → Flows b → Flows (LocktimeStatement l n o v ∷ᵇ b)
  verifies : (l : Location) (e : Expression) {b : Block} → Flows b → Flows (VerifyStatement l e ∷ᵇ b)
  splits : (l : Location) (e : Expression) {b c : Block} → Flows b → Flows c → Flows (IfElseStatement l e b c ∷ᵇ []ᵇ)

-- what may be last
data Ends : Statement → Type 0 where
  return : (l : Location) (e : Expression) → Ends (ExpressionStatement l e)
  split : (l : Location) (e : Expression) {b c : Block} → Flows b → Flows c → Ends (IfElseStatement l e b c)

ending : {s : Statement} → Ends s → Flows (s ∷ᵇ []ᵇ)
ending (return l e) = returns l e
ending (split l e f g) = splits l e f g

joined : (s : Statement) (b : Block) → (flow_last s ≡ Ok tt → Ends s) → (flow b ≡ Ok tt → Flows b) → followed (goes_on s) b (flow_last s) (flow b) ≡ Ok tt → Flows (s ∷ᵇ b)
unfolding followed goes_on
joined s []ᵇ p q h = ending (p h)
joined (IfStatement l e b₁) (s' ∷ᵇ b) p q h = cc
joined (IfElseStatement l e b₁ b₂) (s' ∷ᵇ b) p q h = cc
joined (LocktimeStatement l n o v) (s' ∷ᵇ b) p q h = waits l n o v (q h)
joined (VerifyStatement l e) (s' ∷ᵇ b) p q h = verifies l e (q h)
joined (ExpressionStatement l e) (s' ∷ᵇ b) p q h = cc

mutual
  unfolding flow

  pub flows : (b : Block) → flow b ≡ Ok tt → Flows b
  flows []ᵇ h = cc
  flows (s ∷ᵇ b) h = joined s b (λ q. ends s q) (λ q. flows b q) h

  ends : (s : Statement) → flow_last s ≡ Ok tt → Ends s
  ends (IfStatement l e b) h = cc
  ends (IfElseStatement l e b c) h = let p = both_ok (flow b) (flow c) h in split l e (flows b p.0) (flows c p.1)
  ends (LocktimeStatement l n o v) h = cc
  ends (VerifyStatement l e) h = cc
  ends (ExpressionStatement l e) h = return l e

-- the other way
pub flows-ok : {b : Block} → Flows b → flow b ≡ Ok tt
unfolding flow followed goes_on
flows-ok (returns l e) = refl
flows-ok (waits l n o v {b = []ᵇ} f) = elim f [ ]
flows-ok (waits l n o v {b = s ∷ᵇ b} f) = flows-ok f
flows-ok (verifies l e {b = []ᵇ} f) = elim f [ ]
flows-ok (verifies l e {b = s ∷ᵇ b} f) = flows-ok f
flows-ok (splits l e f g) = rw (flows-ok f) (flows-ok g)

-- the count is that of the paths
mutual
  unfolding count paths

  pub count-paths : (b : Block) → count b ≡ length (paths b)
  count-paths []ᵇ = refl
  count-paths (s ∷ᵇ b) = count-through s (count b) (paths b) (count-paths b)

  count-through : (s : Statement) (n : ℕ) (ps : List Path) → n ≡ length ps → count_through s n ≡ length (through s ps)
  count-through (IfStatement l e b) n ps h = count-paths b ∙ sym (length-map (paths b) (e ∷◌))
  count-through (IfElseStatement l e b c) n ps h =
      ap₂ ◌+◌ (count-paths b) (count-paths c) ∙ sym (length-append (paths b) (paths c)) ∙ sym (length-map (paths b ++ paths c) (e ∷◌))
  count-through (LocktimeStatement l m o v) n ps h = h
  count-through (VerifyStatement l e) n ps h = h ∙ sym (length-map ps (e ∷◌))
  count-through (ExpressionStatement l e) n ps h = refl

-- a block that passes flow has a first path
pub record First (b : Block) : Type 0 where
  pub path : Path
  pub others : List Path
  pub are : paths b ≡ path ∷ others

pub first : {b : Block} → Flows b → First b
unfolding paths
first (returns l e) = record { path = e ∷ []; others = []; are = refl }
first (waits l n o v f) = let k = first f in record { path = k.path; others = k.others; are = k.are }
first (verifies l e f) = let k = first f in record { path = e ∷ k.path; others = map (e ∷◌) k.others; are = ap (map (e ∷◌)) k.are }
first (splits l e {c = c} f g) = let k = first f in record { path = e ∷ k.path; others = map (e ∷◌) (k.others ++ paths c); are = ap (λ ps. map (e ∷◌) (ps ++ paths c)) k.are }

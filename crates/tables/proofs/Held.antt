-- The walk's equations on what is held.
use Prim.Native.Nat.{ℕ, suc}
use mathlib.Core.List.{List}
use mathlib.Core.Path.{◌≡◌, refl, sym, ap, ◌∙◌}
use lib.ListN.{set}
use Rattle.std.specs.Prelude.{Ok, Err}
use Rattle.ast.specs.declared.Location.{Location}
use Rattle.ast.specs.declared.Target.{Target}
use Rattle.ast.specs.declared.LocktimeOp.{LocktimeOp}
use Rattle.ast.specs.declared.Signed.{Signed}
use Rattle.ast.specs.Tree.{Expression, Statement, IfStatement, IfElseStatement, LocktimeStatement, VerifyStatement, ExpressionStatement, Block, []ᵇ, ◌∷ᵇ◌}
use Rattle.rules.specs.Result.{Result, ◌>>=◌}
use Rattle.rules.specs.Table.{Table}
use Rattle.rules.specs.Limits.{wait}
use Rattle.rules.specs.Transfer.{transfer}
use Rattle.rules.specs.Walk.{Walked, with_table, with_wait, on_path, table_at, examine_at, cross, walk_statement, walk}
use Rattle.rules.proofs.Using.{bind-cong, bind_ok}
use Rattle.tables.specs.Held.{Held, held, on, walk_held, statement_held, examine_held, cross_held}

-- the walk where it stands, no wait being met
abbrev afresh : Walked → Walked
afresh w = on w.tables w.branch

-- what is held after two steps, the second of which does not look at the waits met
held_then : (m : Result Walked) (f : Walked → Result Walked) → ((w : Walked) → held (f w) ≡ held (f (afresh w))) → held (m >>= f) ≡ (held m >>= λ h. held (f (on h.tables h.branch)))
held_then (Ok w) f k = k w
held_then (Err x) f k = refl

held_after : {A : Type 0} (m : Result A) (f : A → Result Walked) → held (m >>= f) ≡ (m >>= λ a. held (f a))
held_after (Ok a) f = refl
held_after (Err x) f = refl

same_after : {A : Type 0} (m : Result A) (f h : A → Result Walked) → ((a : A) → held (f a) ≡ held (h a)) → held (m >>= f) ≡ held (m >>= h)
same_after (Ok a) f h k = k a
same_after (Err x) f h k = refl

same_then : (m n : Result Walked) (f : Walked → Result Walked) → held m ≡ held n → ((w : Walked) → held (f w) ≡ held (f (afresh w))) → held (m >>= f) ≡ held (n >>= f)
same_then m n f e k = held_then m f k ∙ ap (λ y. y >>= λ h. held (f (on h.tables h.branch))) e ∙ sym (held_then n f k)

cross-afresh : (l : Location) (t : Table) (w : Walked) → held (cross l t w) ≡ held (cross l t (afresh w))
unfolding cross
cross-afresh l t w = same_after (table_at l w.tables (suc w.branch)) (over w) (over (afresh w)) (λ next. same_after (transfer l t next) (λ u. Ok (on_path w (suc w.branch) u)) (λ u. Ok (on_path (afresh w) (suc w.branch) u)) (λ u. refl))
  where
    over : Walked → Table → Result Walked
    over v next = transfer l t next >>= λ u. Ok (on_path v (suc v.branch) u)

-- what is held after a walk does not depend on the waits met before it
mutual
  unfolding walk examine_at

  walk-afresh : (b : Block) (g : Target) (w : Walked) → held (walk b g w) ≡ held (walk b g (afresh w))
  walk-afresh []ᵇ g w = refl
  walk-afresh (x ∷ᵇ b) g w = same_then (walk_statement x g w) (walk_statement x g (afresh w)) (λ v. walk b g v) (statement-afresh x g w) (λ v. walk-afresh b g v)

  statement-afresh : (x : Statement) (g : Target) (w : Walked) → held (walk_statement x g w) ≡ held (walk_statement x g (afresh w))
  statement-afresh (IfStatement l e b) g w = same_after (examine_at g l e w) (λ t. walk b g (with_table w t)) (λ t. walk b g (with_table (afresh w) t)) (λ t. walk-afresh b g (with_table w t))
  statement-afresh (IfElseStatement l e b c) g w = same_after (examine_at g l e w) (λ t. walk b g (with_table w t) >>= else t) (λ t. walk b g (with_table (afresh w) t) >>= else t) (λ t. same_then (walk b g (with_table w t)) (walk b g (with_table (afresh w) t)) (else t) (walk-afresh b g (with_table w t)) (λ v. same_then (cross l t v) (cross l t (afresh v)) (λ u. walk c g u) (cross-afresh l t v) (λ u. walk-afresh c g u)))
    where
      else : Table → Walked → Result Walked
      else t v = cross l t v >>= λ u. walk c g u
  statement-afresh (LocktimeStatement l m o v) g w = same_after (wait l o v) (λ k. Ok (with_wait w m k)) (λ k. Ok (with_wait (afresh w) m k)) (λ k. refl)
  statement-afresh (VerifyStatement l e) g w = same_after (examine_at g l e w) (λ t. Ok (with_table w t)) (λ t. Ok (with_table (afresh w) t)) (λ t. refl)
  statement-afresh (ExpressionStatement l e) g w = same_after (examine_at g l e w) (λ t. Ok (with_table w t)) (λ t. Ok (with_table (afresh w) t)) (λ t. refl)

-- the walk of a block
pub held_cons : (x : Statement) (b : Block) (g : Target) (ts : List Table) (n : ℕ) → walk_held (x ∷ᵇ b) g ts n ≡ (statement_held x g ts n >>= λ h. walk_held b g h.tables h.branch)
unfolding walk_held statement_held walk
held_cons x b g ts n = held_then (walk_statement x g (on ts n)) (λ w. walk b g w) (λ w. walk-afresh b g w)

pub held_none : (g : Target) (ts : List Table) (n : ℕ) → walk_held []ᵇ g ts n ≡ Ok (record { tables = ts; branch = n })
unfolding walk_held walk
held_none g ts n = refl

pub held-last : (x : Statement) (g : Target) (ts : List Table) (n : ℕ) → walk_held (x ∷ᵇ []ᵇ) g ts n ≡ statement_held x g ts n
held-last x g ts n = held_cons x []ᵇ g ts n ∙ bind-cong (statement_held x g ts n) _ _ (λ h. held_none g h.tables h.branch) ∙ bind_ok (statement_held x g ts n)

-- of an if, without an else and with one
pub held-if : (l : Location) (e : Expression) (b : Block) (g : Target) (ts : List Table) (n : ℕ) → statement_held (IfStatement l e b) g ts n ≡ (examine_held g l e ts n >>= λ t. walk_held b g (set ts n t) n)
unfolding walk_held statement_held walk_statement
held-if l e b g ts n = held_after (examine_held g l e ts n) (λ t. walk b g (on (set ts n t) n))

pub held-else : (l : Location) (e : Expression) (b c : Block) (g : Target) (ts : List Table) (n : ℕ) → statement_held (IfElseStatement l e b c) g ts n ≡ (examine_held g l e ts n >>= λ t. walk_held b g (set ts n t) n >>= λ h. cross_held l t h >>= λ h'. walk_held c g h'.tables h'.branch)
unfolding walk_held statement_held cross_held walk_statement
held-else l e b c g ts n = held_after (examine_held g l e ts n) (λ t. walk b g (on (set ts n t) n) >>= else t) ∙ bind-cong (examine_held g l e ts n) _ _ (λ t. held_then (walk b g (on (set ts n t) n)) (else t) (λ w. same_then (cross l t w) (cross l t (afresh w)) (λ u. walk c g u) (cross-afresh l t w) (λ u. walk-afresh c g u)) ∙ bind-cong (walk_held b g (set ts n t) n) _ _ (λ h. held_then (cross l t (on h.tables h.branch)) (λ u. walk c g u) (λ u. walk-afresh c g u)))
  where
    else : Table → Walked → Result Walked
    else t v = cross l t v >>= λ u. walk c g u

-- of a wait, a verify and a return
pub held-wait : (l : Location) (m : ℕ) (o : LocktimeOp) (v : Signed) (g : Target) (ts : List Table) (n : ℕ) → statement_held (LocktimeStatement l m o v) g ts n ≡ (wait l o v >>= λ k. Ok (record { tables = ts; branch = n }))
unfolding statement_held walk_statement
held-wait l m o v g ts n = held_after (wait l o v) (λ k. Ok (with_wait (on ts n) m k))

pub held-verify : (l : Location) (e : Expression) (g : Target) (ts : List Table) (n : ℕ) → statement_held (VerifyStatement l e) g ts n ≡ (examine_held g l e ts n >>= λ t. Ok (record { tables = set ts n t; branch = n }))
unfolding statement_held walk_statement
held-verify l e g ts n = held_after (examine_held g l e ts n) (λ t. Ok (on (set ts n t) n))

pub held-return : (l : Location) (e : Expression) (g : Target) (ts : List Table) (n : ℕ) → statement_held (ExpressionStatement l e) g ts n ≡ (examine_held g l e ts n >>= λ t. Ok (record { tables = set ts n t; branch = n }))
unfolding statement_held walk_statement
held-return l e g ts n = held_after (examine_held g l e ts n) (λ t. Ok (on (set ts n t) n))

-- from the if-block to the next path
pub held-cross : (l : Location) (t : Table) (h : Held) → cross_held l t h ≡ (table_at l h.tables (suc h.branch) >>= λ next. transfer l t next >>= λ next'. Ok (record { tables = set h.tables (suc h.branch) next'; branch = suc h.branch }))
unfolding cross_held cross
held-cross l t h = held_after (table_at l h.tables (suc h.branch)) (λ next. transfer l t next >>= λ u. Ok (on_path (on h.tables h.branch) (suc h.branch) u)) ∙ bind-cong (table_at l h.tables (suc h.branch)) _ _ (λ next. held_after (transfer l t next) (λ u. Ok (on_path (on h.tables h.branch) (suc h.branch) u)))

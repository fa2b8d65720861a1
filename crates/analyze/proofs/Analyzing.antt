-- The whole analysis, from what its parts answer.
use Prim.Native.Nat.{ℕ}
use mathlib.Core.List.{List}
use mathlib.Core.Path.{◌≡◌, refl, sym, ap, ◌∙◌, subst}
use Rattle.std.specs.Prelude.{Ok, Err, IsErrAnd}
use Rattle.std.proofs.lemmas.Result.{err_from_is_err_and}
use Rattle.ast.specs.declared.CompileError.{CompileError}
use Rattle.ast.specs.Tree.{Block, Contract}
use Rattle.rules.specs.Result.{Result, Checked, ◌>>=◌, ◌>>◌, both}
use Rattle.rules.specs.Table.{Table, build_all}
use Rattle.rules.specs.Paths.{count}
use Rattle.rules.specs.Flow.{flow}
use Rattle.rules.specs.Unused.{unused_all}
use Rattle.rules.specs.Walk.{Walked, walk}
use Rattle.rules.specs.Analyze.{counted, Analysis, analyze}
use Rattle.paths.specs.declared.Path.{Path}
use Rattle.rows.specs.Rows.{line_in}
use Rattle.reader.specs.Spells.{SpellsBlock, SpellsContract}
use Rattle.statements.specs.declared.Walk.{Walk}
use Rattle.statements.specs.Walks.{leaving, Moved}
use Rattle.blocks.proofs.Blocks.{moved-to, moved-stops}
use Rattle.declarations.specs.declared.Declared.{Declared}
use Rattle.declarations.specs.Items.{DeclaredAs}
use Rattle.tables.specs.Held.{Held, held, on, walk_held, held_tables}
use Rattle.tables.specs.State.{tables_of, tables_in, Ready, Answered}

-- what comes after flow and the count
abbrev rest : Contract → Result (List Table)
rest c = build_all c.declarations >>= λ ts. walk_held c.block c.target ts 0 >>= λ w. unused_all w.tables >> Ok w.tables

-- the same with the waits
abbrev rest_whole : Contract → Result Analysis
rest_whole c = build_all c.declarations >>= λ ts. walk c.block c.target (on ts 0) >>= λ w. unused_all w.tables >> Ok (record { tables = w.tables; waits = w.waits })

rest-held : (c : Contract) → held_tables (rest_whole c) ≡ rest c
unfolding walk_held
rest-held c = built (build_all c.declarations)
  where
    left : (y : Checked) (w : Walked) → held_tables (y >> Ok (record { tables = w.tables; waits = w.waits })) ≡ (y >> Ok w.tables)
    left (Ok _) w = refl
    left (Err x) w = refl

    walked : (m : Result Walked) → held_tables (m >>= λ w. unused_all w.tables >> Ok (record { tables = w.tables; waits = w.waits })) ≡ (held m >>= λ h. unused_all h.tables >> Ok h.tables)
    walked (Ok w) = left (unused_all w.tables) w
    walked (Err x) = refl

    built : (m : Result (List Table)) → held_tables (m >>= λ ts. walk c.block c.target (on ts 0) >>= λ w. unused_all w.tables >> Ok (record { tables = w.tables; waits = w.waits })) ≡ (m >>= λ ts. held (walk c.block c.target (on ts 0)) >>= λ h. unused_all h.tables >> Ok h.tables)
    built (Ok ts) = walked (walk c.block c.target (on ts 0))
    built (Err x) = refl

-- two checks, and what comes after both
in_turn : (a b : Checked) (r : Result Analysis) → (a >> (b >> r)) ≡ (both a b >> r)
in_turn (Ok _) b r = refl
in_turn (Err x) b r = refl

-- the first two checks as one
shape-first : (c : Contract) {y : Checked} → both (flow c.block) (counted (count c.block) c.declarations) ≡ y → held_tables (analyze c) ≡ held_tables (y >> rest_whole c)
unfolding analyze
shape-first c e = ap held_tables (in_turn (flow c.block) (counted (count c.block) c.declarations) (rest_whole c)) ∙ ap (λ y. held_tables (y >> rest_whole c)) e

-- of each contract that n rows spell
abbrev EachContract : List ℕ → List ℕ → ℕ → (Contract → Type 0) → Type 0
EachContract s t n P = (c : Contract) → SpellsContract (line_in t) s c n → P c

-- the analysis of each stops with the fault x
abbrev Stops : List ℕ → List ℕ → ℕ → CompileError → Type 0
Stops s t n x = EachContract s t n (λ c. held_tables (analyze c) ≡ Err x)

-- what an answer says of the rule
module _ {s t : List ℕ} {d : Declared} {w : Result (List Table)} {r : Result (List Path)} (A : Answered s t d w r) where
  pub answered-ok : {paths : List Path} → r ≡ Ok paths → w ≡ Ok (tables_of s t d paths)
  answered-ok e = sym A.result ∙ ap (tables_in s t d) e

  pub answered-err : {x : CompileError} → r ≡ Err x → w ≡ Err x
  answered-err e = sym A.result ∙ ap (tables_in s t d) e

-- what the parts say of the whole, one after another
module _ {s t : List ℕ} {d : Declared} {n : ℕ} where
  pub refused : (r : Result (List Path)) {x : CompileError} → IsErrAnd r (λ y. y ≡ x) → Stops s t n x → EachContract s t n (λ c. Answered s t d (held_tables (analyze c)) r)
  refused r h e c sp = let (y, k, l) = err_from_is_err_and r h in record { result = rw (k, l, e c sp); ready = λ o q. let z : Err y ≡ Ok o = sym k ∙ q in cc }

  module _ (declared : EachContract s t n (λ c. DeclaredAs s t d c n)) {shape : Checked} (shaped : (s : List ℕ) (c : Contract) (n : ℕ) → DeclaredAs s t d c n → shape ≡ both (flow c.block) (counted (count c.block) c.declarations)) where
    pub shape-err : {x : CompileError} → shape ≡ Err x → Stops s t n x
    shape-err e c sp = shape-first c (sym (shaped s c n (declared c sp)) ∙ e)

    module _ (passed : shape ≡ Ok tt) where
      whole : EachContract s t n (λ c. held_tables (analyze c) ≡ rest c)
      whole c sp = shape-first c (sym (shaped s c n (declared c sp)) ∙ passed) ∙ rest-held c

      module _ {tables : Result (List Path)} (built : (c : Contract) (n : ℕ) → DeclaredAs s t d c n → Answered s t d (build_all c.declarations) tables) where
        pub build-err : {x : CompileError} → tables ≡ Err x → Stops s t n x
        build-err e c sp = whole c sp ∙ rw (answered-err (built c n (declared c sp)) e)

        module _ {paths : List Path} (made : tables ≡ Ok paths) where
          from_tables : {y : Result Held} (c : Contract) → SpellsContract (line_in t) s c n → walk_held c.block d.target (tables_of s t d paths) 0 ≡ y → held_tables (analyze c) ≡ (y >>= λ w. unused_all w.tables >> Ok w.tables)
          from_tables c sp e = let D = declared c sp in whole c sp ∙ rw (answered-ok (built c n D) made, ← D.target, e)

          module _ {block : Checked} (v : Walk) (walked : (b : Block) (j : ℕ) → SpellsBlock (line_in t) s d.block b j → Moved s t d (walk_held b d.target (tables_of s t d paths) 0) j (leaving block v)) where
            pub walk-err : {x : CompileError} → block ≡ Err x → Stops s t n x
            walk-err e c sp = from_tables c sp (moved-stops v (walked c.block n (declared c sp).block) e)

            module _ (done : block ≡ Ok tt) {left : Checked} (unused : (s : List ℕ) → Ready s t d v.paths → left ≡ unused_all (tables_of s t d v.paths)) where
              left_is : {y : Checked} → left ≡ y → EachContract s t n (λ c. (held_tables (analyze c) ≡ (y >> Ok (tables_of s t d v.paths))) × Ready s t d v.paths)
              left_is e c sp = let (on, at, ready) = moved-to (walked c.block n (declared c sp).block) done in (from_tables c sp on ∙ rw (sym (unused s ready) ∙ e), ready)

              pub left-err : {x : CompileError} → left ≡ Err x → Stops s t n x
              left-err e c sp = (left_is e c sp).0

              pub left-none : left ≡ Ok tt → EachContract s t n (λ c. Answered s t d (held_tables (analyze c)) (Ok v.paths))
              left-none e c sp = let (so, ready) = left_is e c sp in record { result = sym so; ready = λ o q. let z : v.paths ≡ o = cc in subst (Ready s t d) z ready }

-- A verify, return or condition on one path, from what usage, truth and limits answer.
use Prim.Native.Nat.{ℕ, ◌+◌, ◌<◌}
use native.Mathlib.Omega.{arith}
use mathlib.Core.Bool.{true, false}
use mathlib.Core.List.{List}
use mathlib.Core.Path.{◌≡◌, refl, sym, ap, ◌∙◌, subst}
use lib.ListN.{set}
use Rattle.std.specs.Prelude.{Ok, Err, IsErrAnd}
use Rattle.std.proofs.lemmas.Result.{err_from_is_err_and}
use Rattle.ast.specs.declared.Location.{Location}
use Rattle.ast.specs.declared.Target.{Target}
use Rattle.ast.specs.declared.CompileError.{CompileError}
use Rattle.ast.specs.Tree.{Expression, StackParam}
use Rattle.rows.specs.Rows.{line_in}
use Rattle.reader.specs.Reading.{item}
use Rattle.reader.specs.Spells.{SpellsItems}
use Rattle.reader.proofs.Items.{items-end}
use Rattle.nodes.specs.Stands.{walked}
use Rattle.nodes.proofs.Laws.{walked-pass, walked-fault}
use Rattle.rules.specs.Result.{Result, Checked, both, ◌>>=◌, ◌>>◌}
use Rattle.rules.specs.Table.{Table, params}
use Rattle.rules.specs.Usage.{usage}
use Rattle.rules.specs.Types.{truth}
use Rattle.rules.specs.Limits.{security}
use Rattle.rules.specs.Walk.{examine}
use Rattle.names.specs.Items.{ItemsAt, items_down}
use Rattle.usage.specs.declared.Used.{Used}
use Rattle.usage.specs.Names.{has_names}
use Rattle.usage.specs.Walk.{WalkedTo}
use Rattle.usage.proofs.Names.{nameless}
use Rattle.usage.proofs.Walks.{to-fault, to-pass, to-ok, to-err, to-onward}
use Rattle.paths.specs.declared.Path.{Path}
use Rattle.paths.specs.Path.{table_of}
use Rattle.paths.proofs.Tables.{items-params}
use Rattle.declarations.specs.declared.Declared.{Declared}
use Rattle.declarations.specs.Items.{item_rows}
use Rattle.tables.specs.State.{path_at, tables_of, PathReady, Ready}
use Rattle.tables.proofs.State.{set_there, table-at}
use Rattle.statements.specs.Steps.{judged, examined, stays, On}
use Rattle.statements.proofs.Walking.{examined-here}

-- the declaration of a path, from its rows
pub declares : {s t : List ℕ} {first count : ℕ} (I : ItemsAt s t count first) → SpellsItems (line_in t) StackParam (item s) count first I.tree (first + count)
declares {s} {t} {first} {count} I = subst (λ j. SpellsItems (line_in t) StackParam (item s) count first I.tree j) (items-end I.spells) I.spells

module _ {s t : List ℕ} (g : Target) (e : Expression) {j first count : ℕ} {p : Path} (R : PathReady s t first count p) {u : Result Used} (w : WalkedTo s t p (usage e (table_of s t p)) j u) where
  -- usage refuses
  pub usage-stops : {x : CompileError} {r : Result Used} → u ≡ Err x → IsErrAnd r (λ y. y ≡ x) → WalkedTo s t p (examine g e (table_of s t p)) j r
  unfolding examine
  usage-stops {x} {r} a h = let (y, k, l) = err_from_is_err_and r h in to-fault k (rw (to-err w a, l))

  -- usage passes: truth and then limits decide
  module _ {v : Used} (a : u ≡ Ok v) where
    rule : examine g e (table_of s t p) ≡ (judged g e (items_down s t first count) >> Ok (table_of s t v.path))
    unfolding examine
    rule = rw (to-ok w a, items-params s t (to-onward w a).items ∙ R.same) (go (truth e g (items_down s t first count)) (security e))
      where
        go : (x y : Checked) → (x >> (y >> Ok (table_of s t v.path))) ≡ (both x y >> Ok (table_of s t v.path))
        go (Ok _) y = refl
        go (Err x) y = refl

    pub judged-stops : {x : CompileError} {r : Result Used} {q : Result ℕ} → q ≡ walked (judged g e (items_down s t first count)) j → q ≡ Err x → IsErrAnd r (λ y. y ≡ x) → WalkedTo s t p (examine g e (table_of s t p)) j r
    judged-stops {x} {r} h b f = let (y, k, l) = err_from_is_err_and r f in to-fault k (rule ∙ rw (walked-fault _ j (sym h ∙ b), l))

    pub judged-passes : {n : ℕ} {q : Result ℕ} → q ≡ walked (judged g e (items_down s t first count)) j → q ≡ Ok n → WalkedTo s t p (examine g e (table_of s t p)) j (Ok v)
    judged-passes h b = to-pass refl (rule ∙ rw (walked-pass _ j (sym h ∙ b)).0) (w.next v a) (to-onward w a).sound (to-onward w a).items

-- an expression without names, from what truth and limits decide of it
module _ (s t : List ℕ) (d : Declared) (n : ℕ) (l : Location) (e : Expression) (no : has_names e ≡ false) (within : n < d.count) where
  abbrev decided : Checked
  decided = judged d.target e (items_down s t (item_rows d n).first (item_rows d n).count)

  pub nameless-is : On s t d n (λ ts. examined d.target l e ts n) (λ ts. decided >> stays n ts)
  unfolding examine
  nameless-is paths r =
      examined-here s t d paths r.0 d.target l e within ∙
      rw (nameless e no (table_of s t (path_at paths n)), (r.1 within).same) (go (truth e d.target (items_down s t (item_rows d n).first (item_rows d n).count)) (security e))
    where
      go : (x y : Checked) → ((x >> (y >> Ok (table_of s t (path_at paths n)))) >>= λ u. Ok (record { tables = set (tables_of s t d paths) n u; branch = n })) ≡ (both x y >> stays n (tables_of s t d paths))
      go (Ok _) (Ok _) = rw (set_there (tables_of s t d paths) n (table_of s t (path_at paths n)) (table-at s t d paths r.0 n within))
      go (Ok _) (Err y) = refl
      go (Err x) y = refl

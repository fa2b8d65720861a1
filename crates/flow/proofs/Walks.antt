-- Two checks in turn, from the answers of their walks.
use Prim.Native.Nat.{ℕ}
use mathlib.Core.Path.{◌≡◌, sym, ◌∙◌}
use Rattle.std.specs.Prelude.{Ok, Err}
use Rattle.ast.specs.declared.CompileError.{CompileError}
use Rattle.rules.specs.Result.{Result, Checked, both}
use Rattle.nodes.specs.Stands.{walked}
use Rattle.nodes.proofs.Laws.{walked-pass, walked-fault}

module _ (c : Checked) (k : ℕ) {x : Result ℕ} (h : x ≡ walked c k) where
  pub both-fault : (d : Checked) (j : ℕ) {y : CompileError} → x ≡ Err y → x ≡ walked (both c d) j
  both-fault d j {y} q = let e : c ≡ Err y = walked-fault c k (sym h ∙ q) in rw e q

  pub both-pass : (d : Checked) (j : ℕ) {n : ℕ} {r : Result ℕ} → x ≡ Ok n → r ≡ walked d j → r ≡ walked (both c d) j
  both-pass d j q w = rw (walked-pass c k (sym h ∙ q)).0 w

  -- the row to which the first came
  pub came-to : {n : ℕ} → x ≡ Ok n → n ≡ k
  came-to q = sym (walked-pass c k (sym h ∙ q)).1

-- What a walk that takes names answers.
use Prim.Native.Nat.{ℕ}
use mathlib.Core.List.{List}
use mathlib.Core.Path.{◌≡◌, ap}
use Rattle.std.specs.Prelude.{Ok, Err}
use Rattle.ast.specs.declared.CompileError.{CompileError}
use Rattle.rules.specs.Result.{Result}
use Rattle.rules.specs.Table.{Table}
use Rattle.paths.specs.declared.Path.{Path}
use Rattle.paths.specs.Path.{table_of, WellFormed, SameItems, Onward, Walked}
use Rattle.paths.proofs.Walks.{walk-fault, walk-pass, walked-ok, walked-err, walk_is}
use Rattle.usage.specs.declared.Used.{Used}
use Rattle.usage.specs.Walk.{path_of, WalkedTo}

-- a path with the row after it
abbrev pub at_next : ℕ → Result Path → Result Used
at_next n (Ok q) = Ok (record { path = q; next = n })
at_next n (Err x) = Err x

module _ {s t : List ℕ} {p : Path} {w : Result Table} {j : ℕ} where
  pub to-fault : {r : Result Used} {x : CompileError} → r ≡ Err x → w ≡ Err x → WalkedTo s t p w j r
  to-fault e f = record { walked = walk-fault (ap path_of e) f; next = λ u o. cc }

  pub to-pass : {r : Result Used} {u : Used} → r ≡ Ok u → w ≡ Ok (table_of s t u.path) → u.next ≡ j → WellFormed s t u.path → SameItems p u.path → WalkedTo s t p w j r
  to-pass e f g sound items = record { walked = walk-pass (ap path_of e) f sound items; next = λ v o. cc }

  pub to-next : (r : Result Path) {n : ℕ} → Walked s t p w r → n ≡ j → WalkedTo s t p w j (at_next n r)
  to-next (Ok q) h e = record { walked = h; next = λ u o. cc }
  to-next (Err x) h e = record { walked = h; next = λ u o. cc }

  module _ {r : Result Used} (h : WalkedTo s t p w j r) where
    -- what the answer says of the rule
    pub to-ok : {u : Used} → r ≡ Ok u → w ≡ Ok (table_of s t u.path)
    to-ok e = walked-ok h.walked (ap path_of e)

    pub to-err : {x : CompileError} → r ≡ Err x → w ≡ Err x
    to-err e = walked-err h.walked (ap path_of e)

    -- the path goes on
    pub to-onward : {u : Used} → r ≡ Ok u → Onward s t p u.path
    to-onward {u} e = h.walked.onward u.path (ap path_of e)

    -- the same answer to an equal rule
    pub to-is : {v : Result Table} → v ≡ w → WalkedTo s t p v j r
    to-is e = record { walked = walk_is h.walked e; next = h.next }

-- Rehearsals on document 01's worked contract and on small listings, computed.
use Prim.Native.Nat.{ℕ}
use Prim.Native.String.{String}
use mathlib.Core.List.{List, [], ◌∷◌}
use mathlib.Core.Path.{◌≡◌, refl}
use Rattle.ast.specs.declared.Type.{«Type» as ItemType}
use Rattle.ast.specs.declared.Type.TheVariants.{Number, String as Text, Boolean}
use Rattle.ast.specs.declared.ErrorKind.TheVariants.{WorkTooShort, UnexpectedLine}
use Rattle.ast.specs.Tree.{unplaced, fault}
use Rattle.reader.specs.Source.{at_line}
use Rattle.reader.proofs.Computed.{bytes}
use Rattle.turns.specs.declared.Rehearsed.{Rehearsed}
use Rattle.turns.specs.declared.Rehearsed.TheVariants.{Due, Ended, Refused}
use Rattle.turns.specs.State.{no_such_path, not_due, onward}
use Rattle.rehearsal.specs.Plain.{lay, take_back}
use Rattle.rehearsal.specs.Calls.{Call}
use Rattle.rehearsal.proofs.Computed.{computed}

unfoldable worked : List ℕ
unfolding bytes
worked = bytes "T,0,2\nD,2\nP,0,1,1,0,2,p\nP,3,4,1,3,3,c\nD,2\nP,6,7,2,0,1,n\nP,9,10,2,3,3,c\nB,1\nI,20,60,3,0,1\nv,23,24,3,3,c\nB,1\nE,30,44,4,0\nc,37,44,4,7,0\nh,37,40,4,7,0\nv,38,39,4,8,p\ns,42,44,4,12,6161,0\nB,1\nE,50,58,6,0\nc,53,58,6,3,0\nv,53,54,6,3,n\nn,57,58,6,7,7\n"

-- a name of one byte and the number of a type; work enough
unfoldable lays : String → ℕ → Call
unfolding bytes
lays x t = record { words = 16384; ask = lay (record { name = bytes x; ty = t }) }

abbrev back : ℕ → Call
back words = record { words = words; ask = take_back }

-- an item due: its name's one byte, its type, the path and the position due
abbrev shows : ℕ → ItemType → ℕ → ℕ → Rehearsed
shows at t path k = Due (record { at = at; len = 1 }) t (onward path k)

-- path 0 of the worked contract: c, a Boolean, at byte 36, then p, a String, at byte 22
path-0 : computed worked 0 (
    lays "p" 2 ∷ lays "c" 2 ∷ lays "c" 3 ∷ back 16384 ∷ back 20000 ∷ lays "c" 3 ∷ back 16383 ∷ lays "p" 4 ∷ lays "p" 2 ∷ lays "p" 2 ∷ back 16384 ∷ lays "p" 2 ∷ []
    ) ≡
    shows 36 Boolean 0 0 ∷
    -- another name, another type
    Refused not_due ∷ Refused not_due ∷
    shows 22 Text 0 1 ∷
    -- back, and once more at the beginning
    shows 36 Boolean 0 0 ∷ shows 36 Boolean 0 0 ∷
    shows 22 Text 0 1 ∷
    -- too little work, no type
    Refused (fault WorkTooShort unplaced) ∷ Refused not_due ∷
    Ended (onward 0 2) ∷
    -- none is due
    Refused not_due ∷
    shows 22 Text 0 1 ∷
    Ended (onward 0 2) ∷
    []
unfolding computed worked lays bytes
path-0 = refl

-- path 1: c at byte 69, then n, a Number, at byte 54
path-1 : computed worked 1 (lays "c" 3 ∷ lays "n" 1 ∷ []) ≡ shows 69 Boolean 1 0 ∷ shows 54 Number 1 1 ∷ Ended (onward 1 2) ∷ []
unfolding computed worked lays bytes
path-1 = refl

-- no path 2; no items; a listing that Check refuses
edges : computed worked 2 [] ≡ Refused no_such_path ∷ []
unfolding computed worked bytes
edges = refl

no_items : computed (bytes "T,0,1\nD,0\nB,1\nE,0,0,0,0\nb,1,1,1,1,1\n") 0 (lays "a" 0 ∷ back 16384 ∷ []) ≡ Ended (onward 0 0) ∷ Refused not_due ∷ Ended (onward 0 0) ∷ []
unfolding computed lays bytes
no_items = refl

refused-listing : computed [] 0 [] ≡ Refused (fault UnexpectedLine (at_line 1)) ∷ []
unfolding computed
refused-listing = refl

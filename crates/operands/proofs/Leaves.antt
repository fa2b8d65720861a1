-- Names, literals and types: what an operand's own row says of it.
use Prim.Native.Nat.{ℕ, suc, ◌<◌}
use mathlib.Core.Bool.{Bool, true, false}
use mathlib.Core.List.{List}
use mathlib.Core.Option.{Option, some, none}
use mathlib.Core.Path.{◌≡◌, refl, sym, ap, ◌∙◌}
use Rattle.std.specs.Prelude.{Ok, Option as StdOption, Some, None}
use Rattle.ast.specs.declared.Location.{Location}
use Rattle.ast.specs.declared.Target.{Target}
use Rattle.ast.specs.declared.ErrorKind.TheVariants.{TypeMismatch}
use Rattle.ast.specs.declared.Type.{«Type» as ItemType}
use Rattle.ast.specs.declared.Type.TheVariants.{Number, String, Boolean}
use Rattle.ast.specs.declared.UnaryMathOp.{UnaryMathOp}
use Rattle.ast.specs.declared.UnaryMathOp.TheVariants.{Add, Sub, Negate, Abs, Not}
use Rattle.ast.specs.Tree.{Name, StackParam, Declaration, from_top, loc, Expression, Variable, StringLiteral}
use Rattle.text.specs.declared.Place.{Place}
use Rattle.text.specs.Text.{part, bytes_of}
use Rattle.names.specs.Items.{ItemsAt, Inside, found_in}
use Rattle.names.proofs.Laws.{type-found}
use Rattle.rules.specs.Result.{refused}
use Rattle.rules.specs.Types.{type_of, is_not, name_of, literal_of, ascii, signature, key}
use Rattle.operands.specs.declared.Context.{Context}
use Rattle.operands.specs.Typed.{Declares, LeafIs, sort_of, type_found}
use Rattle.operands.specs.declared.Leaf.{Leaf}
use Rattle.operands.specs.declared.Leaf.TheVariants.{Named, Bytes, Other}
use Rattle.operands.proofs.Laws.{declared}
use Rattle.listing.specs.declared.ExpressionLine.{ExpressionLine}
use Rattle.listing.specs.declared.Line.{Line}
use Rattle.reader.specs.Spells.{SpellsExpression}
use Rattle.reader.proofs.Inversion.{ExpressionFrom}
use Rattle.nodes.proofs.Laws.{expression-is}

-- what an operand's own row says of it
module _ (s : List ℕ) (i : ℕ) (f : Leaf) (e : Expression) (j : ℕ) (h : LeafIs s i f e j) where
  pub leaf-named : {l : Location} {x : Place} → f ≡ Named l x → (e ≡ Variable l (suc i) (part s x)) × (j ≡ suc i) × Inside s x
  unfolding LeafIs
  leaf-named w = rw w at h

  pub leaf-bytes : {l : Location} {x : Place} {m : Bool} → f ≡ Bytes l x m → (e ≡ StringLiteral l (bytes_of s x) m) × (j ≡ suc i) × Inside s x
  unfolding LeafIs
  leaf-bytes w = rw w at h

  pub leaf-other : {l : Location} → f ≡ Other l → (name_of e ≡ none) × (literal_of e ≡ none) × (loc e ≡ l)
  unfolding LeafIs
  leaf-other w = rw w at h

-- an operand that is no name, or no literal
pub no_name : (ps : List StackParam) (e : Expression) {l : Location} → name_of e ≡ none → loc e ≡ l → signature ps e ≡ refused TypeMismatch l
unfolding signature
no_name ps e h k = rw (h, signature) (rw k)

pub no-literal : (g : Target) (e : Expression) {l : Location} → literal_of e ≡ none → loc e ≡ l → key g e ≡ refused TypeMismatch l
unfolding key
no-literal g e h k = rw (h, key) (rw k)

pub no-ascii : (e : Expression) → literal_of e ≡ none → ascii e ≡ Ok tt
unfolding ascii
no-ascii e h = rw (h, ascii)

-- a type that is found
pub found_some : (o : Option ItemType) {ty : ItemType} → type_found o ≡ Some ty → o ≡ some ty
found_some none h = cc
found_some (some a) {ty} h = let z : a ≡ ty = cc in ap some z

pub found_none : (o : Option ItemType) → type_found o ≡ None → o ≡ none
found_none none h = refl
found_none (some a) h = cc

-- whether a unary is `not`
pub unary_not : {o : UnaryMathOp} → o ≡ Not → is_not o ≡ true
unfolding is_not
unary_not h = ap is_not h

pub unary-other : (o : UnaryMathOp) → (o ≡ Not → ⊥) → is_not o ≡ false
unfolding is_not
unary-other Add h = refl
unary-other Sub h = refl
unary-other Negate h = refl
unary-other Abs h = refl
unary-other Not h = absurd (h refl)

-- the one type of an operand, by its own line
abbrev pub sort_line : List StackParam → List ℕ → ExpressionLine → StdOption ItemType
sort_line ps s (ExpressionLine.Variable l x) = type_found (type_of ps (part s x))
sort_line ps s (ExpressionLine.NumberLiteral l v) = Some Number
sort_line ps s (ExpressionLine.BooleanLiteral l b) = Some Boolean
sort_line ps s (ExpressionLine.StringLiteral l x m) = Some String
sort_line ps s (ExpressionLine.LogicalExpression l o) = Some Boolean
sort_line ps s (ExpressionLine.CompareExpression l o) = Some Boolean
sort_line ps s (ExpressionLine.BinaryMathExpression l o) = Some Number
sort_line ps s (ExpressionLine.UnaryMathExpression l o) = elim (is_not o) [ true ↦ Some Boolean | false ↦ Some Number ]
sort_line ps s (ExpressionLine.UnaryCryptoExpression l o) = Some String
sort_line ps s (ExpressionLine.ByteExpression l) = Some Number
sort_line ps s (ExpressionLine.CheckSigExpression l) = Some Boolean

module _ (L : ℕ → Line) (s : List ℕ) where
  sort-from : (i j : ℕ) (e : Expression) (ps : List StackParam) (x : ExpressionLine) → ExpressionFrom L s x i e j → sort_of ps e ≡ sort_line ps s x
  unfolding sort_of
  sort-from i j e ps (ExpressionLine.Variable w x) (p, q) = ap (sort_of ps) p
  sort-from i j e ps (ExpressionLine.NumberLiteral w v) (p, q) = ap (sort_of ps) p
  sort-from i j e ps (ExpressionLine.BooleanLiteral w b) (p, q) = ap (sort_of ps) p
  sort-from i j e ps (ExpressionLine.StringLiteral w x m) (p, q) = ap (sort_of ps) p
  sort-from i j e ps (ExpressionLine.LogicalExpression w o) (a, b, k, u, v, p) = ap (sort_of ps) p
  sort-from i j e ps (ExpressionLine.CompareExpression w o) (a, b, k, u, v, p) = ap (sort_of ps) p
  sort-from i j e ps (ExpressionLine.BinaryMathExpression w o) (a, b, k, u, v, p) = ap (sort_of ps) p
  sort-from i j e ps (ExpressionLine.UnaryMathExpression w o) (a, u, p) = ap (sort_of ps) p
  sort-from i j e ps (ExpressionLine.UnaryCryptoExpression w o) (a, u, p) = ap (sort_of ps) p
  sort-from i j e ps (ExpressionLine.ByteExpression w) (a, u, p) = ap (sort_of ps) p
  sort-from i j e ps (ExpressionLine.CheckSigExpression w) (f, u, p) = ap (sort_of ps) p

  pub sorted-as : {i j : ℕ} {e : Expression} (ps : List StackParam) {x : ExpressionLine} {o : StdOption ItemType} → SpellsExpression L s i e j → L i ≡ Line.Expression x → o ≡ sort_line ps s x → o ≡ sort_of ps e
  sorted-as ps {x} sp h k = k ∙ sym (sort-from _ _ _ ps x (expression-is sp h))

  -- an operand that is neither a name nor a literal
  no-leaf : (i j : ℕ) (e : Expression) (x : ExpressionLine) → ExpressionFrom L s x i e j → ((l : Location) (y : Place) → x ≡ ExpressionLine.Variable l y → ⊥) → ((l : Location) (y : Place) (m : Bool) → x ≡ ExpressionLine.StringLiteral l y m → ⊥) → (name_of e ≡ none) × (literal_of e ≡ none)
  unfolding name_of literal_of
  no-leaf i j e (ExpressionLine.Variable w x) (p, q) h k = absurd (h w x refl)
  no-leaf i j e (ExpressionLine.NumberLiteral w v) (p, q) h k = (ap name_of p, ap literal_of p)
  no-leaf i j e (ExpressionLine.BooleanLiteral w b) (p, q) h k = (ap name_of p, ap literal_of p)
  no-leaf i j e (ExpressionLine.StringLiteral w x m) (p, q) h k = absurd (k w x m refl)
  no-leaf i j e (ExpressionLine.LogicalExpression w o) (a, b, _, u, v, p) h k = (ap name_of p, ap literal_of p)
  no-leaf i j e (ExpressionLine.CompareExpression w o) (a, b, _, u, v, p) h k = (ap name_of p, ap literal_of p)
  no-leaf i j e (ExpressionLine.BinaryMathExpression w o) (a, b, _, u, v, p) h k = (ap name_of p, ap literal_of p)
  no-leaf i j e (ExpressionLine.UnaryMathExpression w o) (a, u, p) h k = (ap name_of p, ap literal_of p)
  no-leaf i j e (ExpressionLine.UnaryCryptoExpression w o) (a, u, p) h k = (ap name_of p, ap literal_of p)
  no-leaf i j e (ExpressionLine.ByteExpression w) (a, u, p) h k = (ap name_of p, ap literal_of p)
  no-leaf i j e (ExpressionLine.CheckSigExpression w) (f, u, p) h k = (ap name_of p, ap literal_of p)

  pub leaf-none : {i j : ℕ} {e : Expression} {x : ExpressionLine} → SpellsExpression L s i e j → L i ≡ Line.Expression x → ((l : Location) (y : Place) → x ≡ ExpressionLine.Variable l y → ⊥) → ((l : Location) (y : Place) (m : Bool) → x ≡ ExpressionLine.StringLiteral l y m → ⊥) → (name_of e ≡ none) × (literal_of e ≡ none)
  leaf-none {x} sp q h k = no-leaf _ _ _ x (expression-is sp q) h k

-- a position found is that of an item
pub found-low : (s t : List ℕ) (p : Context) (x : Name) (r : StdOption ℕ) {k : ℕ} → ItemsAt s t p.items.count p.items.first → ((d : Declaration) → Declares s t p d → r ≡ found_in (from_top d) x) → r ≡ Some k → k < p.items.count
found-low s t p x r u h w = let d = declared s t p u in (type-found s t d.1 x (sym (h d.0 d.1) ∙ w)).0

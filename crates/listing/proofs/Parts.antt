-- The part of the listing that a line names ends within the listing.
use Prim.Native.Nat.{ℕ, suc, ◌+◌, ◌%◌, ◌≤◌}
use native.Mathlib.Omega.{arith}
use mathlib.Core.Bool.{Bool, true, false}
use mathlib.Core.List.{List, [], ◌∷◌}
use mathlib.Core.Option.{Option, some, none}
use mathlib.Core.Path.{◌≡◌, refl, sym, ◌∙◌, ap, subst}
use lib.Dec.{ltb, eqb}
use lib.ListN.{length, drop}
use Rattle.text.specs.declared.Place.{Place}
use Rattle.text.specs.Text.{Got, got, failed, Reader, ◌>>=◌, ◌>>◌, ◌<∘>◌, yield, fail, guard, newline, comma, byte, word, choice, bit, location, is_name_byte, is_hex_digit, span, name, literal}
use Rattle.text.proofs.Places.{Keeps, drop-tail, map-keeps, byte-keeps, word_keeps, choice-keeps, bit-keeps, signed-keeps, location-keeps, span-keeps, name-keeps, literal-keeps, span-ends}
use Rattle.listing.specs.Ast.{Location, targets, types}
use Rattle.listing.specs.declared.Line.{Line}
use Rattle.listing.specs.declared.ExpressionLine.{ExpressionLine}
use Rattle.listing.specs.declared.Lexed.TheVariants.{Good}
use Rattle.listing.specs.Forms.{with, with₂, contract, forms, fields_of, closed, line, found, next_of, next_line, line_at}
use Rattle.listing.specs.Kinds.{part_of}
use Rattle.listing.proofs.Places.{with-keeps, with₂-keeps, fields-each, fields_keep, found-line, found_at, malformed≢found, ended≢found, next-keeps, line-good}

-- what holds of the value that a reader gives from position n on, and of the position after it
abbrev Gives : {A : Type 0} → (ℕ → A → Type 0) → Reader A → ℕ → Type 0
Gives {A} P r n = (s u : List ℕ) → drop n s ≡ u → (a : A) (m : ℕ) (t : List ℕ) → r n u ≡ got a m t → P m a

failed≢got : {A : Type 0} {a : A} {m : ℕ} {t : List ℕ} → ◌≡◌ {A = Got A} failed (got a m t) → ⊥
failed≢got h = let z : ◌≡◌ {A = ℕ} 0 1 = cc in omega arith

keeps_on : {A : Type 0} (r : Reader A) → Keeps r → (n : ℕ) → Gives (λ m a. n ≤ m) r n
keeps_on r keeps n s u e a m t q = (keeps s n u e a m t q).forth

yield-gives : {A : Type 0} (P : ℕ → A → Type 0) (n : ℕ) (a : A) → P n a → Gives P (yield a) n
unfolding yield
yield-gives P n a h s u e b m t q = let x : a ≡ b = cc in let y : n ≡ m = cc in subst (λ k. P k b) y (subst (P n) x h)

guard-gives : {A : Type 0} (P : ℕ → A → Type 0) (n : ℕ) (c : Bool) (a : A) → P n a → Gives P (guard c a) n
unfolding guard yield
guard-gives P n true a h = yield-gives P n a h
guard-gives P n false a h = λ s u e b m t q. absurd (failed≢got q)

bind-gives : {A B : Type 0} (Q : ℕ → A → Type 0) (P : ℕ → B → Type 0) (r : Reader A) (f : A → Reader B) (n : ℕ) → Keeps r → Gives Q r n → ((a : A) (k : ℕ) → Q k a → Gives P (f a) k) → Gives P (r >>= f) n
unfolding ◌>>=◌
bind-gives {A} {B} Q P r f n keeps g h s u e b m t q = go (r n u) refl
  where
    go : (y : Got A) → r n u ≡ y → P m b
    go (got a k v) p = h a k (g s u e a k v p) s v (keeps s n u e a k v p).rest b m t (rw (p, ◌>>=◌) at q)
    go failed p = absurd (failed≢got (rw (p, ◌>>=◌) at q))

-- a name, a literal: the part ends where the reader comes to
abbrev Ends : ℕ → Place → Type 0
Ends m x = x.at + x.len ≤ m

span-gives : (p : ℕ → Bool) (n : ℕ) → Gives Ends (span p) n
span-gives p n s u e x m t q = omega (arith, (span-ends p n u x m t q).1)

part_gives : (p : ℕ → Bool) (test : Place → Bool) (n : ℕ) → Gives Ends (byte comma >> (span p >>= λ x. guard (test x) x)) n
unfolding ◌>>◌
part_gives p test n = bind-gives (λ m a. n ≤ m) Ends (byte comma) (λ _. span p >>= λ x. guard (test x) x) n (byte-keeps comma) (keeps_on (byte comma) (byte-keeps comma) n) (λ a k h. bind-gives Ends Ends (span p) (λ x. guard (test x) x) k (span-keeps p) (span-gives p k) (λ x j i. guard-gives Ends j (test x) x i))

name-gives : (n : ℕ) → Gives Ends name n
unfolding name
name-gives n = part_gives is_name_byte (λ x. ltb 0 x.len) n

literal-gives : (n : ℕ) → Gives Ends literal n
unfolding literal
literal-gives n = part_gives is_hex_digit (λ x. eqb (x.len % 2) 0) n

-- and lies in the listing
part-inside : (r : Reader Place) → Keeps r → ((n : ℕ) → Gives Ends r n) → ((n : ℕ) → r n [] ≡ failed) → (s : List ℕ) (n : ℕ) {x : Place} {m : ℕ} → r n (drop n s) ≡ got x m (drop m s) → x.at + x.len ≤ length s
part-inside r keeps gives empty s n {x} {m} h = go (drop n s) refl
  where
    go : (u : List ℕ) → drop n s ≡ u → x.at + x.len ≤ length s
    go [] e = absurd (failed≢got (sym (empty n) ∙ ap (r n) (sym e) ∙ h))
    go (b ∷ u) e =
        let here : n ≤ length s = omega (arith, (drop-tail s n b u e).1) in
        omega (arith, (keeps s n (drop n s) refl x m (drop m s) h).inside here, gives n s (drop n s) refl x m (drop m s) h)

pub name-inside : (s : List ℕ) (n : ℕ) {x : Place} {m : ℕ} → name n (drop n s) ≡ got x m (drop m s) → x.at + x.len ≤ length s
unfolding name byte ◌>>◌ ◌>>=◌
name-inside s n h = part-inside name name-keeps name-gives (λ n. refl) s n h

pub literal-inside : (s : List ℕ) (n : ℕ) {x : Place} {m : ℕ} → literal n (drop n s) ≡ got x m (drop m s) → x.at + x.len ≤ length s
unfolding literal byte ◌>>◌ ◌>>=◌
literal-inside s n h = part-inside literal literal-keeps literal-gives (λ n. refl) s n h

-- a line whose part, if it names one, ends before m
abbrev Named : ℕ → Line → Type 0
Named m l = (x : Place) → part_of l ≡ some x → x.at + x.len ≤ m

unnamed : (l : Line) (m : ℕ) → part_of l ≡ none → Named m l
unnamed l m h x e = let q : ◌≡◌ {A = Option Place} none (some x) = sym h ∙ e in let z : ◌≡◌ {A = ℕ} 0 1 = cc in absurd (omega arith)

named : (l : Line) (x : Place) (m : ℕ) → part_of l ≡ some x → Ends m x → Named m l
named l x m h i y e = let q : ◌≡◌ {A = Option Place} (some x) (some y) = sym h ∙ e in let z : x ≡ y = cc in subst (Ends m) z i

-- lines that name no part
map-unnamed : {A : Type 0} (f : A → Line) (r : Reader A) → Keeps r → ((a : A) → part_of (f a) ≡ none) → (n : ℕ) → Gives Named (f <∘> r) n
unfolding ◌<∘>◌
map-unnamed f r keeps h n = bind-gives (λ m a. n ≤ m) Named r (λ a. yield (f a)) n keeps (keeps_on r keeps n) (λ a k i. yield-gives Named k (f a) (unnamed (f a) k (h a)))

-- an expression's line, from what is known of its form
expression-gives : (P : ℕ → ExpressionLine → Type 0) (r : Reader ExpressionLine) (n : ℕ) → Keeps r → Gives P r n → ((m : ℕ) (l : ExpressionLine) → P m l → Named m (Line.Expression l)) → Gives Named (Line.Expression <∘> r) n
unfolding ◌<∘>◌
expression-gives P r n keeps g h = bind-gives P Named r (λ a. yield (Line.Expression a)) n keeps g (λ a k i. yield-gives Named k (Line.Expression a) (h k a i))

abbrev Plain : ℕ → ExpressionLine → Type 0
Plain m l = part_of (Line.Expression l) ≡ none

with-plain : {A : Type 0} (r : Reader A) (f : Location → A → ExpressionLine) → Keeps r → ((w : Location) (a : A) → part_of (Line.Expression (f w a)) ≡ none) → (n : ℕ) → Gives Named (Line.Expression <∘> with r f) n
unfolding with
with-plain r f keeps h n =
    expression-gives Plain (with r f) n (with-keeps r f keeps) (bind-gives (λ m a. n ≤ m) Plain location (λ w. r >>= λ a. yield (f w a)) n location-keeps (keeps_on location location-keeps n) (λ w k i. bind-gives (λ m a. k ≤ m) Plain r (λ a. yield (f w a)) k keeps (keeps_on r keeps k) (λ a j g. yield-gives Plain j (f w a) (h w a)))) (λ m l i. unnamed (Line.Expression l) m i)

bare-plain : (f : Location → ExpressionLine) → ((w : Location) → part_of (Line.Expression (f w)) ≡ none) → (n : ℕ) → Gives Named (Line.Expression <∘> f <∘> location) n
unfolding ◌<∘>◌
bare-plain f h n =
    expression-gives Plain (f <∘> location) n (map-keeps f location location-keeps) (bind-gives (λ m a. n ≤ m) Plain location (λ w. yield (f w)) n location-keeps (keeps_on location location-keeps n) (λ w k i. yield-gives Plain k (f w) (h w))) (λ m l i. unnamed (Line.Expression l) m i)

contract-gives : (n : ℕ) → Gives Named contract n
unfolding contract part_of
contract-gives n = bind-gives (λ m a. n ≤ m) Named (choice targets) (λ g. word >>= λ k. yield (Line.Contract g k)) n (choice-keeps targets) (keeps_on (choice targets) (choice-keeps targets) n) (λ g k i. bind-gives (λ m a. k ≤ m) Named word (λ c. yield (Line.Contract g c)) k word_keeps (keeps_on word word_keeps k) (λ c j h. yield-gives Named j (Line.Contract g c) (unnamed (Line.Contract g c) j refl)))

param-gives : (n : ℕ) → Gives Named (with₂ (choice types) name Line.StackParam) n
unfolding with₂ part_of
param-gives n =
    bind-gives (λ m a. n ≤ m) Named location (λ w. choice types >>= λ t. name >>= λ x. yield (Line.StackParam w t x)) n location-keeps (keeps_on location location-keeps n) (λ w k i. bind-gives (λ m a. k ≤ m) Named (choice types) (λ t. name >>= λ x. yield (Line.StackParam w t x)) k (choice-keeps types) (keeps_on (choice types) (choice-keeps types) k) (λ t j g. bind-gives Ends Named name (λ x. yield (Line.StackParam w t x)) j name-keeps (name-gives j) (λ x h q. yield-gives Named h (Line.StackParam w t x) (named (Line.StackParam w t x) x h refl q))))

variable-gives : (n : ℕ) → Gives Named (Line.Expression <∘> with name ExpressionLine.Variable) n
unfolding with part_of
variable-gives n =
    expression-gives (λ m l. Named m (Line.Expression l)) (with name ExpressionLine.Variable) n (with-keeps name ExpressionLine.Variable name-keeps) (bind-gives (λ m a. n ≤ m) (λ m l. Named m (Line.Expression l)) location (λ w. name >>= λ x. yield (ExpressionLine.Variable w x)) n location-keeps (keeps_on location location-keeps n) (λ w k i. bind-gives Ends (λ m l. Named m (Line.Expression l)) name (λ x. yield (ExpressionLine.Variable w x)) k name-keeps (name-gives k) (λ x j q. yield-gives (λ m l. Named m (Line.Expression l)) j (ExpressionLine.Variable w x) (named (Line.Expression (ExpressionLine.Variable w x)) x j refl q)))) (λ m l i. i)

string-gives : (n : ℕ) → Gives Named (Line.Expression <∘> with₂ literal bit ExpressionLine.StringLiteral) n
unfolding with₂ part_of
string-gives n =
    expression-gives (λ m l. Named m (Line.Expression l)) (with₂ literal bit ExpressionLine.StringLiteral) n (with₂-keeps literal bit ExpressionLine.StringLiteral literal-keeps bit-keeps) (bind-gives (λ m a. n ≤ m) (λ m l. Named m (Line.Expression l)) location (λ w. literal >>= λ x. bit >>= λ b. yield (ExpressionLine.StringLiteral w x b)) n location-keeps (keeps_on location location-keeps n) (λ w k i. bind-gives Ends (λ m l. Named m (Line.Expression l)) literal (λ x. bit >>= λ b. yield (ExpressionLine.StringLiteral w x b)) k literal-keeps (literal-gives k) (λ x j q. bind-gives (λ m a. j ≤ m) (λ m l. Named m (Line.Expression l)) bit (λ b. yield (ExpressionLine.StringLiteral w x b)) j bit-keeps (keeps_on bit bit-keeps j) (λ b h g. yield-gives (λ m l. Named m (Line.Expression l)) h (ExpressionLine.StringLiteral w x b) (named (Line.Expression (ExpressionLine.StringLiteral w x b)) x h refl (omega arith)))))) (λ m l i. i)

fail-gives : (n : ℕ) → Gives Named fail n
unfolding fail
fail-gives n s u e a m t q = absurd (failed≢got q)

fields_give : (b n : ℕ) → Gives Named (fields_of forms b) n
unfolding part_of
fields_give b =
    fields-each
    (λ r. (n : ℕ) → Gives Named r n)
    b
    forms
    (λ e. contract-gives, (λ e. map-unnamed _ _ word_keeps (λ a. refl), (λ e. param-gives, (λ e. map-unnamed _ _ word_keeps (λ a. refl), (λ e. map-unnamed _ _ (with-keeps _ _ bit-keeps) (λ a. refl), (λ e. map-unnamed _ _ (with₂-keeps _ _ _ (choice-keeps _) signed-keeps) (λ a. refl), (λ e. map-unnamed _ _ (map-keeps _ _ location-keeps) (λ a. refl), (λ e. map-unnamed _ _ (map-keeps _ _ location-keeps) (λ a. refl), (λ e. variable-gives, (λ e. with-plain _ _ signed-keeps (λ w a. refl), (λ e. with-plain _ _ bit-keeps (λ w a. refl), (λ e. string-gives, (λ e. with-plain _ _ (choice-keeps _) (λ w a. refl), (λ e. with-plain _ _ (choice-keeps _) (λ w a. refl), (λ e. with-plain _ _ (choice-keeps _) (λ w a. refl), (λ e. with-plain _ _ (choice-keeps _) (λ w a. refl), (λ e. with-plain _ _ (choice-keeps _) (λ w a. refl), (λ e. bare-plain _ (λ w. refl), (λ e. bare-plain _ (λ w. refl), (λ e. map-unnamed _ _ (map-keeps _ _ location-keeps) (λ a. refl), (λ e. map-unnamed _ _ (with₂-keeps _ _ _ word_keeps word_keeps) (λ a. refl), fail-gives)))))))))))))))))))))

line_gives : (b n : ℕ) → Gives Named (closed (fields_of forms b)) n
unfolding closed ◌>>◌
line_gives b n = bind-gives Named Named (fields_of forms b) (λ l. byte newline >> yield l) n (fields_keep b) (fields_give b n) (λ l k i. bind-gives (λ m a. k ≤ m) Named (byte newline) (λ _. yield l) k (byte-keeps newline) (keeps_on (byte newline) (byte-keeps newline) k) (λ a j h. yield-gives Named j l (λ x e. omega (arith, i x e))))

-- the part that a line of the listing names lies in the listing
pub line-part : (s : List ℕ) (n : ℕ) (l : Line) (m : ℕ) → line_at s n ≡ Good l m → (x : Place) → part_of l ≡ some x → x.at + x.len ≤ length s
unfolding next_line next_of line
line-part s n l m h x e =
    let f = line-good s n l m h in
    omega (arith, (next-keeps s n l m (drop m s) f).2, start (drop n s) refl f)
  where
    whole : (b : ℕ) (u : List ℕ) → drop n s ≡ b ∷ u → (y : Got Line) → closed (fields_of forms b) (suc n) u ≡ y → next_of y ≡ found l m (drop m s) → x.at + x.len ≤ m
    whole b u d (got k j t) p q =
        let a : k ≡ l = found-line q in
        let i : j ≡ m = found_at q in
        let z = line_gives b (suc n) s u (drop-tail s n b u d).0 k j t p in
        subst (λ j. x.at + x.len ≤ j) i (z x (ap part_of a ∙ e))
    whole b u d failed p q = absurd (malformed≢found q)

    start : (u : List ℕ) → drop n s ≡ u → next_line n (drop n s) ≡ found l m (drop m s) → x.at + x.len ≤ m
    start [] d q = absurd (ended≢found (sym (ap (next_line n) d) ∙ q))
    start (b ∷ u) d q = whole b u d (closed (fields_of forms b) (suc n) u) refl (sym (ap (next_line n) d) ∙ q)

-- The row of each form, over the readers of its fields: a row that is read after one field, after an enum number, at the end.
use Rattle.std.proofs.Common.{◌≡◌, ℕ, zero, suc, ◌+◌, ◌^◌, ◌<◌, ◌≤◌, true, false, List, [], ◌∷◌, length, get_or, drop, refl, sym, ap, subst, ◌∙◌, arith}
use Rattle.std.specs.Prelude.{Option, Some, None, option_and_then}
use Rattle.ast.specs.Tree.{unplaced}
use Rattle.ast.specs.Numbers.{targets, target_number, types, type_number, locktime_ops, locktime_number}
use Rattle.ast.specs.declared.Location.{Location}
use Rattle.ast.specs.declared.Target.TheVariants.{Taproot}
use Rattle.ast.specs.declared.Type.TheVariants.{Boolean}
use Rattle.ast.specs.declared.LocktimeOp.{LocktimeOp}
use Rattle.ast.specs.declared.LocktimeOp.TheVariants.{CsvTime}
use Rattle.text.specs.declared.Place.{Place}
use Rattle.text.specs.declared.Cursor.{Cursor}
use Rattle.text.specs.Text.{Got, got, failed, Reader, read, ◌>>=◌, ◌>>◌, ◌<∘>◌, yield, byte, newline, word, index, choice, bit, signed, name, literal}
use Rattle.text.proofs.Places.{Keeps, word_keeps, index-keeps, name-keeps, literal-keeps, signed-keeps}
use Rattle.text.proofs.Fields.{choice-got, choice-failed, index_below}
use Rattle.listing.specs.declared.Line.{Line}
use Rattle.listing.specs.declared.StatementLine.{StatementLine}
use Rattle.listing.specs.declared.ExpressionLine.{ExpressionLine}
use Rattle.listing.specs.declared.FactorLine.{FactorLine}
use Rattle.listing.specs.Forms.{closed, contract}
use Rattle.listing.proofs.Parts.{name-inside, literal-inside}
use Rattle.rows.specs.declared.Words.{Words}
use Rattle.rows.specs.Rows.{row_of, row_with, part_row, signed_row, bit_number, statement_row, expression_row, factor_row, PlaceFits}
use Rattle.forms.specs.Rowed.{both, row_read, ended_row, item_fields, wait_fields, number_fields, name_fields, literal_fields, multi_fields}

-- no more fields
pub rowed-end : (l : Line) (c : Cursor) → row_read (yield l) c ≡ ended_row (row_of l) c
unfolding row_read read closed yield ◌>>=◌ ◌>>◌
rowed-end l c = go (byte newline c.at (drop c.at c.listing.now)) refl
  where
    go : (x : Got ℕ) → byte newline c.at (drop c.at c.listing.now) ≡ x → row_read (yield l) c ≡ ended_row (row_of l) c
    go (got a n s) e = rw (row_read, read, closed, yield, ◌>>=◌, ◌>>◌, e) refl
    go failed e = rw (row_read, read, closed, yield, ◌>>=◌, ◌>>◌, e) refl

-- one field, then others
pub rowed-bind : {A : Type 0} (r : Reader A) (f : A → Reader Line) (h : A × Cursor → Option (Words × Cursor)) → Keeps r → (c : Cursor) → ((a : A) (d : Cursor) → read r c ≡ Some (a, d) → row_read (f a) d ≡ h (a, d)) → row_read (r >>= f) c ≡ option_and_then h (read r c)
unfolding row_read read closed ◌>>=◌
rowed-bind {A} r f h k c each = go (r c.at (drop c.at c.listing.now)) refl
  where
    go : (x : Got A) → r c.at (drop c.at c.listing.now) ≡ x → row_read (r >>= f) c ≡ option_and_then h (read r c)
    go (got a n s) e =
        let here : read r c ≡ Some (a, record c { at = n }) = rw (read, e) refl in
        let rest : drop n c.listing.now ≡ s = (k c.listing.now c.at (drop c.at c.listing.now) refl a n s e).rest in
        rw (row_read, read, closed, ◌>>=◌, e) (rw (row_read, read, closed, ◌>>=◌, rest) at (each a (record c { at = n }) here))
    go failed e = rw (row_read, read, closed, ◌>>=◌, e) refl

-- the variants, numbered from k
abbrev pub Numbered : {A : Type 0} → (A → ℕ) → ℕ → List A → Type 0
Numbered number k [] = Unit {0}
Numbered number k (x ∷ xs) = (number x ≡ k) × Numbered number (suc k) xs

number-from : {A : Type 0} (number : A → ℕ) (k : ℕ) (xs : List A) → Numbered number k xs → (d : A) (v : ℕ) → v < length xs → number (get_or xs v d) ≡ k + v
number-from number k [] h d v i = absurd (omega arith)
number-from number k (x ∷ xs) h d zero i = omega (arith, h.0)
number-from number k (x ∷ xs) h d (suc v) i = omega (arith, number-from number (suc k) xs h.1 d v (omega arith))

-- a number that is read as one of them is that one's number
pub number-back : {A : Type 0} (number : A → ℕ) (xs : List A) → Numbered number 0 xs → (d : A) (v : ℕ) → v < length xs → v ≡ number (get_or xs v d)
number-back number xs h d v i = omega (arith, number-from number 0 xs h d v i)

-- what a reader gives, from what is read
pub read-got : {A : Type 0} (r : Reader A) → Keeps r → (c : Cursor) {a : A} {d : Cursor} → read r c ≡ Some (a, d) → (r c.at (drop c.at c.listing.now) ≡ got a d.at (drop d.at c.listing.now)) × (record c { at = d.at } ≡ d)
unfolding read
read-got {A} r k c {a} {d} h = go (r c.at (drop c.at c.listing.now)) refl
  where
    go : (x : Got A) → r c.at (drop c.at c.listing.now) ≡ x → (r c.at (drop c.at c.listing.now) ≡ got a d.at (drop d.at c.listing.now)) × (record c { at = d.at } ≡ d)
    go (got b n s) e =
        let f : ◌≡◌ {A = Option (A × Cursor)} (Some (b, record c { at = n })) (Some (a, d)) = rw (read, e) at h in
        let pair : ◌≡◌ {A = A × Cursor} (b, record c { at = n }) (a, d) = cc in
        let value : b ≡ a = ap (λ p. p.0) pair in
        let cursor : record c { at = n } ≡ d = ap (λ p. p.1) pair in
        let place : n ≡ d.at = ap (λ x. x.at) cursor in
        let rest = (k c.listing.now c.at (drop c.at c.listing.now) refl b n s e).rest in
        (e ∙ ap (got b n) (sym rest) ∙ (λ i. got (value i) (place i) (drop (place i) c.listing.now)), subst (λ k. record c { at = k } ≡ d) place cursor)
    go failed e = let f : ◌≡◌ {A = Option (A × Cursor)} None (Some (a, d)) = rw (read, e) at h in absurd (let z : ◌≡◌ {A = ℕ} 0 1 = cc in omega arith)

-- one of some variants, then other fields: as its number
pub rowed-choice : {A : Type 0} (xs : List A) (f : A → Reader Line) (h : ℕ × Cursor → Option (Words × Cursor)) (dflt : A) (c : Cursor) → ((v : ℕ) (d : Cursor) → v < length xs → row_read (f (get_or xs v dflt)) d ≡ h (v, d)) → row_read (choice xs >>= f) c ≡ option_and_then h (read (index (length xs)) c)
unfolding row_read read closed ◌>>=◌
rowed-choice {A} xs f h dflt c each = go (index (length xs) c.at (drop c.at c.listing.now)) refl
  where
    go : (x : Got ℕ) → index (length xs) c.at (drop c.at c.listing.now) ≡ x → row_read (choice xs >>= f) c ≡ option_and_then h (read (index (length xs)) c)
    go (got v n s) e =
        let rest : drop n c.listing.now ≡ s = (index-keeps (length xs) c.listing.now c.at (drop c.at c.listing.now) refl v n s e).rest in
        let below = index_below (length xs) c.at (drop c.at c.listing.now) e in
        rw (row_read, read, closed, ◌>>=◌, e, choice-got xs c.listing.now c.at dflt e) (rw (row_read, read, closed, ◌>>=◌, rest) at (each v (record c { at = n }) below))
    go failed e = rw (row_read, read, closed, ◌>>=◌, e, choice-failed xs c.listing.now c.at e) refl

-- a reader, and what is made of its value
pub rowed-map : {A : Type 0} (f : A → Line) (r : Reader A) (h : A × Cursor → Option (Words × Cursor)) → Keeps r → (c : Cursor) → ((a : A) (d : Cursor) → ended_row (row_of (f a)) d ≡ h (a, d)) → row_read (f <∘> r) c ≡ option_and_then h (read r c)
unfolding ◌<∘>◌
rowed-map f r h k c each = rowed-bind r (λ a. yield (f a)) h k c (λ a d e. rowed-end (f a) d ∙ each a d)

-- a part of the listing that is read fits two words
pub part_fits : (c : Cursor) (x : Place) (d : Cursor) → length c.listing.now < 2 ^ 32 → x.at + x.len ≤ length c.listing.now → PlaceFits x
part_fits c x d small inside = (omega arith, omega arith)

pub name_fits : (c : Cursor) {x : Place} {d : Cursor} → length c.listing.now < 2 ^ 32 → read name c ≡ Some (x, d) → PlaceFits x
name_fits c {x} {d} small h = part_fits c x d small (name-inside c.listing.now c.at (read-got name name-keeps c h).0)

pub literal_fits : (c : Cursor) {x : Place} {d : Cursor} → length c.listing.now < 2 ^ 32 → read literal c ≡ Some (x, d) → PlaceFits x
literal_fits c {x} {d} small h = part_fits c x d small (literal-inside c.listing.now c.at (read-got literal literal-keeps c h).0)

-- three readers in turn
pub bind_assoc : {A B C : Type 0} (r : Reader A) (f : A → Reader B) (g : B → Reader C) → (r >>= f) >>= g ≡ r >>= (λ a. f a >>= g)
unfolding ◌>>=◌
bind_assoc {A} {B} {C} r f g = λ i n s. go (r n s) i
  where
    follow : {X Y : Type 0} → (X → Reader Y) → Got X → Got Y
    follow h (got x k t) = h x k t
    follow h failed = failed

    go : (x : Got A) → follow g (follow f x) ≡ follow (λ a. f a >>= g) x
    go (got a k t) = refl
    go failed = refl

-- the forms, after their location if they have one
pub contract_is : (c : Cursor) → row_read contract c ≡ option_and_then (λ p. option_and_then (λ q. ended_row (row_with 84 unplaced p.0 q.0 0 0) q.1) (read word p.1)) (read (index 3) c)
unfolding contract row_of
contract_is c =
    rowed-choice targets (λ g. word >>= λ n. yield (Line.Contract g n)) _ Taproot c λ v d below.
    rowed-bind word (λ n. yield (Line.Contract (get_or targets v Taproot) n)) _ word_keeps d λ n e h.
    rowed-end (Line.Contract (get_or targets v Taproot) n) e ∙ ap (λ t. ended_row (row_with 84 unplaced t n 0 0) e) (sym (number-back target_number targets (refl, (refl, (refl, tt))) Taproot v below))

pub counted_is : (f : ℕ → Line) (k : ℕ) → ((v : ℕ) → row_with k unplaced v 0 0 0 ≡ row_of (f v)) → (c : Cursor) → row_read (f <∘> word) c ≡ option_and_then (λ p. ended_row (row_with k unplaced p.0 0 0 0) p.1) (read word c)
counted_is f k rows c = rowed-map f word _ word_keeps c (λ v d. ap (λ r. ended_row r d) (sym (rows v)))

pub plain_is : (l : Line) (r : Words) → r ≡ row_of l → (c : Cursor) → row_read (yield l) c ≡ ended_row r c
plain_is l r e c = rowed-end l c ∙ ap (λ r. ended_row r c) (sym e)

pub operator_is : (f : ℕ → Line) (k count : ℕ) (w : Location) → ((v : ℕ) → v < count → row_with k w v 0 0 0 ≡ row_of (f v)) → (c : Cursor) → row_read (f <∘> index count) c ≡ option_and_then (λ p. ended_row (row_with k w p.0 0 0 0) p.1) (read (index count) c)
unfolding ◌<∘>◌
operator_is f k count w rows c =
    rowed-bind (index count) (λ v. yield (f v)) _ (index-keeps count) c λ v d h.
    rowed-end (f v) d ∙ ap (λ r. ended_row r d) (sym (rows v (index_below count c.at (drop c.at c.listing.now) (read-got (index count) (index-keeps count) c h).0)))

pub item_is : (w : Location) (c : Cursor) → row_read (item_fields w) c ≡ option_and_then (λ p. option_and_then (λ q. ended_row (part_row 80 w q.0 p.0) q.1) (read name p.1)) (read (index 4) c)
unfolding item_fields both row_of
item_is w c =
    rowed-choice types (λ t. name >>= λ x. yield (Line.StackParam w t x)) _ Boolean c λ v d below.
    rowed-bind name (λ x. yield (Line.StackParam w (get_or types v Boolean) x)) _ name-keeps d λ x e h.
    rowed-end (Line.StackParam w (get_or types v Boolean) x) e ∙ ap (λ t. ended_row (part_row 80 w x t) e) (sym (number-back type_number types (refl, (refl, (refl, (refl, tt)))) Boolean v below))

pub wait_is : (w : Location) (c : Cursor) → row_read (wait_fields w) c ≡ option_and_then (λ p. option_and_then (λ q. ended_row (signed_row 76 w p.0 q.0) q.1) (read signed p.1)) (read (index 3) c)
unfolding wait_fields both ◌<∘>◌ ◌>>=◌ yield row_of statement_row
wait_is w c =
    let inner : LocktimeOp → Reader StatementLine = λ o. signed >>= λ v. yield (StatementLine.LocktimeStatement w o v) in
    ap (λ r. row_read r c) (bind_assoc (choice locktime_ops) inner (λ l. yield (Line.Statement l))) ∙
    rowed-choice locktime_ops (λ o. inner o >>= λ l. yield (Line.Statement l)) _ CsvTime c λ v d below.
    ap (λ r. row_read r d) (bind_assoc signed (λ x. yield (StatementLine.LocktimeStatement w (get_or locktime_ops v CsvTime) x)) (λ l. yield (Line.Statement l))) ∙
    rowed-bind signed (λ x. yield (Line.Statement (StatementLine.LocktimeStatement w (get_or locktime_ops v CsvTime) x))) _ signed-keeps d λ x e h.
    rowed-end (Line.Statement (StatementLine.LocktimeStatement w (get_or locktime_ops v CsvTime) x)) e ∙ ap (λ t. ended_row (signed_row 76 w t x) e) (sym (number-back locktime_number locktime_ops (refl, (refl, (refl, tt))) CsvTime v below))

pub number_is : (w : Location) (c : Cursor) → row_read (number_fields w) c ≡ option_and_then (λ p. ended_row (signed_row 110 w 0 p.0) p.1) (read signed c)
unfolding number_fields ◌<∘>◌ ◌>>=◌ yield row_of expression_row
number_is w c =
    ap (λ r. row_read r c) (bind_assoc signed (λ v. yield (ExpressionLine.NumberLiteral w v)) (λ l. yield (Line.Expression l))) ∙
    rowed-bind signed (λ v. yield (Line.Expression (ExpressionLine.NumberLiteral w v))) _ signed-keeps c (λ v d h. rowed-end (Line.Expression (ExpressionLine.NumberLiteral w v)) d)

pub name_is : (w : Location) (c : Cursor) → row_read (name_fields w) c ≡ option_and_then (λ p. ended_row (part_row 118 w p.0 0) p.1) (read name c)
unfolding name_fields ◌<∘>◌ ◌>>=◌ yield row_of expression_row
name_is w c =
    ap (λ r. row_read r c) (bind_assoc name (λ x. yield (ExpressionLine.Variable w x)) (λ l. yield (Line.Expression l))) ∙
    rowed-bind name (λ x. yield (Line.Expression (ExpressionLine.Variable w x))) _ name-keeps c (λ x d h. rowed-end (Line.Expression (ExpressionLine.Variable w x)) d)

pub literal_is : (w : Location) (c : Cursor) → row_read (literal_fields w) c ≡ option_and_then (λ p. option_and_then (λ q. ended_row (part_row 115 w p.0 q.0) q.1) (read (index 2) p.1)) (read literal c)
unfolding literal_fields both bit ◌<∘>◌ ◌>>=◌ yield row_of expression_row
literal_is w c =
    ap (λ r. row_read r c) (bind_assoc literal (λ x. bit >>= λ m. yield (ExpressionLine.StringLiteral w x m)) (λ l. yield (Line.Expression l))) ∙
    rowed-bind literal (λ x. (bit >>= λ m. yield (ExpressionLine.StringLiteral w x m)) >>= λ l. yield (Line.Expression l)) _ literal-keeps c λ x d h.
    ap (λ r. row_read r d) (bind_assoc bit (λ m. yield (ExpressionLine.StringLiteral w x m)) (λ l. yield (Line.Expression l))) ∙
    rowed-choice (false ∷ true ∷ []) (λ m. yield (Line.Expression (ExpressionLine.StringLiteral w x m))) _ false d λ v e below.
    rowed-end (Line.Expression (ExpressionLine.StringLiteral w x (get_or (false ∷ true ∷ []) v false))) e ∙ ap (λ t. ended_row (part_row 115 w x t) e) (sym (number-back bit_number (false ∷ true ∷ []) (refl, (refl, tt)) false v below))

pub multi_is : (w : Location) (c : Cursor) → row_read (multi_fields w) c ≡ option_and_then (λ p. option_and_then (λ q. ended_row (row_with 77 w p.0 q.0 0 0) q.1) (read word p.1)) (read word c)
unfolding multi_fields both ◌<∘>◌ ◌>>=◌ yield row_of factor_row
multi_is w c =
    ap (λ r. row_read r c) (bind_assoc word (λ m. word >>= λ n. yield (FactorLine.MultiSigFactor w m n)) (λ l. yield (Line.Factor l))) ∙
    rowed-bind word (λ m. (word >>= λ n. yield (FactorLine.MultiSigFactor w m n)) >>= λ l. yield (Line.Factor l)) _ word_keeps c λ m d h.
    ap (λ r. row_read r d) (bind_assoc word (λ n. yield (FactorLine.MultiSigFactor w m n)) (λ l. yield (Line.Factor l))) ∙
    rowed-bind word (λ n. yield (Line.Factor (FactorLine.MultiSigFactor w m n))) _ word_keeps d (λ n e h. rowed-end (Line.Factor (FactorLine.MultiSigFactor w m n)) e)

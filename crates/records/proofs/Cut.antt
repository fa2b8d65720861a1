-- What stands at the front of bytes in which a record is cut short.
use Rattle.std.proofs.Common.{◌≡◌, ℕ, ◌+◌, ◌<◌, ◌≤◌, List, [], ◌∷◌, ◌++◌, length, take, drop, None, Some, IfSome, sym, ap, ◌∙◌, append_assoc, arith, length-append}
use Rattle.std.specs.declared.option.Option.{Option}
use Rattle.std.proofs.Math.Seq.{take-append_seam, drop-append_seam}
use Rattle.std.specs.Io.KnownBytes.{Consumes}
use Rattle.records.specs.Bytes.{number_in, ReadsHead, BeginsWithEnd, BeginsWithRecord}

-- two lists in two parts, the first of one length
parts : (ps qs xs ys : List ℕ) → length ps ≡ length qs → ps ++ xs ≡ qs ++ ys → (ps ≡ qs) × (xs ≡ ys)
parts ps qs xs ys l e = (
  sym (take-append_seam ps xs) ∙ ap (take (length ps)) e ∙ ap (λ n. take n (qs ++ ys)) l ∙ take-append_seam qs ys,
  sym (drop-append_seam ps xs) ∙ ap (drop (length ps)) e ∙ ap (λ n. drop n (qs ++ ys)) l ∙ drop-append_seam qs ys,
)

-- what follows a head is the bytes and the end of the only record that can stand there
after-head : (xs ys digits : List ℕ) (longest : ℕ) → xs ≡ (digits ++ (10 ∷ [])) ++ ys → length digits ≡ 5 → BeginsWithRecord longest xs
    → (bytes : List ℕ) × (rest : List ℕ) × (ys ≡ bytes ++ (10 ∷ rest)) × (number_in 0 digits ≡ length bytes) × (length bytes ≤ longest)
after-head xs ys digits longest p five (other, bytes, rest, same, five', size, few) =
    let e : digits ++ (10 ∷ ys) ≡ other ++ (10 ∷ (bytes ++ (10 ∷ rest))) = sym (append_assoc digits (10 ∷ []) ys) ∙ sym p ∙ same in
    let both = parts digits other (10 ∷ ys) (10 ∷ (bytes ++ (10 ∷ rest))) (five ∙ sym five') e in
    (bytes, rest, ap (drop 1) both.1, ap (number_in 0) both.0 ∙ size, few)

-- fewer bytes are left than the head says, or it says too many
pub few-bytes : (old mid : Option (List ℕ)) (size longest : ℕ) → ReadsHead old mid 10 size → (size ≤ longest → IfSome mid (λ ys. length ys < size))
    → IfSome old (λ xs. BeginsWithRecord longest xs → ⊥)
few-bytes None mid size longest head few = tt
few-bytes (Some xs) None size longest (digits, five, is, p) few = absurd p
few-bytes (Some xs) (Some ys) size longest (digits, five, is, p) few = λ r.
    let a = after-head xs ys digits longest p five r in
    let same : length a.0 ≡ size = sym a.3 ∙ is in
    let most = a.4 in
    let fits : size ≤ longest = omega (arith, same, most) in
    let short = few fits in
    let long : length ys ≡ length a.0 + length (10 ∷ a.1) = ap length a.2 ∙ length-append a.0 (10 ∷ a.1) in
    omega (arith, short, long, same)

-- no byte 10 stands after the bytes
pub no-end : (old mid new : Option (List ℕ)) (bytes : List ℕ) (size longest : ℕ) → ReadsHead old mid 10 size → Consumes mid new bytes → length bytes ≡ size
    → IfSome new (λ zs. BeginsWithEnd zs → ⊥) → IfSome old (λ xs. BeginsWithRecord longest xs → ⊥)
no-end None mid new bytes size longest head q long none = tt
no-end (Some xs) None new bytes size longest (digits, five, is, p) q long none = absurd p
no-end (Some xs) (Some ys) None bytes size longest (digits, five, is, p) q long none = absurd q
no-end (Some xs) (Some ys) (Some zs) bytes size longest (digits, five, is, p) q long none = λ r.
    let a = after-head xs ys digits longest p five r in
    let both = parts bytes a.0 zs (10 ∷ a.1) (long ∙ sym is ∙ a.3) (sym q ∙ a.2) in
    none (a.1, both.1)

-- The readers of words, each over the readers that it is made of.
use Rattle.std.proofs.Common.{◌≡◌, ℕ, zero, suc, ◌+◌, ◌-◌, ◌<◌, ◌≤◌, List, length, get_or, set, replicate, drop, refl, sym, ap, arith}
use lib.Dec.{ltb}
use Rattle.std.specs.Prelude.{Option, Some, None, option_and_then, if◌then◌else◌}
use Rattle.ast.specs.declared.Location.{Location}
use Rattle.text.specs.declared.Cursor.{Cursor}
use Rattle.text.specs.Text.{Got, got, failed, Reader, read, ◌>>=◌, yield, guard, comma, up_to, word, index, location}
use Rattle.text.proofs.Places.{word_keeps}
use Rattle.text.proofs.Cursors.{some≢none, past, byte-none, bind_as, bind-some, bind-none, guard_as, yield-some}

pub read_index_is : (count : ℕ) (c : Cursor) → read (index count) c ≡ option_and_then (λ p. if ltb p.0 count then Some p else None) (read word c)
unfolding index
read_index_is count c = bind_as word (λ v. guard (ltb v count) v) _ word_keeps (λ v d. guard_as (ltb v count) v d) c

-- the words that are left, put into ws from place k on, and the location that they make
unfoldable pub filled : ℕ → ℕ → List ℕ → Reader Location
filled zero k ws = yield (record { start = get_or ws 0 0; end = get_or ws 1 0; line = get_or ws 2 0; column = get_or ws 3 0 })
filled (suc left) k ws = word >>= λ v. filled left (k + 1) (set ws k v)

-- a location of which k words are read
abbrev pub From : ℕ → List ℕ → Cursor → Option (Location × Cursor)
From k ws d = read (filled (4 - k) k ws) d

pub from-none : (c : Cursor) → From 0 (replicate 4 0) c ≡ read location c
unfolding filled location
from-none c = refl

-- a word read, a word that is none, all words read
module _ (k : ℕ) (ws : List ℕ) (d : Cursor) where
  filled_next : k < 4 → filled (4 - k) k ws ≡ (word >>= λ v. filled (4 - (k + 1)) (k + 1) (set ws k v))
  unfolding filled
  filled_next l = let e : 4 - k ≡ suc (4 - (k + 1)) = omega arith in rw e

  pub from-some : k < 4 → {v : ℕ} {e : Cursor} → read word d ≡ Some (v, e) → From (k + 1) (set ws k v) e ≡ From k ws d
  from-some l h = rw (filled_next l) (sym (bind-some word _ word_keeps d h))

  pub from-failed : k < 4 → read word d ≡ None → None ≡ From k ws d
  from-failed l h = rw (filled_next l) (sym (bind-none word _ word_keeps d h))

  pub from_all : k ≡ 4 → Some (record { start = get_or ws 0 0; end = get_or ws 1 0; line = get_or ws 2 0; column = get_or ws 3 0 }, d) ≡ From k ws d
  unfolding filled
  from_all e = rw e (sym (yield-some _ d))

-- past the end there is no location
pub location-past : (c : Cursor) → length c.listing.now < c.at → None ≡ read location c
unfolding location word
location-past c h = sym (bind-none word _ word_keeps c (byte-none comma (up_to 4294967295) c (past comma c (omega arith))))

-- after a word the cursor stands in the listing
pub word-inside : (c : Cursor) {v : ℕ} {d : Cursor} → read word c ≡ Some (v, d) → c.at ≤ length c.listing.now → d.at ≤ length d.listing.now
unfolding read
word-inside c {v} {d} h l = go (word c.at (drop c.at c.listing.now)) refl
  where
    go : (x : Got ℕ) → word c.at (drop c.at c.listing.now) ≡ x → d.at ≤ length d.listing.now
    go (got a m t) e =
        let f : ◌≡◌ {A = Option (ℕ × Cursor)} (Some (a, record c { at = m })) (Some (v, d)) = rw e at h in
        let pair : ◌≡◌ {A = ℕ × Cursor} (a, record c { at = m }) (v, d) = cc in
        let same : record c { at = m } ≡ d = ap (λ p. p.1) pair in
        rw (sym same) ((word_keeps c.listing.now c.at _ refl _ _ _ e).inside l)
    go failed e = absurd (some≢none (sym (rw e at h)))

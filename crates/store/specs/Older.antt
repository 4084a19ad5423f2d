-- Older stores: of a hub before request P6, whose line limit was 4096, proved as `older_sound` and `longer_damaged` in
-- ../proofs/OlderLaws.antt; of a hub before request P12, whose buffers had at most 65535 bytes, proved as `before_sound`;
-- and a store in longer buffers, proved as `grown`.
-- The theorems rest on these definitions; they assume nothing.
use Rattle.std.specs.Prelude.{◌≡◌, Bool, true, false, ◌||◌, List, [], ◌∷◌, ◌++◌, ℕ, suc, ◌+◌, ◌≤◌, eqb, ltb, length, get_or, replicate}
use Rattle.std.proofs.Math.Option.{some}
use Rattle.text.specs.Bytes.{pick}
use Rattle.text.specs.Uuid.{big_endian, uuid_bytes}
use Rattle.store.specs.Held.{Key, Held, distinct, index_max, text_max, Limits}
use Rattle.store.specs.Shares.{owners, Content}
use Rattle.store.specs.Layout.{Bytes, padded, encode_text, ShapesWithin, EncodesWithin}
use Rattle.store.specs.Decode.{content}

-- the limits of the first hub: "each length from 1 to 4096", "each of at most 65535 bytes"
abbrev pub first : Limits
first = record { line = 4096; index = 65535; text = 65535 }

-- "every older store is still sound", and holds the same lines
abbrev pub OlderSound : Type 0
OlderSound = (i t : List ℕ) (c : Content) → EncodesWithin first i t c → content i t ≡ some c

-- some line has more bytes than the limit
unfoldable pub longer : ℕ → List Held → Bool
longer limit [] = false
longer limit (h ∷ hs) = ltb limit (length h.line) || longer limit hs

-- within these limits a store is damaged: it encodes no list, which is 19
abbrev pub Damaged : Limits → List ℕ → List ℕ → Type 0
Damaged w i t = (c : Content) → EncodesWithin w i t c → ⊥

-- "A hub before this change finds a store with a longer line damaged and says 19."
abbrev pub LongerDamaged : Type 0
LongerDamaged =
    (i t : List ℕ) (c : Content) → content i t ≡ some c → longer first.line c.held ≡ true → Damaged first i t

-- ---- before request P12: kinds 1, 3 and 4 alone

-- the limits of then: P6's line, "index and text, each of at most 65535 bytes"
abbrev pub before : Limits
before = record { line = 16384; index = 65535; text = 65535 }

-- "Per line the index has a kind byte 1, then 20 bytes: UUID (16), offset in the text (2), length (2), high byte first.";
-- "Record kind 3 has an owner byte from 1 to 255, then the body of kind 1"
unfoldable pub record_before : Key → ℕ → ℕ → List ℕ
record_before k off len =
    pick (eqb k.owner 0) (1 ∷ []) (3 ∷ k.owner ∷ [])
    ++ (uuid_bytes k.uuid ++ (big_endian 2 off ++ big_endian 2 len))

unfoldable pub records_before : ℕ → List Held → List ℕ
records_before off [] = []
records_before off (h ∷ hs) =
    record_before h.key off (length h.line) ++ records_before (off + length h.line) hs

-- "kind 4, that byte, share (2)"; "share 0 has no record"
unfoldable pub shares_before : ℕ → List ℕ → List ℕ
shares_before o [] = []
shares_before o (b ∷ bs) = pick (eqb b 0) [] (4 ∷ o ∷ big_endian 2 b) ++ shares_before (suc o) bs

-- two buffers encoded these shares and lines then
pub record EncodedBefore (i t : List ℕ) (c : Content) : Type 0 where
  pub index : i ≡ padded (length i) (shares_before 0 c.shares ++ records_before 0 c.held)
  pub text : t ≡ encode_text (length t) c.held
  pub once : distinct c.held ≡ true
  pub shapes : ShapesWithin before.line c.held
  pub each : length c.shares ≡ owners
  pub two : (o : ℕ) → get_or c.shares o 0 ≤ 65535
  pub index_most : length i ≤ before.index
  pub text_most : length t ≤ before.text

-- P12: "Older stores are sound unchanged", with the same shares and lines
abbrev pub BeforeSound : Type 0
BeforeSound = (i t : List ℕ) (c : Content) → EncodedBefore i t c → content i t ≡ some c

-- the same bytes, followed by zeros in longer buffers, are sound and hold the same
abbrev pub Grown : Type 0
Grown =
    (i t : List ℕ) (c : Content) (a b : ℕ) → Bytes i → content i t ≡ some c
    → length i + a ≤ index_max → length t + b ≤ text_max
    → content (i ++ replicate a 0) (t ++ replicate b 0) ≡ some c

-- How shares and a list of lines lie in the two buffers of a store (document 01, 'Records'; document 02, P9, P10 and P12).
-- A record's form stands in `record_bytes`, the number of its bytes in Held's `record_size`; `length-record` in
-- proofs/RecordLaws.antt says that they agree.
-- Public contracts rest on these definitions; they assume nothing.
use Rattle.std.specs.Prelude.{◌≡◌, Bool, true, List, [], ◌∷◌, ◌++◌, ℕ, suc, ◌+◌, ◌-◌, ◌≤◌, ◌<◌, eqb, length, replicate, get_or}
use Rattle.text.specs.Bytes.{pick}
use Rattle.text.specs.Uuid.{big_endian, uuid_bytes, Small}
use Rattle.store.specs.Held.{Key, Held, distinct, line_max, is_long, Limits, current}
use Rattle.store.specs.Shares.{owners, Content}

-- a list of bytes: each number is below 256. A lent buffer always is one
abbrev pub Bytes : List ℕ → Type 0
Bytes s = (k : ℕ) → get_or s k 0 < 256

-- P9: "Record kind 3 has an owner byte from 1 to 255, then the body of kind 1; kind 1 is the hall's." P12: "A line whose
-- offset exceeds 65535 has kind 2 (hall) or 5 (organiser), with a four-byte offset"
abbrev pub kind_by : ℕ → Bool → List ℕ
kind_by o long = pick long (pick (eqb o 0) (2 ∷ []) (5 ∷ o ∷ [])) (pick (eqb o 0) (1 ∷ []) (3 ∷ o ∷ []))

abbrev pub kind_bytes : ℕ → ℕ → List ℕ
kind_bytes o off = kind_by o (is_long off)

-- the bytes of an offset
abbrev pub offset_width : Bool → ℕ
offset_width long = pick long 4 2

-- "Per line the index has a kind byte 1, then 20 bytes: UUID (16), offset in the text (2), length (2), high byte
-- first."
unfoldable pub record_bytes : Key → ℕ → ℕ → List ℕ
record_bytes k off len =
    kind_bytes k.owner off
    ++ (uuid_bytes k.uuid ++ (big_endian (offset_width (is_long off)) off ++ big_endian 2 len))

abbrev pub record_of : ℕ → Held → List ℕ
record_of off h = record_bytes h.key off (length h.line)

-- "Lines lie end to end from offset 0 in list order.": the records of lines that lie so from an offset on
unfoldable pub records : ℕ → List Held → List ℕ
records off [] = []
records off (h ∷ hs) = record_of off h ++ records (off + length h.line) hs

-- the texts of the lines, "end to end"
unfoldable pub texts : List Held → List ℕ
texts [] = []
texts (h ∷ hs) = h.line ++ texts hs

-- "Every byte after the last record and after the last line is 0"
unfoldable pub padded : ℕ → List ℕ → List ℕ
padded n s = s ++ replicate (n - length s) 0

-- the part of an index behind the shares, of n bytes, that encodes a list of lines
unfoldable pub encode_records : ℕ → List Held → List ℕ
encode_records n hs = padded n (records 0 hs)

-- P10: "a share in bytes, held in the index as kind 4, that byte, share (2)"; "share 0 has no record". P12: "A share over
-- 65535, and no other, has, where its kind 4 would stand, kind 6, the owner byte and four bytes of share."
abbrev pub share_bytes : ℕ → ℕ → List ℕ
share_bytes o b = pick (eqb b 0) [] (pick (is_long b) (6 ∷ o ∷ big_endian 4 b) (4 ∷ o ∷ big_endian 2 b))

-- "These stand first, by owner": the records of the shares of the parties from owner o on
unfoldable pub share_records : ℕ → List ℕ → List ℕ
share_records o [] = []
share_records o (b ∷ bs) = share_bytes o b ++ share_records (suc o) bs

-- the index of n bytes and the text of m bytes that encode shares and a list of lines
unfoldable pub encode_index : ℕ → List ℕ → List Held → List ℕ
encode_index n s hs = padded n (share_records 0 s ++ records 0 hs)

unfoldable pub encode_text : ℕ → List Held → List ℕ
encode_text m hs = padded m (texts hs)

-- an owner byte, and a UUID of 128 bits
pub record Proper (k : Key) : Type 0 where
  pub owner : k.owner < 256
  pub uuid : Small k.uuid

-- "each length from 1 to" the limit of a line
pub record ShapeWithin (limit : ℕ) (h : Held) : Type 0 where
  pub key : Proper h.key
  pub some : 1 ≤ length h.line
  pub most : length h.line ≤ limit

abbrev pub ShapesWithin : ℕ → List Held → Type 0
ShapesWithin limit [] = Unit {0}
ShapesWithin limit (h ∷ hs) = ShapeWithin limit h × ShapesWithin limit hs

-- a share for each party, which four bytes hold
pub record Given (s : List ℕ) : Type 0 where
  pub each : length s ≡ owners
  pub four : (o : ℕ) → get_or s o 0 ≤ 4294967295

-- "A store is sound exactly when it encodes some list with no UUID twice" for any party "and each length from 1 to"
-- the limit, "index and text, each of at most" so many bytes: within these limits it encodes these shares and lines
pub record EncodesWithin (w : Limits) (i t : List ℕ) (c : Content) : Type 0 where
  pub index : i ≡ encode_index (length i) c.shares c.held
  pub text : t ≡ encode_text (length t) c.held
  pub once : distinct c.held ≡ true
  pub shapes : ShapesWithin w.line c.held
  pub given : Given c.shares
  pub index_most : length i ≤ w.index
  pub text_most : length t ≤ w.text

-- the same within the limits of this hub
abbrev pub Shape : Held → Type 0
Shape h = ShapeWithin line_max h

abbrev pub Shapes : List Held → Type 0
Shapes hs = ShapesWithin line_max hs

abbrev pub Encodes : List ℕ → List ℕ → Content → Type 0
Encodes i t c = EncodesWithin current i t c

-- The shares and the list of lines that a sound store encodes, read off its bytes; none of another store.
-- For an index of bytes `content` is Layout's `Encodes`, no more and no less (`content_encodes`, `encodes_content`).
-- Public contracts rest on these definitions; they assume nothing.
use Rattle.std.specs.Prelude.{Bool, true, false, not, ◌&&◌, ◌||◌, List, [], ◌∷◌, ℕ, zero, suc, ◌+◌, ◌*◌, eqb, leb, length, get_or, take, drop}
use Rattle.std.proofs.Math.Option.{Option, none, some}
use Rattle.text.specs.Bytes.{pick}
use Rattle.store.specs.declared.records.Head.{Head}
use Rattle.store.specs.declared.records.Body.{Body}
use Rattle.store.specs.declared.records.Kind.{Kind}
use Rattle.store.specs.Held.{Held, key_by, distinct, index_max, text_max, is_long, size_by, line_max}
use Rattle.store.specs.Layout.{kind_by, offset_width}
use Rattle.store.specs.Shares.{owners, Content, share_size}

-- the numbers in the two, four and eight bytes at k, high byte first
abbrev pub word : List ℕ → ℕ → ℕ
word s k = 256 * get_or s k 0 + get_or s (k + 1) 0

abbrev pub word4 : List ℕ → ℕ → ℕ
word4 s k = 65536 * word s k + word s (k + 2)

abbrev pub word8 : List ℕ → ℕ → ℕ
word8 s k = 4294967296 * word4 s k + word4 s (k + 4)

-- "then 20 bytes: UUID (16), offset in the text (2), length (2)"; P12: "a four-byte offset"
abbrev pub offset_at : Bool → List ℕ → ℕ
offset_at long s = pick long (word4 s 16) (word s 16)

unfoldable pub body_at : Bool → List ℕ → Body
body_at long s = record {
  uuid = record { high = word8 s 0; low = word8 s 8 };
  off = offset_at long s;
  len = word s (16 + offset_width long);
}

abbrev pub kind : ℕ → Bool → Kind
kind o long = record { owner = o; long = long }

-- the kind of the record at an index's front, P9: "kind 3 has an owner byte from 1 to 255, [..] kind 1 is the hall's";
-- P12: "kind 2 (hall) or 5 (organiser)"; none where no such kind stands there
unfoldable pub kind_at : List ℕ → Option Kind
kind_at i =
    pick (eqb (get_or i 0 0) 1) (some (kind 0 false))
    (pick (eqb (get_or i 0 0) 2) (some (kind 0 true))
    (pick (eqb (get_or i 0 0) 3 && leb 1 (get_or i 1 0)) (some (kind (get_or i 1 0) false))
    (pick (eqb (get_or i 0 0) 5 && leb 1 (get_or i 1 0)) (some (kind (get_or i 1 0) true)) none)))

-- the body of a record of that kind at an index's front
abbrev pub body_of : List ℕ → Kind → Body
body_of i k = body_at k.long (drop (length (kind_by k.owner k.long)) i)

-- a record of that kind is whole. P12: of "a line whose offset exceeds 65535", where the offset has four bytes: "no other
-- line has"
abbrev pub is_whole : List ℕ → Kind → Bool
is_whole i k = leb (size_by k.owner k.long) (length i) && (not k.long || is_long (body_of i k).off)

-- what the record at an index's front says; size 0 where no whole record stands there
abbrev pub no_head : Head
no_head = record { size = 0; key = key_by 0 (record { high = 0; low = 0 }); off = 0; len = 0 }

abbrev pub head_with : Kind → Body → Head
head_with k b = record { size = size_by k.owner k.long; key = key_by k.owner b.uuid; off = b.off; len = b.len }

abbrev pub head_by : List ℕ → Option Kind → Head
head_by i none = no_head
head_by i (some k) = pick (is_whole i k) (head_with k (body_of i k)) no_head

unfoldable pub head_at : List ℕ → Head
head_at i = head_by i (kind_at i)

-- a record is of a line at that offset, whose length is allowed and which fits in n bytes of text
unfoldable pub head_fits : ℕ → Head → ℕ → Bool
head_fits off h n = eqb h.off off && (leb 1 h.len && (leb h.len line_max && leb h.len n))

-- the line of the record at the index's front, whose text starts at the text's front
abbrev pub held_of : List ℕ → List ℕ → Held
held_of i t = record { key = (head_at i).key; line = take (head_at i).len t }

-- every byte is 0
unfoldable pub zeroes : List ℕ → Bool
zeroes [] = true
zeroes (x ∷ xs) = eqb x 0 && zeroes xs

-- a line in front of those after it, where its record fits
abbrev pub cons_to : Bool → Held → Option (List Held) → Option (List Held)
cons_to false h o = none
cons_to true h none = none
cons_to true h (some hs) = some (h ∷ hs)

-- the lines from the front of index and text on, of which the first lies at that offset; at most f - 1 of them
unfoldable pub walk : ℕ → ℕ → List ℕ → List ℕ → Option (List Held)
walk zero off i t = none
walk (suc f) off i t =
    pick (eqb (head_at i).size 0)
    (pick (zeroes i && zeroes t) (some []) none)
    (cons_to (head_fits off (head_at i) (length t)) (held_of i t)
    (walk f (off + (head_at i).len) (drop (head_at i).size i) (drop (head_at i).len t)))

-- "No party has a UUID twice."
abbrev pub guarded : Option (List Held) → Option (List Held)
guarded none = none
guarded (some hs) = pick (distinct hs) (some hs) none

-- the lines of an index behind the shares, and of a text; none where they are not those of a sound store (19)
unfoldable pub decode : List ℕ → List ℕ → Option (List Held)
decode i t = pick (leb (length i) index_max && leb (length t) text_max) (guarded (walk (suc (length i)) 0 i t)) none

-- ---- shares, P10

-- a share of owner o stands at the front: "kind 4, that byte, share (2)"; "share 0 has no record"
unfoldable pub is_share_of : ℕ → List ℕ → Bool
is_share_of o i = leb 4 (length i) && (eqb (get_or i 0 0) 4 && (eqb (get_or i 1 0) o && leb 1 (word i 2)))

-- P12: "A share over 65535, and no other, has, [..] kind 6, the owner byte and four bytes of share."
unfoldable pub is_long_share_of : ℕ → List ℕ → Bool
is_long_share_of o i =
    leb 6 (length i) && (eqb (get_or i 0 0) 6 && (eqb (get_or i 1 0) o && is_long (word4 i 2)))

-- the share of owner o that stands at the front; 0 where there is none
unfoldable pub front_share : ℕ → List ℕ → ℕ
front_share o i = pick (is_share_of o i) (word i 2) (pick (is_long_share_of o i) (word4 i 2) 0)

-- shares by owner, and the index behind their records
pub record Fronted : Type 0 where
  pub shares : List ℕ
  pub rest : List ℕ

abbrev pub and_share : ℕ → Fronted → Fronted
and_share b f = record { shares = b ∷ f.shares; rest = f.rest }

-- "These stand first, by owner; share 0 has no record.": the shares of k parties from owner o on. A record out of order,
-- doubled or of share 0 stays in the rest, which then holds no line's record there: 19
unfoldable pub shares_at : ℕ → ℕ → List ℕ → Fronted
shares_at zero o i = record { shares = []; rest = i }
shares_at (suc k) o i =
    and_share (front_share o i) (shares_at k (suc o) (drop (share_size (front_share o i)) i))

abbrev pub fronted : List ℕ → Fronted
fronted i = shares_at owners 0 i

abbrev pub with_lines : List ℕ → Option (List Held) → Option Content
with_lines s none = none
with_lines s (some hs) = some (record { shares = s; held = hs })

-- the shares and the lines of a sound store, and none of another one (19); "An index or text over" the limit "is 19"
unfoldable pub content : List ℕ → List ℕ → Option Content
content i t = pick (leb (length i) index_max) (with_lines (fronted i).shares (decode (fronted i).rest t)) none

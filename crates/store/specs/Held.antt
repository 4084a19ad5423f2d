-- Lines held by party and UUID, and the limits of a store (document 01, 'Records' and 'Store'; document 02, P6, P9 and P12).
-- Public contracts rest on these definitions; they assume nothing.
use Rattle.std.specs.Prelude.{Bool, true, false, not, ◌&&◌, ◌||◌, List, [], ◌∷◌, ◌++◌, ℕ, eqb, ltb}
use Rattle.std.proofs.Math.Option.{Option, none, some}
use Rattle.text.specs.declared.uuid.Uuid.{Uuid}
use Rattle.text.specs.Bytes.{pick}
use Rattle.store.specs.declared.parties.Key as declared

-- P12: "The text may have 16777216 bytes and the index 1048576", of "two lent buffers, index and text"
abbrev pub index_max : ℕ
index_max = 1048576

abbrev pub text_max : ℕ
text_max = 16777216

-- P6: "The line limit goes from 4096 to 16384": of "each length from 1 to 4096" and "wanted line over 4096 bytes"
abbrev pub line_max : ℕ
line_max = 16384

-- the limits of a store as one value: the most bytes of a line, an index and a text
pub record Limits : Type 0 where
  pub line : ℕ
  pub index : ℕ
  pub text : ℕ

-- those of this hub
abbrev pub current : Limits
current = record { line = line_max; index = index_max; text = text_max }

-- P12: "A line whose offset exceeds 65535", "a share over 65535": the greatest number that a short record holds
abbrev pub short_max : ℕ
short_max = 65535

abbrev pub is_long : ℕ → Bool
is_long x = ltb short_max x

-- P9: "a record being 21 bytes for the hall and 22 for an organiser"; owner 0 is the hall. P12: with a four-byte offset
-- "23 or 24 bytes in all"
abbrev pub size_by : ℕ → Bool → ℕ
size_by o long = pick long (pick (eqb o 0) 23 24) (pick (eqb o 0) 21 22)

-- of a line at that offset
abbrev pub record_size : ℕ → ℕ → ℕ
record_size o off = size_by o (is_long off)

-- what a line is held under, P9: "keeps its lines by party and UUID"
abbrev pub Key : Type 0
Key = declared.Key

abbrev pub key_by : ℕ → Uuid → Key
key_by o u = record { owner = o; uuid = u }

unfoldable pub same_key : Key → Key → Bool
same_key a b =
    eqb a.owner b.owner && (eqb a.uuid.high b.uuid.high && eqb a.uuid.low b.uuid.low)

-- "a list of lines, each under its" party and UUID
pub record Held : Type 0 where
  pub key : Key
  pub line : List ℕ

-- P9: "every line held but the caller's own of that UUID": any line under that key struck out
unfoldable pub strike : Key → List Held → List Held
strike k [] = []
strike k (h ∷ hs) = pick (same_key k h.key) (strike k hs) (h ∷ strike k hs)

-- "Filing strikes out any line under that UUID" of the same party "and writes the new one last."
unfoldable pub file : Held → List Held → List Held
file h hs = strike h.key hs ++ (h ∷ [])

-- the line held under a key, if there is one
unfoldable pub find : Key → List Held → Option (List ℕ)
find k [] = none
find k (h ∷ hs) = pick (same_key k h.key) (some h.line) (find k hs)

-- a line is held under that key
unfoldable pub holds : Key → List Held → Bool
holds k [] = false
holds k (h ∷ hs) = same_key k h.key || holds k hs

-- P9: "No party has a UUID twice."
unfoldable pub distinct : List Held → Bool
distinct [] = true
distinct (h ∷ hs) = not (holds h.key hs) && distinct hs

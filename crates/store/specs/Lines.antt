-- The lines of an inserted text, and which are wanted (document 01, 'Store').
-- Public contracts rest on these definitions; they assume nothing.
use Rattle.std.specs.Prelude.{Bool, true, ◌&&◌, List, [], ◌∷◌, ℕ, ◌+◌, eqb, length, get_or, drop, Option, None}
use Rattle.text.specs.Bytes.{pick, byte, ascii, same}
use Rattle.text.specs.Uuid.{uuid_of}
use Rattle.line.specs.Fields.{before, first_field}
use Rattle.text.specs.Search.{first_text, platform_key, lf}
use Rattle.text.specs.declared.uuid.Spelled.{Spelled}

-- the byte that may stand before a line's end
abbrev pub cr : ℕ
cr = byte "\r"

-- "Insert cuts the text at LF, dropping one CR before it; a final bare CR stays, and nothing after a final LF is
-- no line."
unfoldable pub lines_of : List ℕ → List (List ℕ)
lines_of [] = []
lines_of (b ∷ s) =
    pick (eqb b lf) ([] ∷ lines_of s)
    (pick (eqb b cr && eqb (get_or s 0 0) lf) (lines_of s)
    (before b (lines_of s)))

-- the platform of the hub
abbrev pub platform : List ℕ
platform = ascii "Linux"

-- "the first `platform:` anywhere in it, if any, is followed by exactly `Linux` up to a comma or the end"
unfoldable pub for_platform : List ℕ → Bool
for_platform l =
    pick (eqb (first_text platform_key l) (length l)) true
    (same (first_field (drop (first_text platform_key l + length platform_key) l)) platform)

-- "and its first field is a UUID (so not `xinput`)": the UUID of a wanted line; None: the line isn't wanted
unfoldable pub wanted : List ℕ → Option Spelled
wanted l = pick (for_platform l) (uuid_of (first_field l)) None

-- A code in a list of a pad's codes.
-- Public contracts rest on these definitions; they assume nothing.
use Rattle.std.specs.Prelude.{ℕ, Bool, List, ltb, length}
use Rattle.text.specs.Bytes.{first_of}
use Rattle.line.specs.declared.ev.Code.{Code}

-- "a code's first place in its list", or the list's length where it has none
abbrev pub place_of : Code → List ℕ → ℕ
place_of c codes = first_of c.0 codes

abbrev pub in_list : Code → List ℕ → Bool
in_list c codes = ltb (place_of c codes) (length codes)

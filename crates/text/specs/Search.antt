-- A text sought in another (document 01, 'Store', and its refusal 22).
-- Public contracts rest on these definitions; they assume nothing.
use Rattle.std.specs.Prelude.{ℕ, suc, Bool, List, [], ◌∷◌, length, take}
use Rattle.text.specs.Bytes.{pick, byte, ascii, same}

-- a text begins with p
abbrev pub begins_text : List ℕ → List ℕ → Bool
begins_text p s = same (take (length p) s) p

-- the place of the first p in a text, or the text's length where it has none
unfoldable pub first_text : List ℕ → List ℕ → ℕ
first_text p [] = 0
first_text p (b ∷ s) = pick (begins_text p (b ∷ s)) 0 (suc (first_text p s))

-- "the first `platform:` anywhere in it"
abbrev pub platform_key : List ℕ
platform_key = ascii "platform:"

-- "cuts the text at LF"
abbrev pub lf : ℕ
lf = byte "\n"

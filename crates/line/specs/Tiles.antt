-- The fields of a line tile it: the theorem `tiles` in ../proofs/TileLaws.antt.
-- The theorem rests on these definitions; they assume nothing.
use Rattle.std.specs.Prelude.{ℕ, ◌≡◌, List, [], ◌∷◌, ◌++◌, eqb}
use Rattle.text.specs.Bytes.{pick, byte}
use Rattle.line.specs.Fields.{fields_of}

-- fields, each with a comma after it
unfoldable pub tiled : List (List ℕ) → List ℕ
tiled [] = []
tiled (f ∷ fs) = f ++ byte "," ∷ tiled fs

-- a line with a comma at its end: one is added where a line that isn't empty has none there
unfoldable pub closed : List ℕ → List ℕ
closed [] = []
closed (b ∷ []) = pick (eqb b (byte ",")) (byte "," ∷ []) (b ∷ byte "," ∷ [])
closed (b ∷ c ∷ s) = b ∷ closed (c ∷ s)

-- "(up to a comma or the end)": no byte is lost and none is in two fields
abbrev pub Tiles : Type 0
Tiles = (s : List ℕ) → tiled (fields_of s) ≡ closed s

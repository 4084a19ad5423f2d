-- The fields of a line, and how it is cut (document 01, 'Walker').
-- Public contracts rest on these definitions; they assume nothing.
use Rattle.std.specs.Prelude.{ℕ, suc, ◌+◌, ◌-◌, List, [], ◌∷◌, eqb, take, drop}
use Rattle.text.specs.Bytes.{pick, byte, first_of}

-- the place of the first b at or after p, or the length
abbrev pub find_from : ℕ → List ℕ → ℕ → ℕ
find_from b s p = p + first_of b (drop p s)

-- how often b stands in a list
unfoldable pub count_of : ℕ → List ℕ → ℕ
count_of b [] = 0
count_of b (x ∷ s) = pick (eqb x b) (suc (count_of b s)) (count_of b s)

-- the part of s from p to e
abbrev pub field : List ℕ → ℕ → ℕ → List ℕ
field s p e = take (e - p) (drop p s)

-- a byte before the first of the texts
abbrev pub before : ℕ → List (List ℕ) → List (List ℕ)
before b [] = (b ∷ []) ∷ []
before b (f ∷ fs) = (b ∷ f) ∷ fs

-- the texts between commas; nothing after a final comma is no field
unfoldable pub fields_of : List ℕ → List (List ℕ)
fields_of [] = []
fields_of (b ∷ s) = pick (eqb b (byte ",")) ([] ∷ fields_of s) (before b (fields_of s))

-- "First field (up to a comma or the end)"
abbrev pub first_field : List ℕ → List ℕ
first_field s = take (first_of (byte ",") s) s

-- the fields after the first comma: the name, where there is one, and the pairs
abbrev pub later_fields : List ℕ → List (List ℕ)
later_fields s = fields_of (drop (first_of (byte ",") s + 1) s)

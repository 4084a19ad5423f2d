-- Parts of a text. Public contracts rest on these definitions; they assume nothing.
use Rattle.std.specs.Prelude.{ℕ, Bool, true, List, [], ◌∷◌, take, drop, eqb}
use Rattle.text.specs.Bytes.{byte, first_of}

-- what stands before the first b, or all
abbrev pub before_of : ℕ → List ℕ → List ℕ
before_of b s = take (first_of b s) s

-- what stands after the first b, or nothing
abbrev pub after_of : ℕ → List ℕ → List ℕ
after_of b s = drop 1 (drop (first_of b s) s)

abbrev pub word_of : List ℕ → List ℕ
word_of = before_of (byte " ")

abbrev pub rest_of : List ℕ → List ℕ
rest_of = after_of (byte " ")

-- a line is empty, or a comment
abbrev pub has_no_case : List ℕ → Bool
has_no_case [] = true
has_no_case (b ∷ s) = eqb b (byte "#")

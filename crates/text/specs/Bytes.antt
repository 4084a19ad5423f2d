-- Bytes: characters as bytes, texts compared and searched, and a text written into a lent buffer.
-- Public contracts rest on these definitions; they assume nothing.
use Rattle.std.specs.Prelude.{ℕ, suc, ◌+◌, ◌≡◌, Bool, true, false, ◌&&◌, List, [], ◌∷◌, ◌++◌, eqb, leb, length, take, drop, Option, Some, None}
use Prim.Native.Char.{Char, code}
use Prim.Native.String.{String, [] as []ᵗ, ◌∷◌ as ◌∷ᵗ◌}

-- the first where the test holds, else the second
abbrev pub pick : {A : Type 0} → Bool → A → A → A
pick true a b = a
pick false a b = b

-- both tests hold: the word for `&&` in laws
abbrev pub both : Bool → Bool → Bool
both a b = a && b

-- the byte of an ASCII character: byte "," is 44
abbrev pub byte : Char → ℕ
byte c = code c

-- the bytes of an ASCII text
abbrev pub ascii : String → List ℕ
ascii []ᵗ = []
ascii (c ∷ᵗ s) = code c ∷ ascii s

-- the two texts have the same bytes
unfoldable pub same : List ℕ → List ℕ → Bool
same [] [] = true
same [] (y ∷ ys) = false
same (x ∷ xs) [] = false
same (x ∷ xs) (y ∷ ys) = eqb x y && same xs ys

-- the place of the first b in a text, or the text's length where it has none
unfoldable pub first_of : ℕ → List ℕ → ℕ
first_of b [] = 0
first_of b (x ∷ s) = pick (eqb x b) 0 (suc (first_of b s))

-- the buffer l with the text v from place `at` on, the other bytes as they were
unfoldable pub written : List ℕ → ℕ → List ℕ → List ℕ
written l at v = take at l ++ (v ++ drop (at + length v) l)

-- len bytes fit from place `at` on into a buffer of room bytes
abbrev pub fits_at : ℕ → ℕ → ℕ → Bool
fits_at room at len = leb (at + len) room

-- writing v into l at a place, the answer: the place after its last byte, or too short
unfoldable pub write_answer : List ℕ → ℕ → List ℕ → Option ℕ
write_answer l at v = pick (fits_at (length l) at (length v)) (Some (at + length v)) None

-- writing v into l at a place, the buffer after it: unchanged where it is too short
unfoldable pub write_buffer : List ℕ → ℕ → List ℕ → List ℕ
write_buffer l at v = pick (fits_at (length l) at (length v)) (written l at v) l

-- a writer's answer, and the buffer that it leaves
abbrev pub Wrote : List ℕ → ℕ → List ℕ → Option ℕ → List ℕ → Type 0
Wrote l at v answer after = (answer ≡ write_answer l at v) × (after ≡ write_buffer l at v)

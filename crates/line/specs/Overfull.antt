-- When a reading answers 11: the theorem `eleven_exactly` in ../proofs/ElevenLaws.antt.
-- The theorem rests on these definitions; they assume nothing.
use Rattle.std.specs.Prelude.{ℕ, ◌+◌, ◌<◌, ◌≤◌, ◌≡◌, true, List, [], ◌∷◌, ◌++◌, length, Some, Err}
use Rattle.text.specs.Bytes.{byte, first_of}
use Rattle.text.specs.Utf8.{is_utf8}
use Rattle.text.specs.declared.uuid.Spelled.{Spelled}
use Rattle.line.specs.declared.mapping.Entry.{Entry}
use Rattle.line.specs.Maps.{codes_max, puts_into}
use Rattle.line.specs.Fields.{first_field, later_fields}
use Rattle.line.specs.Walker.{guid_of}
use Rattle.line.specs.Effects.{effect_of, entries_of, AllGo}
use Rattle.line.specs.Refusals.{refusal_at, reading_outcome}
use Rattle.line.specs.Reading.{lists_fit, reading_of}

-- where the field after these starts, the first of them at p: each has a comma after it
unfoldable pub place_after : ℕ → List (List ℕ) → ℕ
place_after p [] = p
place_after p (f ∷ fs) = place_after (p + length f + 1) fs

-- how many unlike codes are put
abbrev pub unlike_codes : List Entry → ℕ
unlike_codes es = length (puts_into es [])

-- "257 codes in a map": of pairs, the first of them at `start`, the one at p puts the 257th unlike code. The earlier
-- ones go and put 256 unlike codes at most; it goes, and with its own there are more
pub record Overfull (start : ℕ) (pairs : List (List ℕ)) (buttons axes : List ℕ) (p : ℕ) : Type 0 where
  pub earlier : List (List ℕ)
  pub pair : List ℕ
  pub later : List (List ℕ)
  pub are : pairs ≡ earlier ++ pair ∷ later
  pub place : place_after start earlier ≡ p
  pub go : AllGo earlier buttons axes
  pub fit : unlike_codes (entries_of earlier buttons axes) ≤ codes_max
  pub goes : (effect_of pair buttons axes).goes ≡ true
  pub over : codes_max < unlike_codes (entries_of earlier buttons axes ++ (effect_of pair buttons axes).puts)

-- a line whose pairs are read: none of 10, 12, 1 and 2 comes before them, and it has a name; one of them, at p, is such
pub record PutsTooMany (s buttons axes : List ℕ) (p : ℕ) : Type 0 where
  pub utf8 : is_utf8 s ≡ true
  pub fit : lists_fit buttons axes ≡ true
  pub id : Spelled
  pub uuid : guid_of (first_field s) ≡ Some id
  pub name : List ℕ
  pub pairs : List (List ℕ)
  pub fields : later_fields s ≡ name ∷ pairs
  pub overfull : Overfull (first_of (byte ",") s + 1 + length name + 1) pairs buttons axes p

abbrev pub Says11 : List ℕ → List ℕ → List ℕ → ℕ → Type 0
Says11 s buttons axes p = reading_outcome (reading_of s buttons axes).answer ≡ Err (refusal_at 11 p)

-- "11 at p": exactly where the pair at p puts a 257th unlike code
pub record ElevenExactly (s buttons axes : List ℕ) (p : ℕ) : Type 0 where
  pub only_then : Says11 s buttons axes p → PutsTooMany s buttons axes p
  pub always_then : PutsTooMany s buttons axes p → Says11 s buttons axes p

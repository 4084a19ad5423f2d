-- What a pair puts, wherever it stands in a line (document 01, 'Reading').
-- The theorems `regrouped` and `eleven_exactly` rest on these definitions; they assume nothing.
use Rattle.std.specs.Prelude.{ℕ, ◌≡◌, List, [], ◌∷◌, ◌++◌, Bool, true, false, Result, Ok, Err}
use Rattle.line.specs.declared.parser.Error.{Error}
use Rattle.line.specs.declared.parser.Token.{Token}
use Rattle.text.specs.Bytes.{pick}
use Rattle.line.specs.declared.mapping.Entry.{Entry}
use Rattle.line.specs.Puts.{puts_of}
use Rattle.line.specs.Reading.{skips}
use Rattle.line.specs.Pairs.{pair_of}
use Rattle.line.specs.declared.reading.puts.Puts.{Puts}
use Rattle.line.specs.declared.reading.puts.Puts.TheVariants.{Nothing, Name, One, Two, UnknownHatDirection}

-- whether a pair goes, or refuses the line for itself; the entries that it puts, and the hat flags
pub record Effect : Type 0 where
  pub goes : Bool
  pub puts : List Entry
  pub flags : List ℕ

abbrev pub does : List Entry → List ℕ → Effect
does es fs = record { goes = true; puts = es; flags = fs }

abbrev pub stops : Effect
stops = record { goes = false; puts = []; flags = [] }

-- a token of a pair; "Hat 0: .. else 7" refuses the line
abbrev pub puts_effect : Puts → Effect
puts_effect Nothing = does [] []
puts_effect (Name start len) = stops
puts_effect (One e flag) = does (e ∷ []) (flag ∷ [])
puts_effect (Two e f flag) = does (e ∷ f ∷ []) (flag ∷ [])
puts_effect UnknownHatDirection = stops

-- what the walker says of a pair: "An 8 is skipped", each other refusal is the line's
unfoldable pub answer_effect : Result Token Error → List ℕ → List ℕ → Effect
answer_effect (Ok t) buttons axes = puts_effect (puts_of t 0 buttons axes)
answer_effect (Err e) buttons axes = pick (skips e.kind) (does [] []) stops

-- a pair with the two lists; what it puts does not depend on its place, so place 0 will do
abbrev pub effect_of : List ℕ → List ℕ → List ℕ → Effect
effect_of f buttons axes = answer_effect (pair_of f 0) buttons axes

-- all that pairs put, one after the other: a hat's two entries among them
unfoldable pub entries_of : List (List ℕ) → List ℕ → List ℕ → List Entry
entries_of [] buttons axes = []
entries_of (f ∷ fs) buttons axes = (effect_of f buttons axes).puts ++ entries_of fs buttons axes

-- none of the pairs is refused for itself
unfoldable pub AllGo : List (List ℕ) → List ℕ → List ℕ → Type 0
AllGo [] buttons axes = Unit {0}
AllGo (f ∷ fs) buttons axes = ((effect_of f buttons axes).goes ≡ true) × AllGo fs buttons axes

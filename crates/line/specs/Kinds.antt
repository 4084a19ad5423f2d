-- Document 01's numbers of the walker's refusals and the cases that stand for them, one to one: `kinds_one_to_one` in
-- ../proofs/KindLaws.antt.
-- Public contracts rest on these definitions; they assume nothing.
use Rattle.std.specs.Prelude.{ℕ, ◌≡◌, List, [], ◌∷◌, map, eqb}
use Rattle.text.specs.Bytes.{pick}
use Rattle.line.specs.declared.parser.ErrorKind.{ErrorKind}
use Rattle.line.specs.declared.parser.ErrorKind.TheVariants as Ek

-- "a definition states this paper's number .. for every one of its cases": 1 to 6 and 8 to 10 are the walker's
abbrev pub kind_number : ErrorKind → ℕ
kind_number Ek.InvalidGuid = 1
kind_number Ek.UnexpectedEnd = 2
kind_number Ek.InvalidKeyValPair = 3
kind_number Ek.InvalidValue = 4
kind_number Ek.UnknownAxis = 5
kind_number Ek.UnknownButton = 6
kind_number Ek.EmptyValue = 8
kind_number Ek.InvalidParserState = 9
kind_number Ek.NotUtf8 = 10

-- the table back: the case of a number, so that a refusal is made by document 01's number
abbrev pub kind_of : ℕ → ErrorKind
kind_of n =
    pick (eqb n 1) Ek.InvalidGuid
    (pick (eqb n 2) Ek.UnexpectedEnd
    (pick (eqb n 3) Ek.InvalidKeyValPair
    (pick (eqb n 4) Ek.InvalidValue
    (pick (eqb n 5) Ek.UnknownAxis
    (pick (eqb n 6) Ek.UnknownButton
    (pick (eqb n 8) Ek.EmptyValue
    (pick (eqb n 9) Ek.InvalidParserState
    Ek.NotUtf8)))))))

abbrev pub walker_numbers : List ℕ
walker_numbers = 1 ∷ 2 ∷ 3 ∷ 4 ∷ 5 ∷ 6 ∷ 8 ∷ 9 ∷ 10 ∷ []

-- each case is that of its number, and each of the numbers comes back
pub record KindsOneToOne : Type 0 where
  pub case_back : (k : ErrorKind) → kind_of (kind_number k) ≡ k
  pub numbers_back : map (λ n. kind_number (kind_of n)) walker_numbers ≡ walker_numbers

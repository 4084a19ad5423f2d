-- Where refusals and texts lie in the line: of every step `step_placed` in ../proofs/RefusalLaws.antt, of every call of
-- a walker and of every reading `walker_placed` and `reading_placed` in ../proofs/WithinLaws.antt.
-- The theorems rest on these definitions; they assume nothing.
use Rattle.std.specs.Prelude.{ℕ, ◌+◌, ◌<◌, ◌≤◌, ◌≡◌, false, List, [], ◌∷◌, length, drop, Option, Some, None, Result, Ok, Err, ⊤}
use Rattle.std.specs.Borrow.{Bor}
use Rattle.line.specs.declared.refusal.Refusal.{Refusal}
use Rattle.line.specs.declared.parser.Error.{Error}
use Rattle.text.specs.Bytes.{byte, first_of}
use Rattle.text.specs.Utf8.{valid_run, is_utf8}
use Rattle.line.specs.declared.parser.ErrorKind.{ErrorKind}
use Rattle.line.specs.declared.parser.ErrorKind.TheVariants as Ek
use Rattle.line.specs.declared.parser.Parser.{Parser}
use Rattle.line.specs.declared.parser.State.{State}
use Rattle.line.specs.declared.parser.State.TheVariants as St
use Rattle.line.specs.declared.parser.Token.{Token}
use Rattle.line.specs.declared.parser.Token.TheVariants as Tk
use Rattle.line.specs.Fields.{find_from, field}
use Rattle.line.specs.Parser.{parser_of, step_from}
use Rattle.line.specs.Calls.{after_calls}
use Rattle.line.specs.Reading.{reading_of}
use Rattle.line.specs.Refusals.{reading_outcome}
use Rattle.line.specs.Regrouping.{In}

-- ---- a step at p of the line s
-- the field there; the value of a pair is what follows its colon
abbrev pub field_at : List ℕ → ℕ → List ℕ
field_at s p = field s p (find_from (byte ",") s p)

abbrev pub value_part : List ℕ → List ℕ
value_part f = drop (first_of (byte ":") f + 1) f

-- "gives 4 at p"; "bad H, 4 at p+1; bad D, 4 at p + (dot's place in the value) + 1"
abbrev pub four_places : ℕ → List ℕ → List ℕ
four_places p v = p ∷ (p + 1) ∷ (p + first_of (byte ".") v + 1) ∷ []

-- "1 and 2 at 0; 3, 5, 6, 8 .. at p; 4 as the walker's paragraph says; .. 9 at 0; 10 at the length of the longest valid
-- run": q is the place of such a refusal, f the field at p
unfoldable pub PlaceOf : List ℕ → List ℕ → ℕ → ErrorKind → ℕ → Type 0
PlaceOf s f p Ek.InvalidGuid q = q ≡ 0
PlaceOf s f p Ek.UnexpectedEnd q = q ≡ 0
PlaceOf s f p Ek.InvalidKeyValPair q = q ≡ p
PlaceOf s f p Ek.InvalidValue q = In q (four_places p (value_part f))
PlaceOf s f p Ek.UnknownAxis q = q ≡ p
PlaceOf s f p Ek.UnknownButton q = q ≡ p
PlaceOf s f p Ek.EmptyValue q = q ≡ p
PlaceOf s f p Ek.InvalidParserState q = q ≡ 0
PlaceOf s f p Ek.NotUtf8 q = q ≡ valid_run s

-- "with a start and a length in the line for a text": the text ends within the n bytes of the line
abbrev pub TextIn : ℕ → Token → Type 0
TextIn n (Tk.Platform start len) = start + len ≤ n
TextIn n (Tk.Name start len) = start + len ≤ n
TextIn n (Tk.Uuid u) = Unit {0}
TextIn n (Tk.AxisMapping from to ranges) = Unit {0}
TextIn n (Tk.ButtonMapping from to ranges) = Unit {0}
TextIn n (Tk.HatMapping hat direction to ranges) = Unit {0}

-- a refusal has its place, which is one of the line; a text lies within the line
abbrev pub AnswerIn : List ℕ → List ℕ → ℕ → Option (Result Token Error) → Type 0
AnswerIn s f p (Some (Ok t)) = TextIn (length s) t
AnswerIn s f p (Some (Err e)) = PlaceOf s f p e.kind e.position × (e.position < length s)
AnswerIn s f p None = Unit {0}

-- of the states in which `Parser::new` leaves a walker and to which its steps lead, NotUtf8 is that of a line that isn't
abbrev pub Stands : List ℕ → State → Type 0
Stands s St.Uuid = Unit {0}
Stands s St.Name = Unit {0}
Stands s St.KeyVal = Unit {0}
Stands s St.Invalid = Unit {0}
Stands s St.NotUtf8 = is_utf8 s ≡ false

-- a walker's next call, and every call of the walker that is made over a line
abbrev pub CallPlaced : Parser → Type 0
CallPlaced w =
    AnswerIn w.«data».now (field_at w.«data».now w.pos) w.pos (step_from w).answer

abbrev pub WalkerPlaced : Type 0
WalkerPlaced = (s : Bor (List ℕ)) (n : ℕ) → CallPlaced (after_calls n (parser_of s))

-- ---- a reading
abbrev pub PlaceIn : ℕ → Option ℕ → Type 0
PlaceIn n (Some q) = q < n
PlaceIn n None = Unit {0}

abbrev pub OutcomeIn : ℕ → Result ⊤ Refusal → Type 0
OutcomeIn n (Ok u) = Unit {0}
OutcomeIn n (Err r) = PlaceIn n r.place

-- the place of its refusal is one of the line, and so is the name of its map: "the name's start and length in the line"
pub record ReadingPlaced (s buttons axes : List ℕ) : Type 0 where
  pub refusal : OutcomeIn (length s) (reading_outcome (reading_of s buttons axes).answer)
  pub name : (reading_of s buttons axes).map.name_start + (reading_of s buttons axes).map.name_len ≤ length s

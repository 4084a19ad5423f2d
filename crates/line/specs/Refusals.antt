-- "Where an answer is an enum, a definition states this paper's number and values for every one of its cases."; and the
-- cases back from them: `reading_one_to_one` and `put_one_to_one` in ../proofs/KindLaws.antt.
-- Public contracts rest on these definitions; they assume nothing.
use Rattle.std.specs.Prelude.{ℕ, ◌≡◌, List, [], ◌∷◌, ◌++◌, map, eqb, Option, Some, None, Result, Ok, Err, ⊤}
use Rattle.line.specs.declared.mapping.MapFull.{MapFull}
use Rattle.line.specs.declared.parser.Token.{Token}
use Rattle.text.specs.Bytes.{pick}
use Rattle.line.specs.declared.ev.Code.{Code}
use Rattle.line.specs.declared.parser.Error.{Error}
use Rattle.line.specs.declared.reading.ParseSdlMappingError.{ParseSdlMappingError}
use Rattle.line.specs.declared.reading.ParseSdlMappingError.TheVariants as Pe
use Rattle.line.specs.declared.refusal.Refusal.{Refusal}
use Rattle.line.specs.Kinds.{kind_number, kind_of, walker_numbers}

-- ---- a refusal: its number, its place, and the code that it carries; an answer is a refusal, or it is none

-- a refusal with a place, one without, and one that carries a code
abbrev pub refusal_at : ℕ → ℕ → Refusal
refusal_at n p = record { number = n; place = Some p; code = None }

abbrev pub refusal : ℕ → Refusal
refusal n = record { number = n; place = None; code = None }

abbrev pub refusal_of : ℕ → Code → Refusal
refusal_of n c = record { number = n; place = None; code = Some c }

-- ---- the walker's: "1 and 2 at 0; 3, 5, 6, 8 .. at p; 4 as the walker's paragraph says; .. 9 at 0; 10 at the length
-- of the longest valid run"
abbrev pub error_refusal : Error → Refusal
error_refusal e = refusal_at (kind_number e.kind) e.position

abbrev pub answer_outcome : Option (Result Token Error) → Result ⊤ Refusal
answer_outcome (Some (Ok t)) = Ok tt
answer_outcome (Some (Err e)) = Err (error_refusal e)
answer_outcome None = Ok tt

abbrev pub last_outcome : Option Error → Result ⊤ Refusal
last_outcome (Some e) = Err (error_refusal e)
last_outcome None = Ok tt

-- ---- a put's: 11, whose place is the pair's, known to the reading
abbrev pub full_refusal : MapFull → Refusal
full_refusal f = refusal 11

abbrev pub put_outcome : Result ⊤ MapFull → Result ⊤ Refusal
put_outcome (Ok u) = Ok tt
put_outcome (Err f) = Err (full_refusal f)

-- the table back
abbrev pub put_result_of : Result ⊤ Refusal → Result ⊤ MapFull
put_result_of (Ok u) = Ok tt
put_result_of (Err r) = pick (eqb r.number 11) (Err (record {})) (Ok tt)

-- ---- a reading's: "7 at 0", 11 "at p", 12 none
abbrev pub reading_refusal : ParseSdlMappingError → Refusal
reading_refusal (Pe.ParseError e) = error_refusal e
reading_refusal Pe.UnknownHatDirection = refusal_at 7 0
reading_refusal (Pe.TooManyCodes p) = refusal_at 11 p
reading_refusal Pe.ListTooLong = refusal 12

abbrev pub reading_outcome : Result ⊤ ParseSdlMappingError → Result ⊤ Refusal
reading_outcome (Ok u) = Ok tt
reading_outcome (Err e) = Err (reading_refusal e)

-- ---- the table back: a reading's case of a refusal, so that it is made by document 01's number
abbrev pub place_told : Option ℕ → ℕ
place_told (Some p) = p
place_told None = 0

abbrev pub reading_error_of : Refusal → ParseSdlMappingError
reading_error_of r =
    pick (eqb r.number 7) Pe.UnknownHatDirection
    (pick (eqb r.number 11) (Pe.TooManyCodes (place_told r.place))
    (pick (eqb r.number 12) Pe.ListTooLong
    (Pe.ParseError (record { kind = kind_of r.number; position = place_told r.place }))))

-- a reading's refusals, those with a place at p
abbrev pub reading_refusals : ℕ → List Refusal
reading_refusals p =
    map (λ n. refusal_at n p) walker_numbers ++ (refusal_at 7 0 ∷ refusal_at 11 p ∷ refusal 12 ∷ [])

pub record PutOneToOne : Type 0 where
  pub case_back : (r : Result ⊤ MapFull) → put_result_of (put_outcome r) ≡ r
  pub refusal_back : put_outcome (put_result_of (Err (refusal 11))) ≡ Err (refusal 11)

pub record ReadingOneToOne : Type 0 where
  pub case_back : (e : ParseSdlMappingError) → reading_error_of (reading_refusal e) ≡ e
  pub refusals_back : (p : ℕ) → map (λ r. reading_refusal (reading_error_of r)) (reading_refusals p) ≡ reading_refusals p

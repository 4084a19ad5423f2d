-- The tables between document 01's numbers and the cases of the walker and of a reading are one to one: each case
-- computes. Assumes nothing.
use Rattle.std.specs.Prelude.{Result, Ok, Err, ⊤}
use Prim.Native.Nat.{ℕ}
use mathlib.Core.Path.{◌≡◌, refl}
use Rattle.line.specs.declared.mapping.MapFull.{MapFull}
use Rattle.line.specs.declared.parser.ErrorKind.{ErrorKind}
use Rattle.line.specs.declared.parser.ErrorKind.TheVariants as Ek
use Rattle.line.specs.declared.reading.ParseSdlMappingError.{ParseSdlMappingError}
use Rattle.line.specs.declared.reading.ParseSdlMappingError.TheVariants as Pe
use Rattle.line.specs.Kinds.{kind_number, kind_of, KindsOneToOne}
use Rattle.line.specs.Refusals.{refusal_at, put_outcome, put_result_of, PutOneToOne, reading_refusal, reading_error_of}
use Rattle.line.specs.Refusals.{ReadingOneToOne}

kind_back : (k : ErrorKind) → kind_of (kind_number k) ≡ k
kind_back Ek.InvalidGuid = refl
kind_back Ek.UnexpectedEnd = refl
kind_back Ek.InvalidKeyValPair = refl
kind_back Ek.InvalidValue = refl
kind_back Ek.UnknownAxis = refl
kind_back Ek.UnknownButton = refl
kind_back Ek.EmptyValue = refl
kind_back Ek.InvalidParserState = refl
kind_back Ek.NotUtf8 = refl

pub kinds_one_to_one : KindsOneToOne
kinds_one_to_one = record { case_back = kind_back; numbers_back = refl }

walker_back : (k : ErrorKind) (p : ℕ)
    → reading_error_of (refusal_at (kind_number k) p) ≡ Pe.ParseError (record { kind = k; position = p })
walker_back Ek.InvalidGuid p = refl
walker_back Ek.UnexpectedEnd p = refl
walker_back Ek.InvalidKeyValPair p = refl
walker_back Ek.InvalidValue p = refl
walker_back Ek.UnknownAxis p = refl
walker_back Ek.UnknownButton p = refl
walker_back Ek.EmptyValue p = refl
walker_back Ek.InvalidParserState p = refl
walker_back Ek.NotUtf8 p = refl

error_back : (e : ParseSdlMappingError) → reading_error_of (reading_refusal e) ≡ e
error_back (Pe.ParseError e) = walker_back e.kind e.position
error_back Pe.UnknownHatDirection = refl
error_back (Pe.TooManyCodes p) = refl
error_back Pe.ListTooLong = refl

pub reading_one_to_one : ReadingOneToOne
reading_one_to_one = record { case_back = error_back; refusals_back = λ p. refl }

put_back : (r : Result ⊤ MapFull) → put_result_of (put_outcome r) ≡ r
put_back (Ok u) = refl
put_back (Err f) = refl

pub put_one_to_one : PutOneToOne
put_one_to_one = record { case_back = put_back; refusal_back = refl }

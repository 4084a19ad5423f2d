-- Answers of the walker as numbers at the C boundary.
-- The contracts of the exports rest on these definitions; they assume nothing.
use Rattle.std.specs.Prelude.{ℕ, false, eqb, Option, Some, None, Result, Ok, Err, ⊤}
use Rattle.text.specs.Bytes.{pick}
use Rattle.text.specs.declared.uuid.Uuid.{Uuid}
use Rattle.line.specs.declared.ev.AxisOrBtn.{AxisOrBtn}
use Rattle.line.specs.declared.parser.AxisRange.{AxisRange}
use Rattle.line.specs.declared.parser.AxisRange.TheVariants as Ar
use Rattle.line.specs.declared.parser.Ranges.{Ranges}
use Rattle.line.specs.declared.parser.State.{State}
use Rattle.line.specs.declared.parser.State.TheVariants as St
use Rattle.line.specs.declared.parser.Token.{Token}
use Rattle.line.specs.declared.parser.Token.TheVariants as Tk
use Rattle.line.specs.declared.parser.Error.{Error}
use Rattle.line.specs.declared.parser.Stepped.{Stepped}
use Rattle.line.specs.declared.refusal.Refusal.{Refusal}
use Rattle.line.specs.declared.parser.tokens.Tokens.{Tokens}
use Rattle.line.specs.Refusals.{error_refusal, last_outcome}
use Rattle.exports.specs.declared.flat_token.FlatPair.{FlatPair}
use Rattle.exports.specs.declared.flat_token.FlatToken.{FlatToken}
use Rattle.exports.specs.declared.parser_calls.FlatStep.{FlatStep}
use Rattle.exports.specs.declared.parser_calls.FlatTokens.{FlatTokens}
use Rattle.exports.specs.Flat.{flat_element, flat_outcome}

abbrev pub range_number : AxisRange → ℕ
range_number Ar.LowerHalf = 0
range_number Ar.UpperHalf = 1
range_number Ar.Full = 2

-- a number over 2 is read as full
unfoldable pub range_in : ℕ → AxisRange
range_in n = pick (eqb n 0) Ar.LowerHalf (pick (eqb n 1) Ar.UpperHalf Ar.Full)

abbrev pub state_number : State → ℕ
state_number St.Uuid = 0
state_number St.Name = 1
state_number St.KeyVal = 2
state_number St.Invalid = 3
state_number St.NotUtf8 = 4

-- a number that no state has is read as the state after a 1 or 2
unfoldable pub state_in : ℕ → State
state_in n =
    pick (eqb n 0) St.Uuid (pick (eqb n 1) St.Name (pick (eqb n 2) St.KeyVal (pick (eqb n 4) St.NotUtf8 St.Invalid)))

abbrev pub flat_pair : ℕ → ℕ → AxisOrBtn → Ranges → FlatPair
flat_pair from direction to r =
    record {
      from = from;
      direction = direction;
      to = flat_element to;
      input = range_number r.input;
      output = range_number r.output;
      inverted = r.inverted;
    }

abbrev pub no_pair : FlatPair
no_pair =
    record {
      from = 0;
      direction = 0;
      to = record { is_axis = false; number = 0 };
      input = 0;
      output = 0;
      inverted = false;
    }

abbrev pub token_of : ℕ → Result ⊤ Refusal → Uuid → ℕ → ℕ → FlatPair → FlatToken
token_of kind o id start len pair =
    record { kind = kind; refusal = flat_outcome o; id = id; start = start; len = len; pair = pair }

abbrev pub no_uuid_of : Uuid
no_uuid_of = record { high = 0; low = 0 }

abbrev pub bare_token : ℕ → FlatToken
bare_token kind = token_of kind (Ok tt) no_uuid_of 0 0 no_pair

abbrev pub text_token : ℕ → ℕ → ℕ → FlatToken
text_token kind start len = token_of kind (Ok tt) no_uuid_of start len no_pair

abbrev pub pair_token : ℕ → FlatPair → FlatToken
pair_token kind pair = token_of kind (Ok tt) no_uuid_of 0 0 pair

-- the kinds: 0 end, 1 refused, 2 UUID, 3 platform, 4 name, 5 axis, 6 button, 7 hat
abbrev pub flat_token : Token → FlatToken
flat_token (Tk.Uuid u) = token_of 2 (Ok tt) u 0 0 no_pair
flat_token (Tk.Platform start len) = text_token 3 start len
flat_token (Tk.Name start len) = text_token 4 start len
flat_token (Tk.AxisMapping from to r) = pair_token 5 (flat_pair from 0 to r)
flat_token (Tk.ButtonMapping from to r) = pair_token 6 (flat_pair from 0 to r)
flat_token (Tk.HatMapping hat direction to r) = pair_token 7 (flat_pair hat direction to r)

abbrev pub flat_answer : Option (Result Token Error) → FlatToken
flat_answer (Some (Ok t)) = flat_token t
flat_answer (Some (Err e)) = token_of 1 (Err (error_refusal e)) no_uuid_of 0 0 no_pair
flat_answer None = bare_token 0

abbrev pub flat_step : Stepped → FlatStep
flat_step s = record { token = flat_answer s.answer; pos = s.pos; state = state_number s.state }

abbrev pub flat_tokens : Tokens → FlatTokens
flat_tokens t = record { count = t.count; last = flat_outcome (last_outcome t.last) }

-- What a walker answers call after call once it has stopped: the theorem `stopped_walker`; and the form of what its first
-- call hands on: the theorem `form_of_first`.
-- The theorems rest on these definitions; they assume nothing.
use Rattle.std.specs.Prelude.{ℕ, zero, suc, ◌≡◌, false, List, Option, Some, None, Result, Ok, Err, ⊤}
use Rattle.std.specs.Borrow.{Bor}
use Rattle.text.specs.declared.uuid.Form.{Form}
use Rattle.line.specs.declared.refusal.Refusal.{Refusal}
use Rattle.line.specs.declared.parser.Error.{Error}
use Rattle.line.specs.declared.parser.Token.{Token}
use Rattle.text.specs.Utf8.{valid_run, is_utf8}
use Rattle.line.specs.declared.parser.Parser.{Parser}
use Rattle.line.specs.declared.parser.Token.TheVariants as Tk
use Rattle.line.specs.Fields.{first_field}
use Rattle.line.specs.Parser.{parser_of, step_from, moved}
use Rattle.line.specs.Refusals.{refusal_at, answer_outcome}
use Rattle.line.specs.Walker.{guid_of, form_in, first_form}

-- a walker after so many calls
unfoldable pub after_calls : ℕ → Parser → Parser
after_calls zero p = p
after_calls (suc n) p = after_calls n (moved p)

-- what call number n says, counted from 0
abbrev pub saying_of : ℕ → Parser → Result ⊤ Refusal
saying_of n p = answer_outcome (step_from (after_calls n p)).answer

-- of the walker that is made over a line
pub record StoppedWalker (s : Bor (List ℕ)) : Type 0 where
  -- "One made over a line that isn't UTF-8 gives 10 on every call."
  pub every_10 : is_utf8 s.now ≡ false → (n : ℕ) → saying_of n (parser_of s) ≡ Err (refusal_at 10 (valid_run s.now))
  -- "After either, each further call gives 9": after 1, and after 2
  pub after_1 : saying_of 0 (parser_of s) ≡ Err (refusal_at 1 0) → (n : ℕ)
      → saying_of (suc n) (parser_of s) ≡ Err (refusal_at 9 0)
  pub after_2 : saying_of 0 (parser_of s) ≡ Err (refusal_at 2 0) → (n : ℕ)
      → saying_of (suc n) (parser_of s) ≡ Err (refusal_at 9 0)

-- ---- request P11: "`xinput` in the walker counts as a fifth"

-- a form, where a UUID is handed on
abbrev pub where_uuid : Option (Result Token Error) → Option Form → Option Form
where_uuid (Some (Ok (Tk.Uuid u))) f = f
where_uuid (Some (Ok (Tk.Platform start len))) f = None
where_uuid (Some (Ok (Tk.Name start len))) f = None
where_uuid (Some (Ok (Tk.AxisMapping from to ranges))) f = None
where_uuid (Some (Ok (Tk.ButtonMapping from to ranges))) f = None
where_uuid (Some (Ok (Tk.HatMapping hat direction to ranges))) f = None
where_uuid (Some (Err e)) f = None
where_uuid None f = None

-- the theorem `form_of_first`: the form that is told of a line is the form of its first field where the walker's first
-- call hands a UUID on, and there is none where it doesn't
abbrev pub FormOfFirst : Type 0
FormOfFirst =
    (s : Bor (List ℕ))
    → first_form s.now ≡ where_uuid (step_from (parser_of s)).answer (form_in (guid_of (first_field s.now)))

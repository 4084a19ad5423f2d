-- The walker over one line, step by step on positions (document 01, 'Walker').
-- Public contracts rest on these definitions; they assume nothing.
use Rattle.std.specs.Prelude.{ℕ, ◌+◌, ◌-◌, List, eqb, ltb, length, Option, Some, None, Result, Ok}
use Rattle.text.specs.declared.uuid.Form.{Form}
use Rattle.text.specs.declared.uuid.Spelled.{Spelled}
use Rattle.line.specs.declared.parser.Error.{Error}
use Rattle.line.specs.declared.parser.Token.{Token}
use Rattle.text.specs.Bytes.{pick, byte, ascii, same, first_of}
use Rattle.text.specs.Utf8.{valid_run, is_utf8}
use Rattle.text.specs.Uuid.{uuid_of}
use Rattle.text.specs.declared.uuid.Form.TheVariants as Fm
use Rattle.line.specs.declared.parser.State.{State}
use Rattle.line.specs.declared.parser.State.TheVariants as St
use Rattle.line.specs.declared.parser.Token.TheVariants as Tk
use Rattle.line.specs.declared.parser.Stepped.{Stepped}
use Rattle.line.specs.Fields.{find_from, field, first_field}
use Rattle.line.specs.Pairs.{refuse, pair_of}

-- "One made over a line that isn't UTF-8 gives 10 on every call.": the state of a walker that is made over a line
unfoldable pub start_of : List ℕ → State
start_of s = pick (is_utf8 s) St.Uuid St.NotUtf8

-- a step: its answer, and the position and state after it
abbrev pub stepped : Option (Result Token Error) → ℕ → State → Stepped
stepped a p st = record { answer = a; pos = p; state = st }

-- "`xinput` is the nil UUID, else a UUID"; request P11: "`xinput` in the walker counts as a fifth"
unfoldable pub guid_of : List ℕ → Option Spelled
guid_of s =
    pick (same s (ascii "xinput")) (Some (record { id = record { high = 0; low = 0 }; form = Fm.Xinput }))
    (uuid_of s)

-- the first field, from p to e of a line of n bytes: "else 1; then 2 if no comma follows"
abbrev pub uuid_step : Option Spelled → ℕ → ℕ → ℕ → Stepped
uuid_step None p e n = stepped (Some (refuse 1 0)) p St.Invalid
uuid_step (Some u) p e n =
    pick (eqb e n) (stepped (Some (refuse 2 0)) p St.Invalid) (stepped (Some (Ok (Tk.Uuid u.id))) (e + 1) St.Name)

-- a step before the line's end, by the state; e is the next comma or the end.
-- "Second field: the name. Then pairs"; "After either, each further call gives 9"; "gives 10 on every call"
unfoldable pub field_step_of : List ℕ → ℕ → ℕ → State → Stepped
field_step_of s p e St.Uuid = uuid_step (guid_of (field s p e)) p e (length s)
field_step_of s p e St.Name = stepped (Some (Ok (Tk.Name p (e - p)))) (e + 1) St.KeyVal
field_step_of s p e St.KeyVal = stepped (Some (pair_of (field s p e) p)) (e + 1) St.KeyVal
field_step_of s p e St.Invalid = stepped (Some (refuse 9 0)) p St.Invalid
field_step_of s p e St.NotUtf8 = stepped (Some (refuse 10 (valid_run s))) p St.NotUtf8

-- "At or past the line's end: end."
unfoldable pub step_of : List ℕ → ℕ → State → Stepped
step_of s p st = pick (ltb p (length s)) (field_step_of s p (find_from (byte ",") s p) st) (stepped None p st)

-- ---- request P11: "Which spelling of the GUID came in."

-- the form that was read, where it is a UUID
abbrev pub form_in : Option Spelled → Option Form
form_in (Some g) = Some g.form
form_in None = None

-- "`xinput` in the walker counts as a fifth": the form of a line's first token, where that is a UUID
unfoldable pub first_form : List ℕ → Option Form
first_form s =
    pick (is_utf8 s)
    (pick (eqb (first_of (byte ",") s) (length s)) None (form_in (guid_of (first_field s))))
    None

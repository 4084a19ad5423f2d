-- How values of the layers are laid out as numbers at the C boundary.
-- The contracts of the exports rest on these definitions; they assume nothing.
use Rattle.std.specs.Prelude.{ℕ, Bool, true, false, Option, Some, None, Result, Ok, Err, ⊤}
use Rattle.text.specs.Bytes.{pick}
use Rattle.text.specs.declared.uuid.Form.{Form}
use Rattle.text.specs.declared.uuid.Form.TheVariants as Fm
use Rattle.line.specs.declared.ev.Button.{Button}
use Rattle.line.specs.declared.ev.Axis.{Axis}
use Rattle.line.specs.declared.ev.AxisOrBtn.{AxisOrBtn}
use Rattle.line.specs.declared.ev.AxisOrBtn.TheVariants as El
use Rattle.line.specs.declared.ev.Code.{Code}
use Rattle.line.specs.declared.refusal.Refusal.{Refusal}
use Rattle.text.specs.declared.uuid.Spelled.{Spelled}
use Rattle.exports.specs.declared.flat.FlatRefusal.{FlatRefusal}
use Rattle.exports.specs.declared.flat.FlatWritten.{FlatWritten}
use Rattle.exports.specs.declared.flat.FlatElement.{FlatElement}
use Rattle.exports.specs.declared.text_calls.FlatUuidParse.{FlatUuidParse}
use Rattle.exports.specs.declared.text_calls.FlatIndexParse.{FlatIndexParse}
use Rattle.exports.specs.declared.line_calls.FlatCode.{FlatCode}
use Rattle.exports.specs.declared.line_calls.FlatAxis.{FlatAxis}

-- ---- text
abbrev pub flat_written : Option ℕ → FlatWritten
flat_written (Some n) = record { fits = true; next = n }
flat_written None = record { fits = false; next = 0 }

-- the forms: 1 simple, 2 with hyphens, 3 in braces, 4 after `urn:uuid:`, 5 `xinput`; 0 where there is no UUID
abbrev pub form_number : Form → ℕ
form_number Fm.Simple = 1
form_number Fm.Hyphenated = 2
form_number Fm.Braced = 3
form_number Fm.Urn = 4
form_number Fm.Xinput = 5

abbrev pub first_form_number : Option Form → ℕ
first_form_number (Some f) = form_number f
first_form_number None = 0

abbrev pub flat_uuid_parse : Option Spelled → FlatUuidParse
flat_uuid_parse (Some g) = record { valid = true; id = g.id; form = form_number g.form }
flat_uuid_parse None = record { valid = false; id = record { high = 0; low = 0 }; form = 0 }

abbrev pub flat_index_parse : Option ℕ → FlatIndexParse
flat_index_parse (Some n) = record { valid = true; number = n }
flat_index_parse None = record { valid = false; number = 0 }

-- ---- elements
abbrev pub button_in : ℕ → Button
button_in n = record { 0 = n }

abbrev pub axis_in : ℕ → Axis
axis_in n = record { 0 = n }

abbrev pub flat_element : AxisOrBtn → FlatElement
flat_element (El.Axis a) = record { is_axis = true; number = a.0 }
flat_element (El.Btn b) = record { is_axis = false; number = b.0 }

abbrev pub element_of : FlatElement → AxisOrBtn
element_of e = pick e.is_axis (El.Axis (axis_in e.number)) (El.Btn (button_in e.number))

-- a code or an axis, if there is one; else the number is 0
abbrev pub flat_code : Option Code → FlatCode
flat_code (Some c) = record { found = true; code = c.0 }
flat_code None = record { found = false; code = 0 }

abbrev pub flat_axis : Option Axis → FlatAxis
flat_axis (Some a) = record { found = true; number = a.0 }
flat_axis None = record { found = false; number = 0 }

-- ---- refusals: number 0 where nothing is refused; a place and a code that a refusal lacks are 0
abbrev pub has_place_in : Option ℕ → Bool
has_place_in (Some p) = true
has_place_in None = false

abbrev pub place_number : Option ℕ → ℕ
place_number (Some p) = p
place_number None = 0

abbrev pub has_code_in : Option Code → Bool
has_code_in (Some c) = true
has_code_in None = false

abbrev pub code_number : Option Code → ℕ
code_number (Some c) = c.0
code_number None = 0

abbrev pub no_refusal : FlatRefusal
no_refusal = record { number = 0; has_place = false; place = 0; has_code = false; code = 0 }

abbrev pub flat_outcome : Result ⊤ Refusal → FlatRefusal
flat_outcome (Ok tt) = no_refusal
flat_outcome (Err r) =
    record {
      number = r.number;
      has_place = has_place_in r.place;
      place = place_number r.place;
      has_code = has_code_in r.code;
      code = code_number r.code;
    }

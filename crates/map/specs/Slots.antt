-- The slots (document 01, 'Records'): "one optional code per button and per axis; insert and remove hand back
-- the former one".
-- Public contracts rest on these definitions; they assume nothing.
use Rattle.std.specs.Prelude.{ℕ, Bool, true, false, List, Option, Some, None, ltb, get_or, set, replicate}
use Rattle.text.specs.Bytes.{pick}
use Rattle.line.specs.declared.ev.Code.{Code}
use Rattle.line.specs.declared.ev.Button.{Button}
use Rattle.line.specs.declared.ev.Axis.{Axis}
use Rattle.map.specs.declared.mapping_data.MappingData.{MappingData}

-- "A button number over 19 or an axis number over 8 holds no code": the numbers below these have a slot
abbrev pub button_slots : ℕ
button_slots = 20

abbrev pub axis_slots : ℕ
axis_slots = 9

-- ---- a slot: an optional code
abbrev pub empty_slot : Option Code
empty_slot = None

-- a slot that holds that code
abbrev pub filled_with : Code → Option Code
filled_with c = Some c

-- there is a code
abbrev pub has_code_in : Option Code → Bool
has_code_in (Some c) = true
has_code_in None = false

-- `new`: no slot is filled
abbrev pub no_slots : MappingData
no_slots = record { buttons = replicate button_slots empty_slot; axes = replicate axis_slots empty_slot }

-- ---- `button` and `axis`: the code of a slot
abbrev pub code_at : ℕ → List (Option Code) → ℕ → Option Code
code_at slots xs k = pick (ltb k slots) (get_or xs k empty_slot) None

unfoldable pub button_of : MappingData → Button → Option Code
button_of d b = code_at button_slots d.buttons b.0

unfoldable pub axis_of : MappingData → Axis → Option Code
axis_of d a = code_at axis_slots d.axes a.0

-- ---- insert and remove: the former code, and the slots after it;
-- "a call with it [a number over 19 or 8] changes nothing"
abbrev pub slots_with : ℕ → List (Option Code) → ℕ → Option Code → List (Option Code)
slots_with slots xs k s = pick (ltb k slots) (set xs k s) xs

abbrev pub with_button : MappingData → Button → Option Code → MappingData
with_button d b s = record { buttons = slots_with button_slots d.buttons b.0 s; axes = d.axes }

abbrev pub with_axis : MappingData → Axis → Option Code → MappingData
with_axis d a s = record { buttons = d.buttons; axes = slots_with axis_slots d.axes a.0 s }

unfoldable pub insert_btn_of : MappingData → Code → Button → Option Code × MappingData
insert_btn_of d c b = (button_of d b, with_button d b (filled_with c))

unfoldable pub insert_axis_of : MappingData → Code → Axis → Option Code × MappingData
insert_axis_of d c a = (axis_of d a, with_axis d a (filled_with c))

unfoldable pub remove_button_of : MappingData → Button → Option Code × MappingData
remove_button_of d b = (button_of d b, with_button d b empty_slot)

unfoldable pub remove_axis_of : MappingData → Axis → Option Code × MappingData
remove_axis_of d a = (axis_of d a, with_axis d a empty_slot)

-- Slots, and the answers of the map layer, as numbers at the C boundary.
-- The contracts of the exports rest on these definitions; they assume nothing.
use Rattle.std.specs.Prelude.{ℕ, true, false, List, map, Option, Some, None, Result, ⊤, ltb, set}
use Rattle.text.specs.Bytes.{pick}
use Rattle.line.specs.declared.ev.Code.{Code}
use Rattle.line.specs.declared.ev.Button.{Button}
use Rattle.line.specs.declared.ev.Axis.{Axis}
use Rattle.line.specs.declared.ev.AxisOrBtn.{AxisOrBtn}
use Rattle.line.specs.declared.ev.AxisOrBtn.TheVariants as El
use Rattle.map.specs.declared.error.MappingError.{MappingError}
use Rattle.line.specs.Elements.{code_of}
use Rattle.map.specs.declared.mapping_data.MappingData.{MappingData}
use Rattle.map.specs.declared.default.DefaultMap.{DefaultMap}
use Rattle.map.specs.declared.from_data.Built.{Built}
use Rattle.map.specs.Refusals.{mapping_outcome}
use Rattle.map.specs.Slots.{button_slots, axis_slots, button_of, axis_of}
use Rattle.exports.specs.declared.flat.FlatRefusal.{FlatRefusal}
use Rattle.exports.specs.declared.flat_data.FlatSlot.{FlatSlot}
use Rattle.exports.specs.declared.flat_data.FlatData.{FlatData}
use Rattle.exports.specs.declared.data_calls.FlatChanged.{FlatChanged}
use Rattle.exports.specs.declared.build_calls.FlatDefault.{FlatDefault}
use Rattle.exports.specs.declared.build_calls.FlatBuilt.{FlatBuilt}
use Rattle.exports.specs.Flat.{flat_outcome, flat_code}
use Rattle.exports.specs.FlatMaps.{flat_mapping}

-- ---- slots
abbrev pub flat_slot : Option Code → FlatSlot
flat_slot (Some c) = record { filled = true; code = c.0 }
flat_slot None = record { filled = false; code = 0 }

abbrev pub slot_in : FlatSlot → Option Code
slot_in f = pick f.filled (Some (code_of f.code)) None

unfoldable pub flat_data : MappingData → FlatData
flat_data d = record { buttons = map flat_slot d.buttons; axes = map flat_slot d.axes }

unfoldable pub data_in : FlatData → MappingData
data_in d = record { buttons = map slot_in d.buttons; axes = map slot_in d.axes }

-- ---- what an insert or a remove hands back: the former code, and the slots as they were lent, but for the one that
-- the call changes, also those that are not filled; "a call with it [a number over 19 or 8] changes nothing"
abbrev pub flat_slots_with : ℕ → List FlatSlot → ℕ → FlatSlot → List FlatSlot
flat_slots_with slots xs k s = pick (ltb k slots) (set xs k s) xs

abbrev pub flat_with_button : FlatData → Button → FlatSlot → FlatData
flat_with_button lent b s =
    record { buttons = flat_slots_with button_slots lent.buttons b.0 s; axes = lent.axes }

abbrev pub flat_with_axis : FlatData → Axis → FlatSlot → FlatData
flat_with_axis lent a s = record { buttons = lent.buttons; axes = flat_slots_with axis_slots lent.axes a.0 s }

abbrev pub flat_button_changed : FlatData → Button → Option Code × MappingData → FlatChanged
flat_button_changed lent b (former, slots) =
    record { former = flat_code former; slots = flat_with_button lent b (flat_slot (button_of slots b)) }

abbrev pub flat_axis_changed : FlatData → Axis → Option Code × MappingData → FlatChanged
flat_axis_changed lent a (former, slots) =
    record { former = flat_code former; slots = flat_with_axis lent a (flat_slot (axis_of slots a)) }

-- the same, by the kind of the element whose slot it is
abbrev pub flat_with_element : FlatData → AxisOrBtn → MappingData → FlatData
flat_with_element lent (El.Btn b) slots = flat_with_button lent b (flat_slot (button_of slots b))
flat_with_element lent (El.Axis a) slots = flat_with_axis lent a (flat_slot (axis_of slots a))

abbrev pub flat_element_changed : FlatData → AxisOrBtn → Option Code × MappingData → FlatChanged
flat_element_changed lent e (former, slots) = record { former = flat_code former; slots = flat_with_element lent e slots }

-- ---- answers
abbrev pub flat_answer : Result ⊤ MappingError → FlatRefusal
flat_answer a = flat_outcome (mapping_outcome a)

abbrev pub flat_default : DefaultMap → FlatDefault
flat_default d = record { refusal = flat_answer d.answer; map = flat_mapping d.map }

abbrev pub flat_built : Built → FlatBuilt
flat_built b = record { refusal = flat_answer b.answer; map = flat_mapping b.map; len = b.len }

-- Raw values, events and pads as numbers at the C boundary.
-- The contracts of the exports rest on these definitions; they assume nothing.
use Rattle.std.specs.Prelude.{ℕ, true, false, map, eqb, ℤ, pos, Option, Some, None}
use Rattle.text.specs.Bytes.{pick}
use Rattle.pad.specs.declared.events.Raw.{Raw}
use Rattle.pad.specs.declared.events.Raw.TheVariants as Rw
use Rattle.pad.specs.declared.events.Event.{Event}
use Rattle.pad.specs.States.{Told}
use Rattle.pad.specs.Refusals.{pad_outcome}
use Rattle.exports.specs.declared.state_calls.FlatEvent.{FlatEvent}
use Rattle.exports.specs.declared.state_calls.FlatTold.{FlatTold}
use Rattle.exports.specs.declared.pad_calls.FlatValue.{FlatValue}
use Rattle.exports.specs.declared.pad_calls.FlatEmitted.{FlatEmitted}
use Rattle.exports.specs.Flat.{flat_element, flat_outcome}

-- 1 is a button pressed, 2 the axis value v, another number a button released
unfoldable pub raw_of : ℕ → ℤ → Raw
raw_of raw v = pick (eqb raw 1) Rw.ButtonPressed (pick (eqb raw 2) (Rw.AxisValueChanged v) Rw.ButtonReleased)

abbrev pub flat_value : Option ℤ → FlatValue
flat_value (Some v) = record { found = true; value = v }
flat_value None = record { found = false; value = pos 0 }

abbrev pub flat_emitted : Option Event → FlatEmitted
flat_emitted (Some e) = record { found = true; element = flat_element e.element; value = e.value }
flat_emitted None =
    record { found = false; element = record { is_axis = false; number = 0 }; value = pos 0 }

-- ---- what a call on a pad tells: the state after it is the layer's own struct, which C programs hold too
abbrev pub flat_event : Event → FlatEvent
flat_event e = record { element = flat_element e.element; value = e.value }

unfoldable pub flat_told : Told → FlatTold
flat_told t =
    record {
      refusal = flat_outcome (pad_outcome t.answer);
      pad = t.pad;
      count = t.events.count;
      events = map flat_event t.events.list;
    }

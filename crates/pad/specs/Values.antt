-- From raw value to element value (document 02, P3).
-- Public contracts rest on these definitions; they assume nothing.
use Rattle.std.specs.Prelude.{ℕ, suc, ◌+◌, ◌-◌, ◌*◌, ◌/◌, Bool, List, eqb, ℤ, pos, negsuc, neg_ℤ, ◌-ℤ◌, Option, Some, None}
use Rattle.text.specs.Bytes.{pick}
use Rattle.line.specs.declared.ev.Code.{Code}
use Rattle.line.specs.declared.ev.AxisOrBtn.{AxisOrBtn}
use Rattle.line.specs.declared.ev.AxisOrBtn.TheVariants as El
use Rattle.line.specs.declared.parser.AxisRange.{AxisRange}
use Rattle.line.specs.declared.parser.AxisRange.TheVariants as Ar
use Rattle.line.specs.declared.parser.Ranges.{Ranges}
use Rattle.line.specs.declared.mapping.Entry.{Entry}
use Rattle.line.specs.Maps.{entry_at}
use Rattle.pad.specs.declared.events.Event.{Event}
use Rattle.pad.specs.declared.events.Raw.{Raw}
use Rattle.pad.specs.declared.events.Raw.TheVariants as Rw

-- "Raw axis value v runs from -32768 to 32767": v is an integer, pos k for k and negsuc k for -1 - k.
-- n of d, by the input: "Full input: n = v + 32768, d = 65535. Upper: a v below 0 has no value, else n = v, d = 32767.
-- Lower: a v above 0 has no value, else n = -v, d = 32768."
abbrev pub part_of : ℤ → AxisRange → Option (ℕ × ℕ)
part_of (pos k) Ar.Full = Some ((32768 + k), 65535)
part_of (negsuc k) Ar.Full = Some ((32768 - suc k), 65535)
part_of (pos k) Ar.UpperHalf = Some (k, 32767)
part_of (negsuc k) Ar.UpperHalf = None
part_of (pos k) Ar.LowerHalf = pick (eqb k 0) (Some (0, 32768)) None
part_of (negsuc k) Ar.LowerHalf = Some ((suc k), 32768)

-- "Inverted puts d - n for n."
abbrev pub turned : Bool → ℕ → ℕ → ℕ
turned inverted n d = pick inverted (d - n) n

-- "Quotients are rounded down. A button, with any output half, or an axis's upper output is n × 32767 / d. An axis's
-- lower output is the negative of n × 32768 / d. A full axis output is n × 65535 / d, less 32768."
abbrev pub output_of : AxisOrBtn → AxisRange → ℕ → ℕ → ℤ
output_of (El.Btn b) half n d = pos (n * 32767 / d)
output_of (El.Axis a) Ar.UpperHalf n d = pos (n * 32767 / d)
output_of (El.Axis a) Ar.LowerHalf n d = neg_ℤ (pos (n * 32768 / d))
output_of (El.Axis a) Ar.Full n d = pos (n * 65535 / d) -ℤ pos 32768

-- a raw axis value's: that of n of d, or no value
abbrev pub axis_value : AxisOrBtn → AxisRange → Bool → Option (ℕ × ℕ) → Option ℤ
axis_value e half inverted (Some (n, d)) = Some (output_of e half (turned inverted n d) d)
axis_value e half inverted None = None

-- "A raw button pressed gives 32767, or -32768 on a lower axis output": it looks at no input half and no inversion
abbrev pub pressed_value : AxisOrBtn → AxisRange → ℤ
pressed_value (El.Btn b) half = pos 32767
pressed_value (El.Axis a) Ar.LowerHalf = negsuc 32767
pressed_value (El.Axis a) Ar.UpperHalf = pos 32767
pressed_value (El.Axis a) Ar.Full = pos 32767

-- what a raw value gives to an element with those ranges; a raw button "released gives 0"
unfoldable pub raw_value : AxisOrBtn → Ranges → Raw → Option ℤ
raw_value e r Rw.ButtonReleased = Some (pos 0)
raw_value e r Rw.ButtonPressed = Some (pressed_value e r.output)
raw_value e r (Rw.AxisValueChanged v) = axis_value e r.output r.inverted (part_of v r.input)

-- what a raw value gives to the element of an entry
abbrev pub entry_value : Entry → Raw → Option ℤ
entry_value e raw = raw_value e.element e.ranges raw

-- ---- "A code outside the map, or a v that has no value, gives no event."
-- the event of a value: the element with it, as it stands in the map
abbrev pub emitted_of : AxisOrBtn → Option ℤ → Option Event
emitted_of el (Some v) = Some (record { element = el; value = v })
emitted_of el None = None

-- the event of an entry
abbrev pub emitted_by : Entry → Raw → Option Event
emitted_by e raw = emitted_of e.element (entry_value e raw)

-- the event of the entry of a code, if there is one
abbrev pub emitted_in : Option Entry → Raw → Option Event
emitted_in (Some e) raw = emitted_by e raw
emitted_in None raw = None

-- what a raw value of a code gives by the entries of a map: by the first entry of that code
unfoldable pub event_of : List Entry → Code → Raw → Option Event
event_of es c raw = emitted_in (entry_at es c) raw

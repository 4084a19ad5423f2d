-- A pad's state as the program holds it, and what its calls answer (document 02, P13).
-- Public contracts rest on these definitions; they assume nothing.
use Rattle.std.specs.Prelude.{ℕ, ◌+◌, ◌-◌, ◌*◌, ◌/◌, ◌%◌, List, [], ◌∷◌, ◌++◌, map, eqb, leb, ltb, length, take, drop, replicate, ℤ, pos, nat_abs, ◌+ℤ◌, ◌-ℤ◌, Option, Some, None, Result, Ok, Err, ⊤}
use Rattle.text.specs.Bytes.{pick}
use Rattle.line.specs.declared.ev.Code.{Code}
use Rattle.line.specs.declared.ev.AxisOrBtn.{AxisOrBtn}
use Rattle.line.specs.declared.ev.AxisOrBtn.TheVariants as El
use Rattle.line.specs.declared.mapping.Entry.{Entry}
use Rattle.line.specs.declared.mapping.Mapping.{Mapping}
use Rattle.line.specs.Buttons as B
use Rattle.line.specs.Elements.{code_of}
use Rattle.line.specs.Maps.{codes_max}
use Rattle.line.specs.Numbers.{code_unit, entry_number, entry_in}
use Rattle.line.specs.Maps as M
use Rattle.pad.specs.Refusals.{too_many}
use Rattle.pad.specs.declared.events.Raw.{Raw}
use Rattle.pad.specs.declared.events.Raw.TheVariants as Rw
use Rattle.pad.specs.declared.events.Held.{Held}
use Rattle.pad.specs.declared.events.Event.{Event}
use Rattle.pad.specs.declared.events.Events.{Events}
use Rattle.pad.specs.declared.state.Pad.{Pad}
use Rattle.pad.specs.declared.state.TooManyCodes.{TooManyCodes}
use Rattle.pad.specs.Pads.{held_max, element_count, place_of, value_of, values_of, changes}

-- ---- a held code as a number: its code in the upper half, its last raw value in the lower
-- a raw value as a number: 0 released, 1 pressed, from 2 on an axis value counted from -32768
abbrev pub raw_number : Raw → ℕ
raw_number Rw.ButtonReleased = 0
raw_number Rw.ButtonPressed = 1
raw_number (Rw.AxisValueChanged v) = nat_abs (v +ℤ pos 32768) + 2

-- the raw value that a number is; any number is one
abbrev pub raw_in : ℕ → Raw
raw_in y =
    pick (eqb y 0) Rw.ButtonReleased
    (pick (eqb y 1) Rw.ButtonPressed (Rw.AxisValueChanged (pos ((y - 2) % 65536) -ℤ pos 32768)))

-- a code with its last raw value as a number
abbrev pub held_number : Code → Raw → ℕ
held_number c raw = c.0 * code_unit + raw_number raw

-- the held code that a number is
unfoldable pub held_in : ℕ → Held
held_in x = record { code = code_of (x / code_unit); raw = raw_in (x % code_unit) }

-- ---- what a state holds: counts over 256 are read as 256, since there are 256 numbers
-- the held codes, in the order of their first events
abbrev pub held_of : Pad → List Held
held_of p = take p.count (map held_in p.held)

-- the entries of the current map
abbrev pub entries_of : Pad → List Entry
entries_of p = take p.entry_count (map entry_in p.entries)

-- the values of the 27 elements
abbrev pub pad_values : Pad → List ℤ
pad_values p = values_of (held_of p) (entries_of p)

-- `value` of an element: "Elements other than buttons 1 to 19 and axes 1 to 8 are left out"
unfoldable pub pad_value : Pad → AxisOrBtn → ℤ
pad_value p el = pick (ltb (place_of el) element_count) (value_of (held_of p) (entries_of p) el) (pos 0)

-- "a state with no codes and the empty map"
unfoldable pub new_pad : Pad
new_pad =
    record { count = 0; held = replicate held_max 0; entry_count = 0; entries = replicate codes_max 0 }

-- ---- what a call answers
-- what stands where no event is
abbrev pub unused_event : Event
unused_event = record { element = El.Btn B.Unknown; value = pos 0 }

-- events as the program holds them
unfoldable pub events_in : List Event → Events
events_in es = record { count = length es; list = es ++ replicate (element_count - length es) unused_event }

-- one event or none, and others after it
abbrev pub caught : Option Event → List Event → List Event
caught (Some e) es = e ∷ es
caught None es = es

-- whether the call was refused, the state after it, and the events
pub record Told : Type 0 where
  pub answer : Result ⊤ TooManyCodes
  pub pad : Pad
  pub events : Events

-- a raw event's call as it is told: it gives a refusal or at most one event, and leaves the pad p
abbrev pub told_by : Result (Option Event) TooManyCodes → Pad → Told
told_by (Ok event) p = record { answer = Ok tt; pad = p; events = events_in (caught event []) }
told_by (Err e) p = record { answer = Err e; pad = p; events = events_in [] }

-- from a state to a state: "one event per element whose value changed"
unfoldable pub told_of : Pad → Pad → Told
told_of p q = record { answer = Ok tt; pad = q; events = events_in (changes 0 (pad_values p) (pad_values q)) }

-- ---- a raw event
-- a number among those of the held codes: in the place of the first one of its code, else after all of them
unfoldable pub put_number : ℕ → List ℕ → List ℕ
put_number x [] = x ∷ []
put_number x (y ∷ ys) = pick (eqb (y / code_unit) (x / code_unit)) (x ∷ ys) (y ∷ put_number x ys)

-- p with the held codes xs, the later numbers as they were
abbrev pub with_held : Pad → List ℕ → Pad
with_held p xs =
    record {
      count = length xs;
      held = xs ++ drop (length xs) p.held;
      entry_count = p.entry_count;
      entries = p.entries;
    }

-- the numbers of the held codes after it
abbrev pub held_after_event : Pad → Code → Raw → List ℕ
held_after_event p c raw = put_number (held_number c raw) (take p.count p.held)

-- "Turned away: 27, a raw event for a 257th code, first check, state unchanged."
unfoldable pub refused_of : Pad → Told
refused_of p = record { answer = Err too_many; pad = p; events = events_in [] }

-- a raw value of a code
unfoldable pub raw_event_of : Pad → Code → Raw → Told
raw_event_of p c raw =
    pick (leb (length (held_after_event p c raw)) held_max) (told_of p (with_held p (held_after_event p c raw))) (refused_of p)

-- ---- a change of map
-- entries as numbers, and 0 up to 256 of them
unfoldable pub entry_numbers : List Entry → List ℕ
entry_numbers es = map entry_number es ++ replicate (codes_max - length es) 0

-- p with the entries of a map
abbrev pub with_map : Pad → Mapping → Pad
with_map p m =
    record {
      count = p.count;
      held = p.held;
      entry_count = length (M.held m);
      entries = entry_numbers (M.held m);
    }

-- another map, the held codes as they were
unfoldable pub change_map_of : Pad → Mapping → Told
change_map_of p m = told_of p (with_map p m)

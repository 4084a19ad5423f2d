-- What document 02, P13, promises of every list of raw events and map changes.
-- The theorems `reader_agrees`, `reader_holds` and `pad_holds` rest on these definitions; they assume nothing.
use Rattle.std.specs.Prelude.{◌≤◌, ◌<◌, ◌≡◌, Bool, true, false, not, ◌&&◌, List, [], ◌∷◌, eqb, leb, length, take, replicate, ℤ, pos, Ok, Err}
use Rattle.text.specs.Bytes.{pick}
use Rattle.line.specs.declared.ev.Code.{Code}
use Rattle.line.specs.declared.ev.AxisOrBtn.{AxisOrBtn}
use Rattle.line.specs.declared.ev.AxisOrBtn.TheVariants as El
use Rattle.line.specs.declared.mapping.Entry.{Entry}
use Rattle.line.specs.declared.mapping.Mapping.{Mapping}
use Rattle.line.specs.Maps as M
use Rattle.line.specs.Numbers.{shape_unit}
use Rattle.pad.specs.Refusals.{too_many}
use Rattle.pad.specs.declared.events.Raw.{Raw}
use Rattle.pad.specs.declared.events.Held.{Held}
use Rattle.pad.specs.declared.events.Event.{Event}
use Rattle.pad.specs.declared.events.Events.{Events}
use Rattle.pad.specs.declared.state.Pad.{Pad}
use Rattle.pad.specs.ValueClaims.{RawWithin}
use Rattle.pad.specs.Pads.{held_max, element_count, put_held, values_of, hears}
use Rattle.pad.specs.States.{held_of, entries_of, pad_values, new_pad, Told, raw_event_of, change_map_of}

-- ---- "every list of raw events and map changes"
pub data PadCall : Type 0 where
  RawEvent : Code → Raw → PadCall
  NewMap : Mapping → PadCall

-- what a call answers
abbrev pub answered : Pad → PadCall → Told
answered p (RawEvent c raw) = raw_event_of p c raw
answered p (NewMap m) = change_map_of p m

-- the state after a list of calls, refused ones among them
unfoldable pub pad_after : Pad → List PadCall → Pad
pad_after p [] = p
pad_after p (c ∷ cs) = pad_after (answered p c).pad cs

-- ---- "an outside reader of the events, starting with every element at 0"
-- the events that a call tells
abbrev pub told_events : Events → List Event
told_events e = take e.count e.list

-- what the reader holds after a list of calls
unfoldable pub heard : List ℤ → Pad → List PadCall → List ℤ
heard vs p [] = vs
heard vs p (c ∷ cs) = heard (hears vs (told_events (answered p c).events)) (answered p c).pad cs

abbrev pub zeros : List ℤ
zeros = replicate element_count (pos 0)

-- ---- the promise
-- "For every list of raw events and map changes from a state with no codes and the empty map, an outside reader of the
-- events, starting with every element at 0, holds the values worked out afresh from the held raw values under the
-- current map."
abbrev pub ReaderAgrees : Type 0
ReaderAgrees = (cs : List PadCall) → heard zeros new_pad cs ≡ pad_values (pad_after new_pad cs)

-- ---- "the held raw values under the current map", by the calls alone
-- a raw event: 27 where it were a 257th code, and nothing changes
abbrev pub held_with : Held → List Held → List Held
held_with h hs = pick (leb (length (put_held h hs)) held_max) (put_held h hs) hs

-- the codes with their last raw values
unfoldable pub held_by : List Held → List PadCall → List Held
held_by hs [] = hs
held_by hs (RawEvent c raw ∷ cs) = held_by (held_with (record { code = c; raw = raw }) hs) cs
held_by hs (NewMap m ∷ cs) = held_by hs cs

-- the entries of the last map given
unfoldable pub map_by : List Entry → List PadCall → List Entry
map_by es [] = es
map_by es (RawEvent c raw ∷ cs) = map_by es cs
map_by es (NewMap m ∷ cs) = map_by (M.held m) cs

-- ---- what every call is given: axis values and element numbers of 16 bits. The contracts of `Pad::raw_event` and
-- `Pad::change_map` say it of each argument that a program can hand over, so no call is outside of it.
-- an element's number
abbrev pub ShortElement : AxisOrBtn → Type 0
ShortElement (El.Btn b) = b.0 < shape_unit
ShortElement (El.Axis a) = a.0 < shape_unit

-- those of all entries of a map
unfoldable pub ShortAll : List Entry → Type 0
ShortAll [] = Unit {0}
ShortAll (e ∷ es) = ShortElement e.element × ShortAll es

-- every axis value and every element number of a list of calls
unfoldable pub Fitting : List PadCall → Type 0
Fitting [] = Unit {0}
Fitting (RawEvent c raw ∷ cs) = RawWithin raw × Fitting cs
Fitting (NewMap m ∷ cs) = ShortAll (M.held m) × Fitting cs

-- the promise again, with what the calls gave in the place of what the state holds
abbrev pub ReaderHolds : Type 0
ReaderHolds = (cs : List PadCall) → Fitting cs → heard zeros new_pad cs ≡ values_of (held_by [] cs) (map_by [] cs)

-- no code stands twice
abbrev pub holds_code : Code → List Held → Bool
holds_code c [] = false
holds_code c (h ∷ hs) = pick (eqb h.code.0 c.0) true (holds_code c hs)

unfoldable pub NoneTwice : List Held → Type 0
NoneTwice [] = Unit {0}
NoneTwice (h ∷ hs) = (holds_code h.code hs ≡ false) × NoneTwice hs

-- the state has those codes and those entries; "up to 256 codes", none twice
pub record PadHolds (cs : List PadCall) : Type 0 where
  pub codes : held_of (pad_after new_pad cs) ≡ held_by [] cs
  pub entries : entries_of (pad_after new_pad cs) ≡ map_by [] cs
  pub most : length (held_by [] cs) ≤ held_max
  pub once : NoneTwice (held_by [] cs)

-- "27, a raw event for a 257th code": a new code where 256 are held, and never else
abbrev pub RefusesAt256 : Type 0
RefusesAt256 =
    (p : Pad) (c : Code) (raw : Raw) → RawWithin raw → length (held_of p) ≤ held_max → (raw_event_of p c raw).answer
    ≡ pick (eqb (length (held_of p)) held_max && not (holds_code c (held_of p))) (Err too_many) (Ok tt)

-- a raw event tells one event at most
abbrev pub OneEvent : Type 0
OneEvent = (p : Pad) (c : Code) (raw : Raw) → (raw_event_of p c raw).events.count ≤ 1

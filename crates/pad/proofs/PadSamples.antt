-- A pad while a game runs, by document 02's words with the smallest input of each. All computed. Assumes nothing.
use mathlib.Core.Path.{◌≡◌, refl}
use mathlib.Core.List.{List, [], ◌∷◌}
use mathlib.Core.Bool.{false}
use Prim.Native.Nat.{ℕ}
use lib.ListN.{length}
use lib.IntN.{ℤ, pos, neg_ℤ}
use Rattle.line.specs.declared.ev.AxisOrBtn.{AxisOrBtn}
use Rattle.line.specs.declared.ev.AxisOrBtn.TheVariants as El
use Rattle.line.specs.declared.parser.AxisRange.TheVariants as Ar
use Rattle.line.specs.declared.mapping.Entry.{Entry}
use Rattle.line.specs.declared.mapping.Mapping.{Mapping}
use Rattle.line.specs.Axes as A
use Rattle.line.specs.Buttons as B
use Rattle.line.specs.Elements.{code_of}
use Rattle.line.specs.Maps.{entry_of, ranged_entry, entry_at}
use Rattle.line.specs.Numbers.{ranges_number, entry_number, shaped_entry, entry_in}
use Rattle.pad.specs.declared.events.Raw.TheVariants as Rw
use Rattle.pad.specs.declared.events.Event.{Event}
use Rattle.pad.specs.Values.{raw_value}
use Rattle.pad.specs.Pads.{choose, tabulate, changes}
use Rattle.pad.specs.States.{held_in, pad_value, new_pad, events_in, told_of, put_number, refused_of, raw_event_of}
use Rattle.pad.specs.States.{entry_numbers, change_map_of}
use Rattle.pad.specs.PadGuarantee.{PadCall, RawEvent, NewMap, answered, pad_after, told_events}

abbrev south : AxisOrBtn
south = El.Btn B.South

abbrev trigger : AxisOrBtn
trigger = El.Btn B.RightTrigger2

abbrev pub stick : AxisOrBtn
stick = El.Axis A.LeftStickX

-- a map of these entries
abbrev pub mapped : List Entry → Mapping
mapped es =
    record {
      count = length es;
      entries = es;
      name_start = 0;
      name_len = 0;
      is_default = false;
      hats_mapped = 0;
    }

abbrev pub bound : ℕ → AxisOrBtn → Entry
bound c el = entry_of (code_of c) el

abbrev press : ℕ → PadCall
press c = RawEvent (code_of c) Rw.ButtonPressed

abbrev release : ℕ → PadCall
release c = RawEvent (code_of c) Rw.ButtonReleased

abbrev pub moves : ℕ → ℤ → PadCall
moves c v = RawEvent (code_of c) (Rw.AxisValueChanged v)

-- the events of a call after others, from a fresh pad
abbrev told : List PadCall → PadCall → List Event
told cs c = told_events (answered (pad_after new_pad cs) c).events

abbrev pub tells : AxisOrBtn → ℤ → Event
tells el v = record { element = el; value = v }

abbrev pub less : ℕ → ℤ
less k = neg_ℤ (pos k)

-- ---- "Changing a map mid-game left a trigger stuck."
abbrev map_a : Mapping
map_a = mapped (bound 7 trigger ∷ [])

abbrev map_b : Mapping
map_b = mapped (bound 7 south ∷ [])

pub record StuckTrigger : Type 0 where
  pub pressed : told (NewMap map_a ∷ []) (press 7) ≡ tells trigger (pos 32767) ∷ []
  pub changed : told (NewMap map_a ∷ press 7 ∷ []) (NewMap map_b) ≡ tells south (pos 32767) ∷ tells trigger (pos 0) ∷ []
  pub released : told (NewMap map_a ∷ press 7 ∷ NewMap map_b ∷ []) (release 7) ≡ tells south (pos 0) ∷ []
  pub back : told (NewMap map_a ∷ press 7 ∷ NewMap map_b ∷ release 7 ∷ []) (NewMap map_a) ≡ []

pub stuck_trigger : StuckTrigger
unfolding pad_after raw_event_of change_map_of told_of refused_of events_in new_pad put_number held_in entry_numbers entry_number
    ranges_number entry_in shaped_entry entry_at raw_value choose tabulate changes
stuck_trigger = record { pressed = refl; changed = refl; released = refl; back = refl }

-- ---- a raw value without a value, a code outside the map: held, and the event follows
abbrev pedal : Mapping
pedal =
    mapped
    (ranged_entry (code_of 5) south (record { input = Ar.UpperHalf; output = Ar.Full; inverted = false }) ∷ [])

pub record NoValue : Type 0 where
  pub some : told (NewMap pedal ∷ []) (moves 5 (pos 100)) ≡ tells south (pos 100) ∷ []
  pub gone : told (NewMap pedal ∷ moves 5 (pos 100) ∷ []) (moves 5 (less 5)) ≡ tells south (pos 0) ∷ []
  pub outside : told [] (press 5) ≡ []
  pub later : told (press 5 ∷ []) (NewMap map_a) ≡ []
  pub mapped : told (press 7 ∷ []) (NewMap map_a) ≡ tells trigger (pos 32767) ∷ []

pub no_value_held : NoValue
unfolding pad_after raw_event_of change_map_of told_of refused_of events_in new_pad put_number held_in entry_numbers entry_number
    ranges_number entry_in shaped_entry entry_at raw_value choose tabulate changes
no_value_held = record { some = refl; gone = refl; outside = refl; later = refl; mapped = refl }

-- ---- "the farthest from zero, between equals that of the smallest code"
abbrev both_codes : Mapping
both_codes = mapped (bound 5 stick ∷ bound 9 stick ∷ [])

pub record Farthest : Type 0 where
  pub far : told (NewMap both_codes ∷ moves 5 (pos 32767) ∷ []) (moves 9 (less 32768)) ≡ tells stick (less 32768) ∷ []
  pub equal : told (NewMap both_codes ∷ moves 9 (pos 7) ∷ []) (moves 5 (less 7)) ≡ tells stick (less 7) ∷ []
  pub later : told (NewMap both_codes ∷ moves 5 (less 7) ∷ []) (moves 9 (pos 7)) ≡ []

pub farthest_first : Farthest
unfolding pad_after raw_event_of change_map_of told_of refused_of events_in new_pad put_number held_in entry_numbers entry_number
    ranges_number entry_in shaped_entry entry_at raw_value choose tabulate changes
farthest_first = record { far = refl; equal = refl; later = refl }

-- ---- one code, one raw value: the last; the same again tells nothing; elements that are left out; a rest that isn't 0
pub record OneValue : Type 0 where
  pub last : told (NewMap both_codes ∷ press 5 ∷ []) (moves 5 (pos 7)) ≡ tells stick (pos 7) ∷ []
  pub same : told (NewMap both_codes ∷ press 5 ∷ []) (press 5) ≡ []
  pub again : told (NewMap map_a ∷ press 7 ∷ []) (NewMap map_a) ≡ []
  pub unknown : told (NewMap (mapped (bound 5 (El.Btn B.Unknown) ∷ [])) ∷ []) (press 5) ≡ []
  pub rest : told (NewMap map_b ∷ []) (moves 7 (pos 0)) ≡ tells south (pos 16383) ∷ []
  pub value : pad_value (pad_after new_pad (NewMap map_b ∷ press 7 ∷ [])) south ≡ pos 32767

pub one_value : OneValue
unfolding pad_after raw_event_of change_map_of told_of refused_of events_in new_pad put_number held_in entry_numbers entry_number
    ranges_number entry_in shaped_entry entry_at raw_value choose tabulate changes pad_value
one_value = record { last = refl; same = refl; again = refl; unknown = refl; rest = refl; value = refl }

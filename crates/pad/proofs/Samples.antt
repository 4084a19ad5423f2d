-- The 90 values at the edges of each input, inverted or not, and of each output; raw buttons; codes outside a map. All
-- computed. Assumes nothing.
use Rattle.std.specs.Prelude.{Option, Some, None}
use mathlib.Core.Path.{◌≡◌, refl}
use mathlib.Core.List.{List, [], ◌∷◌, map}
use mathlib.Core.Bool.{Bool, true, false}
use Prim.Native.Nat.{ℕ}
use lib.IntN.{ℤ, pos, neg_ℤ}
use Rattle.line.specs.declared.ev.AxisOrBtn.{AxisOrBtn}
use Rattle.line.specs.declared.ev.AxisOrBtn.TheVariants as El
use Rattle.line.specs.declared.parser.AxisRange.{AxisRange}
use Rattle.line.specs.declared.parser.AxisRange.TheVariants as Ar
use Rattle.line.specs.declared.parser.Ranges.{Ranges}
use Rattle.line.specs.declared.mapping.Entry.{Entry}
use Rattle.line.specs.Axes as A
use Rattle.line.specs.Buttons as B
use Rattle.line.specs.Elements.{code_of}
use Rattle.line.specs.Maps.{ranged_entry, full_ranges, entry_at}
use Rattle.pad.specs.declared.events.Raw.TheVariants as Rw
use Rattle.pad.specs.Values.{raw_value, event_of}

abbrev edges : List ℤ
edges = neg_ℤ (pos 32768) ∷ neg_ℤ (pos 1) ∷ pos 0 ∷ pos 1 ∷ pos 32767 ∷ []

abbrev ranges : AxisRange → AxisRange → Bool → Ranges
ranges input output inverted = record { input = input; output = output; inverted = inverted }

abbrev stick : AxisOrBtn
stick = El.Axis A.LeftStickX

abbrev south : AxisOrBtn
south = El.Btn B.South

-- what the five values give
abbrev given : AxisOrBtn → Ranges → List (Option ℤ)
given el r = map (λ (v : ℤ). raw_value el r (Rw.AxisValueChanged v)) edges

abbrev is : ℕ → Option ℤ
is k = Some (pos k)

abbrev less : ℕ → Option ℤ
less k = Some (neg_ℤ (pos k))

abbrev no : Option ℤ
no = None

abbrev five : (a b c d e : Option ℤ) → List (Option ℤ)
five a b c d e = a ∷ b ∷ c ∷ d ∷ e ∷ []

-- one row of the table: a button with each output half and an axis's upper output alike, its lower, its full output
pub record Row (input : AxisRange) (inverted : Bool) (upper lower full : List (Option ℤ)) : Type 0 where
  pub button : given south (ranges input Ar.Full inverted) ≡ upper
  pub upper_button : given south (ranges input Ar.UpperHalf inverted) ≡ upper
  pub lower_button : given south (ranges input Ar.LowerHalf inverted) ≡ upper
  pub upper_axis : given stick (ranges input Ar.UpperHalf inverted) ≡ upper
  pub lower_axis : given stick (ranges input Ar.LowerHalf inverted) ≡ lower
  pub full_axis : given stick (ranges input Ar.Full inverted) ≡ full

pub full_input : Row Ar.Full false (five (is 0) (is 16383) (is 16383) (is 16384) (is 32767))
    (five (is 0) (less 16383) (less 16384) (less 16384) (less 32768))
    (five (less 32768) (less 1) (is 0) (is 1) (is 32767))
unfolding raw_value
full_input =
    record {
      button = refl;
      upper_button = refl;
      lower_button = refl;
      upper_axis = refl;
      lower_axis = refl;
      full_axis = refl;
    }

pub full_inverted : Row Ar.Full true (five (is 32767) (is 16383) (is 16383) (is 16382) (is 0))
    (five (less 32768) (less 16384) (less 16383) (less 16383) (is 0))
    (five (is 32767) (is 0) (less 1) (less 2) (less 32768))
unfolding raw_value
full_inverted =
    record {
      button = refl;
      upper_button = refl;
      lower_button = refl;
      upper_axis = refl;
      lower_axis = refl;
      full_axis = refl;
    }

pub upper_input : Row Ar.UpperHalf false (five no no (is 0) (is 1) (is 32767)) (five no no (is 0) (less 1) (less 32768))
    (five no no (less 32768) (less 32766) (is 32767))
unfolding raw_value
upper_input =
    record {
      button = refl;
      upper_button = refl;
      lower_button = refl;
      upper_axis = refl;
      lower_axis = refl;
      full_axis = refl;
    }

pub upper_inverted : Row Ar.UpperHalf true (five no no (is 32767) (is 32766) (is 0))
    (five no no (less 32768) (less 32766) (is 0)) (five no no (is 32767) (is 32764) (less 32768))
unfolding raw_value
upper_inverted =
    record {
      button = refl;
      upper_button = refl;
      lower_button = refl;
      upper_axis = refl;
      lower_axis = refl;
      full_axis = refl;
    }

pub lower_input : Row Ar.LowerHalf false (five (is 32767) (is 0) (is 0) no no) (five (less 32768) (less 1) (is 0) no no)
    (five (is 32767) (less 32767) (less 32768) no no)
unfolding raw_value
lower_input =
    record {
      button = refl;
      upper_button = refl;
      lower_button = refl;
      upper_axis = refl;
      lower_axis = refl;
      full_axis = refl;
    }

pub lower_inverted : Row Ar.LowerHalf true (five (is 0) (is 32766) (is 32767) no no)
    (five (is 0) (less 32767) (less 32768) no no) (five (less 32768) (is 32765) (is 32767) no no)
unfolding raw_value
lower_inverted =
    record {
      button = refl;
      upper_button = refl;
      lower_button = refl;
      upper_axis = refl;
      lower_axis = refl;
      full_axis = refl;
    }

-- ---- raw buttons: pressed on each output half of a button and of an axis, inverted or not; released
abbrev pressed : AxisOrBtn → AxisRange → Bool → Option ℤ
pressed el half inverted = raw_value el (ranges Ar.LowerHalf half inverted) Rw.ButtonPressed

pub pressed_buttons : map (λ (h : AxisRange). pressed south h true) (Ar.Full ∷ Ar.UpperHalf ∷ Ar.LowerHalf ∷ [])
    ≡ is 32767 ∷ is 32767 ∷ is 32767 ∷ []
unfolding raw_value
pressed_buttons = refl

pub pressed_axes : map (λ (h : AxisRange). pressed stick h true) (Ar.Full ∷ Ar.UpperHalf ∷ Ar.LowerHalf ∷ [])
    ≡ is 32767 ∷ is 32767 ∷ less 32768 ∷ []
unfolding raw_value
pressed_axes = refl

pub released : (el : AxisOrBtn) (r : Ranges) → raw_value el r Rw.ButtonReleased ≡ is 0
unfolding raw_value
released el r = refl

-- ---- a map: the first entry of a code counts, a code outside it has no event, nor has a value that isn't there
abbrev doubled : List Entry
doubled =
    ranged_entry (code_of 5) stick (ranges Ar.UpperHalf Ar.Full false)
    ∷ ranged_entry (code_of 5) south full_ranges
    ∷ ranged_entry (code_of 3) (El.Btn B.Unknown) full_ranges
    ∷ []

pub first-counts : event_of doubled (code_of 5) (Rw.AxisValueChanged (pos 1))
    ≡ Some (record { element = stick; value = neg_ℤ (pos 32766) })
unfolding event_of entry_at raw_value
first-counts = refl

pub no_value : event_of doubled (code_of 5) (Rw.AxisValueChanged (neg_ℤ (pos 1))) ≡ None
unfolding event_of entry_at raw_value
no_value = refl

pub unknown_too : event_of doubled (code_of 3) Rw.ButtonPressed
    ≡ Some (record { element = El.Btn B.Unknown; value = pos 32767 })
unfolding event_of entry_at raw_value
unknown_too = refl

pub outside : event_of doubled (code_of 4) Rw.ButtonPressed ≡ None
unfolding event_of entry_at raw_value
outside = refl

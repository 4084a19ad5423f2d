-- What document 02, P3, claims of every raw axis value.
-- The theorems `gives_back`, `never_smaller` and `within` rest on these definitions; they assume nothing.
use Rattle.std.specs.Prelude.{◌≡◌, false, ℤ, pos, negsuc, ◌≤ℤ◌, Some}
use Rattle.line.specs.declared.ev.Axis.{Axis}
use Rattle.line.specs.declared.ev.AxisOrBtn.{AxisOrBtn}
use Rattle.line.specs.declared.ev.AxisOrBtn.TheVariants as El
use Rattle.line.specs.declared.parser.AxisRange.{AxisRange}
use Rattle.line.specs.declared.parser.AxisRange.TheVariants as Ar
use Rattle.line.specs.declared.parser.Ranges.{Ranges}
use Rattle.line.specs.Maps.{full_ranges}
use Rattle.pad.specs.declared.events.Raw.{Raw}
use Rattle.pad.specs.declared.events.Raw.TheVariants as Rw
use Rattle.pad.specs.Values.{raw_value}

-- "Raw axis value v runs from -32768 to 32767", and so does each result
abbrev pub Within : ℤ → Type 0
Within v = (negsuc 32767 ≤ℤ v) × (v ≤ℤ pos 32767)

-- an axis value is within; a raw button is
abbrev pub RawWithin : Raw → Type 0
RawWithin Rw.ButtonReleased = Unit {0}
RawWithin Rw.ButtonPressed = Unit {0}
RawWithin (Rw.AxisValueChanged v) = Within v

-- "An axis full to full without inversion gives v back."
abbrev pub GivesBack : Type 0
GivesBack = (a : Axis) (v : ℤ) → Within v → raw_value (El.Axis a) full_ranges (Rw.AxisValueChanged v) ≡ Some v

-- "With full or upper input"
abbrev pub RisingInput : AxisRange → Type 0
RisingInput Ar.Full = Unit {0}
RisingInput Ar.UpperHalf = Unit {0}
RisingInput Ar.LowerHalf = ⊥

-- "and output full, upper or a button": a button with any output half
abbrev pub RisingOutput : AxisOrBtn → AxisRange → Type 0
RisingOutput (El.Btn b) half = Unit {0}
RisingOutput (El.Axis a) Ar.Full = Unit {0}
RisingOutput (El.Axis a) Ar.UpperHalf = Unit {0}
RisingOutput (El.Axis a) Ar.LowerHalf = ⊥

-- "no inversion"
abbrev pub upright : AxisRange → AxisRange → Ranges
upright input output = record { input = input; output = output; inverted = false }

-- "of two v that have a value the larger never gives a smaller result"
abbrev pub NeverSmaller : Type 0
NeverSmaller =
    (e : AxisOrBtn) (input output : AxisRange) → RisingInput input → RisingOutput e output → (v w : ℤ) → v ≤ℤ w
    → (x y : ℤ) → raw_value e (upright input output) (Rw.AxisValueChanged v) ≡ Some x
    → raw_value e (upright input output) (Rw.AxisValueChanged w) ≡ Some y → x ≤ℤ y

-- an axis's results are within; a button's besides not below 0
abbrev pub ResultWithin : AxisOrBtn → ℤ → Type 0
ResultWithin (El.Axis a) x = Within x
ResultWithin (El.Btn b) x = (pos 0 ≤ℤ x) × (x ≤ℤ pos 32767)

-- of every raw value, with every range
abbrev pub ResultsWithin : Type 0
ResultsWithin =
    (e : AxisOrBtn) (r : Ranges) (raw : Raw) → RawWithin raw → (x : ℤ) → raw_value e r raw ≡ Some x
    → ResultWithin e x

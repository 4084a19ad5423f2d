-- The lines that raw values run along: what private functions compute with. No public contract cites these.
-- Assumes nothing.
use Rattle.std.specs.Prelude.{ℕ, ◌+◌, ◌/◌, ◌%◌, ◌≤◌, ◌≡◌, Bool, List, [], ◌∷◌, get_or, ℤ, pos, negsuc, ◌+ℤ◌, ◌*ℤ◌}
use Rattle.std.specs.Prelude.{Option, unsigned_abs}
use Rattle.std.specs.Bool.{then_some}
use Rattle.std.specs.Int.{w16, cast_signed, from_bool}
use lib.Signed.{le_z}
use Rattle.line.specs.declared.ev.AxisOrBtn.{AxisOrBtn}
use Rattle.line.specs.declared.ev.AxisOrBtn.TheVariants as El
use Rattle.line.specs.declared.parser.AxisRange.{AxisRange}
use Rattle.line.specs.declared.parser.AxisRange.TheVariants as Ar
use Rattle.line.specs.declared.parser.Ranges.{Ranges}
use Rattle.pad.specs.declared.events.Raw.{Raw}
use Rattle.pad.specs.declared.events.Raw.TheVariants as Rw
use Rattle.pad.specs.declared.lines.Line.{Line}

abbrev pub input_rows : AxisRange → ℕ
input_rows Ar.Full = 0
input_rows Ar.UpperHalf = 6
input_rows Ar.LowerHalf = 12

abbrev pub half_rows : AxisRange → ℕ
half_rows Ar.Full = 0
half_rows Ar.UpperHalf = 2
half_rows Ar.LowerHalf = 4

abbrev pub output_rows : AxisOrBtn → AxisRange → ℕ
output_rows (El.Btn b) half = 2
output_rows (El.Axis a) half = half_rows half

-- a raw button asks for no input
abbrev pub raw_rows : AxisRange → Raw → ℕ
raw_rows input Rw.ButtonReleased = 18
raw_rows input Rw.ButtonPressed = 18
raw_rows input (Rw.AxisValueChanged v) = input_rows input

abbrev pub button_step : Raw → ℤ
button_step Rw.ButtonReleased = pos 0
button_step Rw.ButtonPressed = pos 32767
button_step (Rw.AxisValueChanged v) = pos 0

-- how far along its line a raw value is
abbrev pub raw_step : Raw → ℤ
raw_step Rw.ButtonReleased = pos 0
raw_step Rw.ButtonPressed = pos 32767
raw_step (Rw.AxisValueChanged v) = v

abbrev pub flat : Line
flat = record { rise = pos 0; start = pos 0; side = pos 0 }

-- inputs full, upper, lower and a raw button; of each the outputs full, upper and lower; of each upright and inverted
unfoldable pub lines : List Line
lines =
    record { rise = pos 4294967296; start = pos 562949953421312; side = pos 0 } ∷
    record { rise = negsuc 4294967295; start = pos 562945658454016; side = pos 0 } ∷
    record { rise = pos 2147450880; start = pos 633317623857152; side = pos 0 } ∷
    record { rise = negsuc 2147450879; start = pos 633315476406272; side = pos 0 } ∷
    record { rise = negsuc 2147516416; start = pos 492584430436351; side = pos 0 } ∷
    record { rise = pos 2147516417; start = pos 492586577952768; side = pos 0 } ∷
    record { rise = pos 8590065669; start = pos 422212465065984; side = pos 1 } ∷
    record { rise = negsuc 8590065668; start = pos 703683146842107; side = pos 1 } ∷
    record { rise = pos 4294967296; start = pos 562949953421312; side = pos 1 } ∷
    record { rise = negsuc 4294967295; start = pos 703683146809344; side = pos 1 } ∷
    record { rise = negsuc 4295098372; start = pos 562954248388607; side = pos 1 } ∷
    record { rise = pos 4295098373; start = pos 422216760000516; side = pos 1 } ∷
    record { rise = negsuc 8589803519; start = pos 422212465065984; side = negsuc 0 } ∷
    record { rise = pos 8589803520; start = pos 703683146809344; side = negsuc 0 } ∷
    record { rise = negsuc 4294836223; start = pos 562949953421312; side = negsuc 0 } ∷
    record { rise = pos 4294836224; start = pos 703683146809344; side = negsuc 0 } ∷
    record { rise = pos 4294967296; start = pos 562954248388607; side = negsuc 0 } ∷
    record { rise = negsuc 4294967295; start = pos 422216760033279; side = negsuc 0 } ∷
    record { rise = pos 4294967296; start = pos 562949953421312; side = pos 0 } ∷
    record { rise = pos 4294967296; start = pos 562949953421312; side = pos 0 } ∷
    record { rise = pos 4294967296; start = pos 562949953421312; side = pos 0 } ∷
    record { rise = pos 4294967296; start = pos 562949953421312; side = pos 0 } ∷
    record { rise = negsuc 4295098372; start = pos 562954248388607; side = pos 0 } ∷
    record { rise = negsuc 4295098372; start = pos 562954248388607; side = pos 0 } ∷ []

unfoldable pub line_in : ℕ → Line
line_in row = get_or lines row flat

-- the line of an entry's element, ranges and a raw value
abbrev pub line_of : AxisOrBtn → Ranges → Raw → Line
line_of e r raw = line_in (raw_rows r.input raw + output_rows e r.output + from_bool r.inverted)

-- v * rise + start is 2^32 times a number from 0 on that has the value as its last 16 bits
abbrev pub along : Line → ℤ → ℤ
along l v = cast_signed w16 (unsigned_abs (v *ℤ l.rise +ℤ l.start) / 4294967296 % 65536)

-- whether there is a value at v
abbrev pub counts : Line → ℤ → Bool
counts l v = le_z (pos 0) (v *ℤ l.side)

-- no sum of a line is below 0, and none is too large
pub record Gentle (l : Line) : Type 0 where
  pub rise : unsigned_abs l.rise ≤ 8590065669
  pub start : ℕ
  pub starts : l.start ≡ pos start
  pub least : 422212465065984 ≤ start
  pub most : start ≤ 703687474446337
  pub side : unsigned_abs l.side ≤ 1

-- what a line gives at v
abbrev pub told : Line → ℤ → Option ℤ
told l v = then_some (counts l v) (along l v)

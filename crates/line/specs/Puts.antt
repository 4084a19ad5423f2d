-- What a token puts into the map (document 01, 'Reading').
-- Public contracts rest on these definitions; they assume nothing.
use Rattle.std.specs.Prelude.{ℕ, List, length, get_or, eqb, ltb, Option, Some, None}
use Rattle.line.specs.declared.ev.Axis.{Axis}
use Rattle.text.specs.Bytes.{pick}
use Rattle.line.specs.declared.ev.Code.{Code}
use Rattle.line.specs.declared.ev.Button.{Button}
use Rattle.line.specs.declared.ev.AxisOrBtn.{AxisOrBtn}
use Rattle.line.specs.declared.ev.AxisOrBtn.TheVariants as El
use Rattle.line.specs.declared.mapping.Entry.{Entry}
use Rattle.line.specs.declared.parser.Ranges.{Ranges}
use Rattle.line.specs.declared.parser.Token.{Token}
use Rattle.line.specs.declared.parser.Token.TheVariants as Tk
use Rattle.line.specs.declared.reading.puts.Puts.{Puts}
use Rattle.line.specs.declared.reading.puts.Puts.TheVariants.{Nothing, Name, One, Two, UnknownHatDirection}
use Rattle.line.specs.declared.reading.puts.HatCodes.{HatCodes}
use Rattle.line.specs.Buttons as B
use Rattle.line.specs.Axes as A
use Rattle.line.specs.Elements.{code_of, button_code, axis_dpadx, axis_dpady}
use Rattle.line.specs.Maps.{entry_of, ranged_entry}

-- "`a`N and `b`N put (axis or button list at N, element); N past the list does nothing"
unfoldable pub listed : List ℕ → ℕ → AxisOrBtn → Ranges → Puts
listed codes n to ranges =
    pick (ltb n (length codes)) (One (ranged_entry (code_of (get_or codes n 0)) to ranges) 0) Nothing

-- the two codes of a hat's direction, and its flag
abbrev pub codes : Code → Code → ℕ → HatCodes
codes axis button flag = record { axis = axis; button = button; flag = flag }

-- "1, 4, 2, 8 give DPADY with DPAD_UP, DPADY with DPAD_DOWN, DPADX with DPAD_RIGHT, DPADX with DPAD_LEFT"; none for
-- another direction
unfoldable pub hat_codes : ℕ → Option HatCodes
hat_codes d =
    pick (eqb d 1) (Some (codes axis_dpady (button_code (B.DPadUp).0) 1))
    (pick (eqb d 4) (Some (codes axis_dpady (button_code (B.DPadDown).0) 4))
    (pick (eqb d 2) (Some (codes axis_dpadx (button_code (B.DPadRight).0) 2))
    (pick (eqb d 8) (Some (codes axis_dpadx (button_code (B.DPadLeft).0) 8))
    None)))

-- "To a DPad left/right (up/down) button: that axis code is put to axis 7 (8)"
unfoldable pub dpad_axis : Button → Option Axis
dpad_axis b =
    pick (eqb b.0 (B.DPadLeft).0) (Some A.DPadX)
    (pick (eqb b.0 (B.DPadRight).0) (Some A.DPadX)
    (pick (eqb b.0 (B.DPadUp).0) (Some A.DPadY)
    (pick (eqb b.0 (B.DPadDown).0) (Some A.DPadY)
    None)))

-- "then the button code to the element. To another button: the button code only."; the axis code beside is "full on both
-- sides and not inverted"
abbrev pub beside_of : Option Axis → Code → Entry → ℕ → Puts
beside_of (Some a) axis put flags = Two (entry_of axis (El.Axis a)) put flags
beside_of None axis put flags = One put flags

-- "To an axis: the axis code only."; the element's own code has the pair's ranges
abbrev pub dpad_puts : Code → Code → AxisOrBtn → Ranges → ℕ → Puts
dpad_puts axis button (El.Btn b) ranges flags = beside_of (dpad_axis b) axis (ranged_entry button (El.Btn b) ranges) flags
dpad_puts axis button (El.Axis a) ranges flags = One (ranged_entry axis (El.Axis a) ranges) flags

-- "The direction is or-ed into the flags."
abbrev pub codes_puts : Option HatCodes → AxisOrBtn → Ranges → Puts
codes_puts (Some c) to ranges = dpad_puts c.axis c.button to ranges c.flag
codes_puts None to ranges = UnknownHatDirection

-- "Hat other than 0: nothing. Hat 0: direction 0 nothing;" 1, 4, 2, 8 the puts of their codes; "else 7"
unfoldable pub hat_puts : ℕ → ℕ → AxisOrBtn → Ranges → Puts
hat_puts h d to ranges = pick (eqb h 0) (pick (eqb d 0) Nothing (codes_puts (hat_codes d) to ranges)) Nothing

-- a token after which the line goes on at q: "another platform only passed over";
-- "Name start: after the first comma, length 0 where no name field follows"
unfoldable pub puts_of : Token → ℕ → List ℕ → List ℕ → Puts
puts_of (Tk.AxisMapping n to ranges) q buttons axes = listed axes n to ranges
puts_of (Tk.ButtonMapping n to ranges) q buttons axes = listed buttons n to ranges
puts_of (Tk.HatMapping h d to ranges) q buttons axes = hat_puts h d to ranges
puts_of (Tk.Uuid u) q buttons axes = Name q 0
puts_of (Tk.Platform start len) q buttons axes = Nothing
puts_of (Tk.Name start len) q buttons axes = Name start len

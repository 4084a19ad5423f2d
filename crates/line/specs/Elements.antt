-- Elements and their native codes (document 01, 'Records'), and the element calls of ev/mod.rs.
-- Public contracts rest on these definitions; they assume nothing.
use Rattle.std.specs.Prelude.{ℕ, ◌+◌, ◌-◌, Bool, true, false, List, [], ◌∷◌, leb, eqb, Option, Some, None}
use Rattle.text.specs.Bytes.{pick}
use Rattle.line.specs.declared.ev.Code.{Code}
use Rattle.line.specs.declared.ev.Button.{Button}
use Rattle.line.specs.declared.ev.Axis.{Axis}
use Rattle.line.specs.declared.ev.AxisOrBtn.{AxisOrBtn}
use Rattle.line.specs.declared.ev.AxisOrBtn.TheVariants as El
use Rattle.line.specs.Buttons as B
use Rattle.line.specs.Axes as A

-- ---- "An event code is a 32-bit number of its own kind, `Code` in the Rust, never to be taken for a place in a list."
-- native codes: "kind times 65536 plus number", hexadecimal
abbrev pub code_of : ℕ → Code
code_of c = record { 0 = c }

-- "Button k of 1..15: 10130 + k - 1. Button k of 16..19: 10220 + k - 16."
abbrev pub button_code : ℕ → Code
button_code k = code_of (pick (leb k 15) (0x10130 + k - 1) (0x10220 + k - 16))

-- "Axis k of 1..6: 30000 + k - 1."
abbrev pub axis_code : ℕ → Code
axis_code k = code_of (0x30000 + k - 1)

-- "AXIS_DPADX 30010, AXIS_DPADY 30011, AXIS_RT 30012, AXIS_LT 30013, AXIS_RT2 30014, AXIS_LT2 30015."
abbrev pub axis_dpadx : Code
axis_dpadx = code_of 0x30010

abbrev pub axis_dpady : Code
axis_dpady = code_of 0x30011

abbrev pub axis_rt : Code
axis_rt = code_of 0x30012

abbrev pub axis_lt : Code
axis_lt = code_of 0x30013

abbrev pub axis_rt2 : Code
axis_rt2 = code_of 0x30014

abbrev pub axis_lt2 : Code
axis_lt2 = code_of 0x30015

-- ---- "buttons 0..19, axes 0..8"
abbrev pub button_last : ℕ
button_last = 19

abbrev pub axis_last : ℕ
axis_last = 8

-- ---- the element calls: "a number over 19 or 8 counts as 0 in them"
abbrev pub counted_of : ℕ → ℕ → ℕ
counted_of last n = pick (leb n last) n 0

-- the number of the element is one of those
abbrev pub one_of : ℕ → List ℕ → Bool
one_of n [] = false
one_of n (x ∷ xs) = pick (eqb n x) true (one_of n xs)

abbrev pub counted_button : Button → ℕ
counted_button b = counted_of button_last b.0

abbrev pub counted_axis : Axis → ℕ
counted_axis a = counted_of axis_last a.0

-- `to_nec`: Unknown has no native code
unfoldable pub to_nec_of : Button → Option Code
to_nec_of b = pick (eqb (counted_button b) (B.Unknown).0) None (Some (button_code (counted_button b)))

-- `is_dpad`
unfoldable pub is_dpad_of : Button → Bool
is_dpad_of b = one_of (counted_button b) ((B.DPadUp).0 ∷ (B.DPadDown).0 ∷ (B.DPadLeft).0 ∷ (B.DPadRight).0 ∷ [])

-- `is_stick` of a button
unfoldable pub is_stick_of : Button → Bool
is_stick_of b = one_of (counted_button b) ((B.LeftThumb).0 ∷ (B.RightThumb).0 ∷ [])

-- `is_stick` of an axis
unfoldable pub is_stick_axis_of : Axis → Bool
is_stick_axis_of a = one_of (counted_axis a) ((A.LeftStickX).0 ∷ (A.LeftStickY).0 ∷ (A.RightStickX).0 ∷ (A.RightStickY).0 ∷ [])

-- the axis counts as that one
abbrev pub is_axis_of : Axis → Axis → Bool
is_axis_of a x = eqb (counted_axis a) x.0

-- `second_axis`: the other axis of the same stick, or of the DPad
unfoldable pub second_axis_of : Axis → Option Axis
second_axis_of a =
    pick (is_axis_of a A.LeftStickX) (Some A.LeftStickY)
    (pick (is_axis_of a A.LeftStickY) (Some A.LeftStickX)
    (pick (is_axis_of a A.RightStickX) (Some A.RightStickY)
    (pick (is_axis_of a A.RightStickY) (Some A.RightStickX)
    (pick (is_axis_of a A.DPadX) (Some A.DPadY)
    (pick (is_axis_of a A.DPadY) (Some A.DPadX)
    None)))))

-- "an element is a button or an axis": `is_button`
abbrev pub is_button_of : AxisOrBtn → Bool
is_button_of (El.Axis a) = false
is_button_of (El.Btn b) = true

-- the same button or the same axis, by the whole number
abbrev pub same_element : AxisOrBtn → AxisOrBtn → Bool
same_element (El.Axis a) (El.Axis b) = eqb a.0 b.0
same_element (El.Axis a) (El.Btn b) = false
same_element (El.Btn a) (El.Axis b) = false
same_element (El.Btn a) (El.Btn b) = eqb a.0 b.0

-- Every value fits, and is within. Assumes nothing.
use Rattle.std.specs.Prelude.{Option, Some, None}
use Prim.Native.Nat.{ℕ, zero, suc, ◌-◌, ◌*◌, ◌/◌, ◌<◌, ◌≤◌}
use mathlib.Core.Path.{◌≡◌, refl, sym, subst, ◌∙◌}
use mathlib.Core.Bool.{Bool, true, false}
use native.Mathlib.Omega.{arith}
use lib.IntN.{ℤ, pos, negsuc, neg_ℤ}
use mir.Syntax.{w16}
use mir.Val.{SFits}
use Rattle.pad.specs.Values.{output_of, axis_value, turned, part_of, pressed_value, raw_value}
use Rattle.pad.specs.ValueClaims.{Within, RawWithin, ResultsWithin}
use Rattle.line.specs.declared.parser.Ranges.{Ranges}
use Rattle.pad.specs.declared.events.Raw.{Raw}
use Rattle.pad.specs.declared.events.Raw.TheVariants as Rw
use Rattle.pad.proofs.BiasLaws.{unshifted_fits, turned_proper, share_proper, share_is, shifted_small}
use lib.Dec.{le→leb, leb→le}
use lib.Signed.{◌≤ℤ◌}
use Rattle.pad.specs.Inner.{shifted, Proper}
use Rattle.line.specs.declared.ev.Button.{Button}
use Rattle.line.specs.declared.ev.AxisOrBtn.{AxisOrBtn}
use Rattle.line.specs.declared.ev.AxisOrBtn.TheVariants as El
use Rattle.line.specs.declared.parser.AxisRange.{AxisRange}
use Rattle.line.specs.declared.parser.AxisRange.TheVariants as Ar
use Rattle.pad.proofs.ShareLaws.{scaled_le}

-- ---- every value fits
pub unfold_neg : (q : ℕ) → q ≤ 32768 → SFits w16 (neg_ℤ (pos q))
unfold_neg zero h = record { sfits = omega arith }
unfold_neg (suc k) h = record { sfits = omega arith }

abbrev pub ValueFits : Option ℤ → Type 0
ValueFits (Some v) = SFits w16 v
ValueFits None = Unit {0}

abbrev pub RawFits : Raw → Type 0
RawFits Rw.ButtonReleased = Unit {0}
RawFits Rw.ButtonPressed = Unit {0}
RawFits (Rw.AxisValueChanged v) = SFits w16 v

output_fits : (e : AxisOrBtn) (half : AxisRange) (n d : ℕ) → Proper n d → SFits w16 (output_of e half n d)
output_fits (El.Btn b) half n d p = let l = scaled_le n d 32767 p.within in record { sfits = omega arith }
output_fits (El.Axis a) Ar.UpperHalf n d p = let l = scaled_le n d 32767 p.within in record { sfits = omega arith }
output_fits (El.Axis a) Ar.LowerHalf n d p = unfold_neg (n * 32768 / d) (scaled_le n d 32768 p.within)
output_fits (El.Axis a) Ar.Full n d p =
    let l = scaled_le n d 65535 p.within in unshifted_fits (n * 65535 / d) (omega arith)

axis_fits : (e : AxisOrBtn) (half : AxisRange) (w : Bool) (p : Option (ℕ × ℕ)) → ((n d : ℕ) → p ≡ Some (n, d) → Proper n d)
    → ValueFits (axis_value e half w p)
axis_fits e half true (Some (n, d)) f = output_fits e half (d - n) d (turned_proper n d (f n d refl))
axis_fits e half false (Some (n, d)) f = output_fits e half n d (f n d refl)
axis_fits e half w None f = tt

pressed_fits : (e : AxisOrBtn) (half : AxisRange) → SFits w16 (pressed_value e half)
pressed_fits (El.Btn b) half = record { sfits = omega arith }
pressed_fits (El.Axis a) Ar.LowerHalf = record { sfits = omega arith }
pressed_fits (El.Axis a) Ar.UpperHalf = record { sfits = omega arith }
pressed_fits (El.Axis a) Ar.Full = record { sfits = omega arith }

pub value_fits : (e : AxisOrBtn) (r : Ranges) (raw : Raw) → RawFits raw → ValueFits (raw_value e r raw)
unfolding raw_value
value_fits e r Rw.ButtonReleased f = record { sfits = omega arith }
value_fits e r Rw.ButtonPressed f = pressed_fits e r.output
value_fits e r (Rw.AxisValueChanged v) f =
    axis_fits e r.output r.inverted (part_of v r.input)
    (λ n d e'. share_proper (shifted v) r.input n d (shifted_small v f) (sym (share_is v r.input f) ∙ e'))

-- ---- what fits is within
pub within_fits : (v : ℤ) → Within v → SFits w16 v
within_fits (pos k) w = let l : k ≤ 32767 = leb→le k 32767 w.1.le in record { sfits = omega arith }
within_fits (negsuc k) w = let l : k ≤ 32767 = leb→le k 32767 w.0.le in record { sfits = omega arith }

pub fits_within : (v : ℤ) → SFits w16 v → Within v
fits_within (pos k) f =
    let h : k < 32768 = f.sfits in (record { le = tt }, record { le = le→leb k 32767 (omega arith) })
fits_within (negsuc k) f =
    let h : k < 32768 = f.sfits in (record { le = le→leb k 32767 (omega arith) }, record { le = tt })

pub raw_fits : (raw : Raw) → RawWithin raw → RawFits raw
raw_fits Rw.ButtonReleased w = tt
raw_fits Rw.ButtonPressed w = tt
raw_fits (Rw.AxisValueChanged v) w = within_fits v w

-- a button's value is not below 0
abbrev NotBelow : Option ℤ → Type 0
NotBelow (Some x) = pos 0 ≤ℤ x
NotBelow None = Unit {0}

some : (k : ℕ) → 0 ≤ k
some k = omega arith

button_part : (b : Button) (half : AxisRange) (w : Bool) (p : Option (ℕ × ℕ)) → NotBelow (axis_value (El.Btn b) half w p)
button_part b half w (Some (n, d)) = record { le = le→leb 0 (turned w n d * 32767 / d) (some (turned w n d * 32767 / d)) }
button_part b half w None = tt

button_value : (b : Button) (r : Ranges) (raw : Raw) → NotBelow (raw_value (El.Btn b) r raw)
unfolding raw_value
button_value b r Rw.ButtonReleased = record { le = tt }
button_value b r Rw.ButtonPressed = record { le = tt }
button_value b r (Rw.AxisValueChanged v) = button_part b r.output r.inverted (part_of v r.input)

pub within : ResultsWithin
within (El.Axis a) r raw h x e =
    fits_within x (subst ValueFits e (value_fits (El.Axis a) r raw (raw_fits raw h)))
within (El.Btn b) r raw h x e = (
  subst NotBelow e (button_value b r raw),
  (fits_within x (subst ValueFits e (value_fits (El.Btn b) r raw (raw_fits raw h)))).1,
)

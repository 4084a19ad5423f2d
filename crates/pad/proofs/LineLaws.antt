-- Each line gives what `raw_value` gives: the line's sum at v is that of n, the part that counts, by SumLaws. Assumes
-- nothing.
use Rattle.std.specs.Prelude.{Option, Some, None, get_or, length}
use Rattle.std.specs.Bool.{then_some}
use Rattle.std.specs.Int.{from_bool}
use Rattle.std.specs.Int.RustNames.{unsigned_abs}
use Prim.Native.Nat.{ℕ, zero, suc, ◌+◌, ◌-◌, ◌*◌, ◌<◌}
use native.Mathlib.Omega.{arith}
use mathlib.Core.Path.{◌≡◌, refl, ap, sym, ◌∙◌}
use mathlib.Core.Bool.{Bool, true, false}
use mathlib.Core.List.{List, [], ◌∷◌}
use borrow.Author.Tests.{le-leb, leb-true, eqb-true}
use lib.Dec.{eqb, leb}
use lib.IntN.{ℤ, pos, negsuc, ◌*ℤ◌}
use lib.Signed.{le_z}
use mir.Syntax.{w16}
use mir.Val.{SFits}
use Rattle.text.specs.Bytes.{pick}
use Rattle.line.specs.declared.ev.Axis.{Axis}
use Rattle.line.specs.declared.ev.Button.{Button}
use Rattle.line.specs.declared.ev.AxisOrBtn.{AxisOrBtn}
use Rattle.line.specs.declared.ev.AxisOrBtn.TheVariants as El
use Rattle.line.specs.declared.parser.AxisRange.{AxisRange}
use Rattle.line.specs.declared.parser.AxisRange.TheVariants as Ar
use Rattle.line.specs.declared.parser.Ranges.{Ranges}
use Rattle.pad.specs.declared.events.Raw.{Raw}
use Rattle.pad.specs.declared.events.Raw.TheVariants as Rw
use Rattle.pad.specs.declared.lines.Line.{Line}
use Rattle.pad.specs.Values.{axis_value, part_of, pressed_value, raw_value}
use Rattle.pad.specs.Lines.{input_rows, half_rows, raw_step, flat, lines, line_in, line_of, along, counts, Gentle, told}
use Rattle.pad.proofs.ValueLaws.{RawFits}
use Rattle.pad.proofs.SumLaws.{full_full, full_upper, full_lower, upper_full, upper_upper, upper_lower}
use Rattle.pad.proofs.SumLaws.{lower_full, lower_upper, lower_lower, falls}

-- ---- where there is a value
zero_leb : (m : ℕ) → le_z (pos 0) (pos m) ≡ true
zero_leb m = le-leb 0 m (omega arith)

anywhere : (v : ℤ) → le_z (pos 0) (v *ℤ pos 0) ≡ true
anywhere (pos k) = zero_leb (k * 0)
anywhere (negsuc j) = let e : suc j * 0 ≡ 0 = omega arith in rw e

from_above : (k : ℕ) → le_z (pos 0) (pos k *ℤ pos 1) ≡ true
from_above k = zero_leb (k * 1)

from_above_not : (j : ℕ) → le_z (pos 0) (negsuc j *ℤ pos 1) ≡ false
from_above_not j = let e : suc j * 1 ≡ suc j = omega arith in rw e

to_below : (j : ℕ) → le_z (pos 0) (negsuc j *ℤ negsuc 0) ≡ true
to_below j = zero_leb (suc j * 1)

to_below_not : (k : ℕ) → le_z (pos 0) (pos (suc k) *ℤ negsuc 0) ≡ false
to_below_not k = let e : suc k * 1 ≡ suc k = omega arith in rw e

beyond : (k : ℕ) → part_of (pos (suc k)) Ar.LowerHalf ≡ None
beyond k = by (eqb (suc k) 0) refl
  where
    by : (t : Bool) → eqb (suc k) 0 ≡ t → ◌≡◌ {A = Option (ℕ × ℕ)} (pick t (Some (0, 32768)) None) None
    by true e = absurd (let z = eqb-true (suc k) 0 e in omega arith)
    by false e = refl

some : (l : Line) (v z : ℤ) → counts l v ≡ true → along l v ≡ z → told l v ≡ Some z
some l v z c e = rw (c, e)

no_value : (l : Line) (v : ℤ) → counts l v ≡ false → told l v ≡ None
no_value l v c = rw c

lower_none : (a : Axis) (l : Line) (k : ℕ) (o : AxisRange) (w : Bool) → counts l (pos (suc k)) ≡ false
    → told l (pos (suc k)) ≡ axis_value (El.Axis a) o w (part_of (pos (suc k)) Ar.LowerHalf)
lower_none a l k o w c = no_value l (pos (suc k)) c ∙ sym (ap (axis_value (El.Axis a) o w) (beyond k))

-- ---- the lines of axis values
row : (a : Axis) (i o : AxisRange) (w : Bool) (v : ℤ) → SFits w16 v
    → told (line_in (input_rows i + half_rows o + from_bool w)) v ≡ axis_value (El.Axis a) o w (part_of v i)
unfolding line_in lines
row a Ar.Full Ar.Full false (pos k) f =
    let h : k < 32768 = f.sfits in
    some (line_in 0) (pos k) _ (anywhere (pos k))
    (full_full (32768 + k) (k * 4294967296 + 562949953421312) (omega arith) (omega arith))
row a Ar.Full Ar.Full false (negsuc j) f =
    let h : j < 32768 = f.sfits in
    some (line_in 0) (negsuc j) _ (anywhere (negsuc j))
    (falls (suc j * 4294967296) 562949953421312 _ (omega arith)
    (full_full (32768 - suc j) (562949953421312 - suc j * 4294967296) (omega arith) (omega arith)))
row a Ar.Full Ar.Full true (pos k) f =
    let h : k < 32768 = f.sfits in
    some (line_in 1) (pos k) _ (anywhere (pos k))
    (falls (k * 4294967296) 562945658454016 _ (omega arith)
    (full_full (65535 - (32768 + k)) (562945658454016 - k * 4294967296) (omega arith) (omega arith)))
row a Ar.Full Ar.Full true (negsuc j) f =
    let h : j < 32768 = f.sfits in
    some (line_in 1) (negsuc j) _ (anywhere (negsuc j))
    (full_full (65535 - (32768 - suc j)) (suc j * 4294967296 + 562945658454016) (omega arith) (omega arith))
row a Ar.Full Ar.UpperHalf false (pos k) f =
    let h : k < 32768 = f.sfits in
    some (line_in 2) (pos k) _ (anywhere (pos k))
    (full_upper (32768 + k) (k * 2147450880 + 633317623857152) (omega arith) (omega arith))
row a Ar.Full Ar.UpperHalf false (negsuc j) f =
    let h : j < 32768 = f.sfits in
    some (line_in 2) (negsuc j) _ (anywhere (negsuc j))
    (falls (suc j * 2147450880) 633317623857152 _ (omega arith)
    (full_upper (32768 - suc j) (633317623857152 - suc j * 2147450880) (omega arith) (omega arith)))
row a Ar.Full Ar.UpperHalf true (pos k) f =
    let h : k < 32768 = f.sfits in
    some (line_in 3) (pos k) _ (anywhere (pos k))
    (falls (k * 2147450880) 633315476406272 _ (omega arith)
    (full_upper (65535 - (32768 + k)) (633315476406272 - k * 2147450880) (omega arith) (omega arith)))
row a Ar.Full Ar.UpperHalf true (negsuc j) f =
    let h : j < 32768 = f.sfits in
    some (line_in 3) (negsuc j) _ (anywhere (negsuc j))
    (full_upper (65535 - (32768 - suc j)) (suc j * 2147450880 + 633315476406272) (omega arith) (omega arith))
row a Ar.Full Ar.LowerHalf false (pos k) f =
    let h : k < 32768 = f.sfits in
    some (line_in 4) (pos k) _ (anywhere (pos k))
    (falls (k * 2147516417) 492584430436351 _ (omega arith)
    (full_lower (32768 + k) (492584430436351 - k * 2147516417) (omega arith) (omega arith)))
row a Ar.Full Ar.LowerHalf false (negsuc j) f =
    let h : j < 32768 = f.sfits in
    some (line_in 4) (negsuc j) _ (anywhere (negsuc j))
    (full_lower (32768 - suc j) (suc j * 2147516417 + 492584430436351) (omega arith) (omega arith))
row a Ar.Full Ar.LowerHalf true (pos k) f =
    let h : k < 32768 = f.sfits in
    some (line_in 5) (pos k) _ (anywhere (pos k))
    (full_lower (65535 - (32768 + k)) (k * 2147516417 + 492586577952768) (omega arith) (omega arith))
row a Ar.Full Ar.LowerHalf true (negsuc j) f =
    let h : j < 32768 = f.sfits in
    some (line_in 5) (negsuc j) _ (anywhere (negsuc j))
    (falls (suc j * 2147516417) 492586577952768 _ (omega arith)
    (full_lower (65535 - (32768 - suc j)) (492586577952768 - suc j * 2147516417) (omega arith) (omega arith)))
row a Ar.UpperHalf Ar.Full false (pos k) f =
    let h : k < 32768 = f.sfits in
    some (line_in 6) (pos k) _ (from_above k)
    (upper_full k (k * 8590065669 + 422212465065984) (omega arith) (omega arith))
row a Ar.UpperHalf Ar.Full false (negsuc j) f = no_value (line_in 6) (negsuc j) (from_above_not j)
row a Ar.UpperHalf Ar.Full true (pos k) f =
    let h : k < 32768 = f.sfits in
    some (line_in 7) (pos k) _ (from_above k)
    (falls (k * 8590065669) 703683146842107 _ (omega arith)
    (upper_full (32767 - k) (703683146842107 - k * 8590065669) (omega arith) (omega arith)))
row a Ar.UpperHalf Ar.Full true (negsuc j) f = no_value (line_in 7) (negsuc j) (from_above_not j)
row a Ar.UpperHalf Ar.UpperHalf false (pos k) f =
    let h : k < 32768 = f.sfits in
    some (line_in 8) (pos k) _ (from_above k)
    (upper_upper k (k * 4294967296 + 562949953421312) (omega arith) (omega arith))
row a Ar.UpperHalf Ar.UpperHalf false (negsuc j) f = no_value (line_in 8) (negsuc j) (from_above_not j)
row a Ar.UpperHalf Ar.UpperHalf true (pos k) f =
    let h : k < 32768 = f.sfits in
    some (line_in 9) (pos k) _ (from_above k)
    (falls (k * 4294967296) 703683146809344 _ (omega arith)
    (upper_upper (32767 - k) (703683146809344 - k * 4294967296) (omega arith) (omega arith)))
row a Ar.UpperHalf Ar.UpperHalf true (negsuc j) f = no_value (line_in 9) (negsuc j) (from_above_not j)
row a Ar.UpperHalf Ar.LowerHalf false (pos k) f =
    let h : k < 32768 = f.sfits in
    some (line_in 10) (pos k) _ (from_above k)
    (falls (k * 4295098373) 562954248388607 _ (omega arith)
    (upper_lower k (562954248388607 - k * 4295098373) (omega arith) (omega arith)))
row a Ar.UpperHalf Ar.LowerHalf false (negsuc j) f = no_value (line_in 10) (negsuc j) (from_above_not j)
row a Ar.UpperHalf Ar.LowerHalf true (pos k) f =
    let h : k < 32768 = f.sfits in
    some (line_in 11) (pos k) _ (from_above k)
    (upper_lower (32767 - k) (k * 4295098373 + 422216760000516) (omega arith) (omega arith))
row a Ar.UpperHalf Ar.LowerHalf true (negsuc j) f = no_value (line_in 11) (negsuc j) (from_above_not j)
row a Ar.LowerHalf Ar.Full false (pos zero) f = refl
row a Ar.LowerHalf Ar.Full false (pos (suc k)) f =
    lower_none a (line_in 12) k Ar.Full false (to_below_not k)
row a Ar.LowerHalf Ar.Full false (negsuc j) f =
    let h : j < 32768 = f.sfits in
    some (line_in 12) (negsuc j) _ (to_below j)
    (lower_full (suc j) (suc j * 8589803520 + 422212465065984) (omega arith) (omega arith))
row a Ar.LowerHalf Ar.Full true (pos zero) f = refl
row a Ar.LowerHalf Ar.Full true (pos (suc k)) f =
    lower_none a (line_in 13) k Ar.Full true (to_below_not k)
row a Ar.LowerHalf Ar.Full true (negsuc j) f =
    let h : j < 32768 = f.sfits in
    some (line_in 13) (negsuc j) _ (to_below j)
    (falls (suc j * 8589803520) 703683146809344 _ (omega arith)
    (lower_full (32768 - suc j) (703683146809344 - suc j * 8589803520) (omega arith) (omega arith)))
row a Ar.LowerHalf Ar.UpperHalf false (pos zero) f = refl
row a Ar.LowerHalf Ar.UpperHalf false (pos (suc k)) f =
    lower_none a (line_in 14) k Ar.UpperHalf false (to_below_not k)
row a Ar.LowerHalf Ar.UpperHalf false (negsuc j) f =
    let h : j < 32768 = f.sfits in
    some (line_in 14) (negsuc j) _ (to_below j)
    (lower_upper (suc j) (suc j * 4294836224 + 562949953421312) (omega arith) (omega arith))
row a Ar.LowerHalf Ar.UpperHalf true (pos zero) f = refl
row a Ar.LowerHalf Ar.UpperHalf true (pos (suc k)) f =
    lower_none a (line_in 15) k Ar.UpperHalf true (to_below_not k)
row a Ar.LowerHalf Ar.UpperHalf true (negsuc j) f =
    let h : j < 32768 = f.sfits in
    some (line_in 15) (negsuc j) _ (to_below j)
    (falls (suc j * 4294836224) 703683146809344 _ (omega arith)
    (lower_upper (32768 - suc j) (703683146809344 - suc j * 4294836224) (omega arith) (omega arith)))
row a Ar.LowerHalf Ar.LowerHalf false (pos zero) f = refl
row a Ar.LowerHalf Ar.LowerHalf false (pos (suc k)) f =
    lower_none a (line_in 16) k Ar.LowerHalf false (to_below_not k)
row a Ar.LowerHalf Ar.LowerHalf false (negsuc j) f =
    let h : j < 32768 = f.sfits in
    some (line_in 16) (negsuc j) _ (to_below j)
    (falls (suc j * 4294967296) 562954248388607 _ (omega arith)
    (lower_lower (suc j) (562954248388607 - suc j * 4294967296) (omega arith) (omega arith)))
row a Ar.LowerHalf Ar.LowerHalf true (pos zero) f = refl
row a Ar.LowerHalf Ar.LowerHalf true (pos (suc k)) f =
    lower_none a (line_in 17) k Ar.LowerHalf true (to_below_not k)
row a Ar.LowerHalf Ar.LowerHalf true (negsuc j) f =
    let h : j < 32768 = f.sfits in
    some (line_in 17) (negsuc j) _ (to_below j)
    (lower_lower (32768 - suc j) (suc j * 4294967296 + 422216760033279) (omega arith) (omega arith))

-- ---- and those of buttons
as_upper : (b : Button) (a : Axis) (half : AxisRange) (w : Bool) (p : Option (ℕ × ℕ))
    → axis_value (El.Axis a) Ar.UpperHalf w p ≡ axis_value (El.Btn b) half w p
as_upper b a half w (Some (n, d)) = refl
as_upper b a half w None = refl

button : (o : AxisRange) (w : Bool)
    → (told (line_in (18 + half_rows o + from_bool w)) (pos 0) ≡ Some (pos 0))
    × (told (line_in (18 + half_rows o + from_bool w)) (pos 32767) ≡ Some (pressed_value (El.Axis (record { 0 = 0 })) o))
unfolding line_in lines
button Ar.Full false = (refl, refl)
button Ar.Full true = (refl, refl)
button Ar.UpperHalf false = (refl, refl)
button Ar.UpperHalf true = (refl, refl)
button Ar.LowerHalf false = (refl, refl)
button Ar.LowerHalf true = (refl, refl)

pub given : (e : AxisOrBtn) (r : Ranges) (raw : Raw) → RawFits raw
    → told (line_of e r raw) (raw_step raw) ≡ raw_value e r raw
unfolding raw_value
given (El.Axis a) r (Rw.AxisValueChanged v) f = row a r.input r.output r.inverted v f
given (El.Btn b) r (Rw.AxisValueChanged v) f =
    row (record { 0 = 0 }) r.input Ar.UpperHalf r.inverted v f
    ∙ as_upper b (record { 0 = 0 }) r.output r.inverted (part_of v r.input)
given (El.Axis a) r Rw.ButtonReleased f = (button r.output r.inverted).0
given (El.Btn b) r Rw.ButtonReleased f = (button Ar.UpperHalf r.inverted).0
given (El.Axis a) r Rw.ButtonPressed f = (button r.output r.inverted).1 ∙ axis_alike r.output
  where
    axis_alike : (o : AxisRange) → Some (pressed_value (El.Axis (record { 0 = 0 })) o) ≡ Some (pressed_value (El.Axis a) o)
    axis_alike Ar.Full = refl
    axis_alike Ar.UpperHalf = refl
    axis_alike Ar.LowerHalf = refl
given (El.Btn b) r Rw.ButtonPressed f = (button Ar.UpperHalf r.inverted).1

-- what `entry_value` answers, by what its calls answered
pub answered : (e : AxisOrBtn) (r : Ranges) (raw : Raw) (l : Line) (v x : ℤ) (t : Bool) → RawFits raw
    → l ≡ line_of e r raw → v ≡ raw_step raw → t ≡ counts l v → x ≡ along l v
    → then_some t x ≡ raw_value e r raw
answered e r raw l v x t f a b c d = rw (c, d, a, b) (given e r raw f)

-- ---- no line is steep: tests that each line passes, computed
abbrev all_of : (Line → Bool) → List Line → Bool
all_of p [] = true
all_of p (l ∷ ls) = pick (p l) (all_of p ls) false

all_both : (b c : Bool) → pick b c false ≡ true → (b ≡ true) × (c ≡ true)
all_both true c e = (refl, e)
all_both false c e = let z : ◌≡◌ {A = ℕ} 0 1 = cc in absurd (omega arith)

each : (p : Line → Bool) (ls : List Line) (i : ℕ) → all_of p ls ≡ true → i < length ls → p (get_or ls i flat) ≡ true
each p [] i e h = absurd (omega arith)
each p (l ∷ ls) zero e h = (all_both (p l) (all_of p ls) e).0
each p (l ∷ ls) (suc i) e h = each p ls i (all_both (p l) (all_of p ls) e).1 (omega arith)

-- a line's start, which is no negative number
abbrev natural : ℤ → ℕ
natural (pos s) = s
natural (negsuc s) = 0

abbrev start_of : Line → ℕ
start_of l = natural l.start

start_is : (z : ℤ) (s : ℕ) → 0 < s → s ≡ natural z → z ≡ pos s
start_is (pos n) s h e = ap pos (sym e)
start_is (negsuc n) s h e = absurd (omega (arith, h, e))

pub line_gentle : (i : ℕ) → i < 24 → Gentle (line_in i)
unfolding line_in lines
line_gentle i h =
    let least = leb-true _ _ (each (λ l. leb 422212465065984 (start_of l)) lines i refl h) in
    record {
      rise = leb-true _ _ (each (λ l. leb (unsigned_abs l.rise) 8590065669) lines i refl h);
      start = start_of (line_in i);
      starts = start_is (line_in i).start _ (omega (arith, least)) refl;
      least = least;
      most = leb-true _ _ (each (λ l. leb (start_of l) 703687474446337) lines i refl h);
      side = leb-true _ _ (each (λ l. leb (unsigned_abs l.side) 1) lines i refl h);
    }

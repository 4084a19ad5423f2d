-- Two claims of the request: full to full gives v back, and larger values never give smaller results. Assumes nothing.
use Rattle.std.specs.Prelude.{Some, None}
use Prim.Native.Nat.{ℕ, suc, ◌+◌, ◌-◌, ◌*◌, ◌/◌, ◌<◌, ◌≤◌}
use mathlib.Core.Path.{◌≡◌, refl, ap, subst, ◌∙◌}
use mathlib.Core.Bool.{Bool, true, false}
use native.Mathlib.Omega.{arith}
use native.Mathlib.Nat.{mul-div_cancel}
use lib.IntN.{ℤ, pos, negsuc}
use lib.Signed.{◌≤ℤ◌}
use lib.Dec.{ltb, le→leb, leb→le}
use borrow.Author.Tests.{ltb-true, ltb-false}
use mir.Syntax.{w16}
use mir.Val.{SFits}
use Rattle.pad.specs.Values.{part_of, output_of, raw_value}
use Rattle.pad.specs.ValueClaims.{GivesBack, RisingOutput, NeverSmaller}
use Rattle.line.specs.Maps.{full_ranges}
use Rattle.pad.specs.Inner.{unshifted}
use Rattle.line.specs.declared.ev.Axis.{Axis}
use Rattle.pad.specs.declared.events.Raw.TheVariants as Rw
use Rattle.line.specs.declared.ev.AxisOrBtn.{AxisOrBtn}
use Rattle.line.specs.declared.ev.AxisOrBtn.TheVariants as El
use Rattle.line.specs.declared.parser.AxisRange.{AxisRange}
use Rattle.line.specs.declared.parser.AxisRange.TheVariants as Ar
use Rattle.pad.proofs.BiasLaws.{unshifted-shifted}
use Rattle.pad.proofs.ShareLaws.{scaled_mono}
use Rattle.pad.proofs.ValueLaws.{within_fits}

-- "An axis full to full without inversion gives v back."
back : (a : Axis) (v : ℤ) → SFits w16 v → raw_value (El.Axis a) full_ranges (Rw.AxisValueChanged v) ≡ Some v
unfolding raw_value
back a (pos k) f =
    ap (λ (z : ℤ). Some z)
    (ap (λ (x : ℕ). unshifted x) (mul-div_cancel (32768 + k) (omega arith)) ∙ unshifted-shifted (pos k) f)
back a (negsuc k) f =
    let e : 32768 - suc k ≡ 32767 - k = omega arith in
    ap (λ (z : ℤ). Some z)
    (ap (λ (x : ℕ). unshifted x) (mul-div_cancel (32768 - suc k) (omega arith) ∙ e) ∙ unshifted-shifted (negsuc k) f)

pub gives_back : GivesBack
gives_back a v w = back a v (within_fits v w)

-- ---- "of two v that have a value the larger never gives a smaller result"
-- the numerator of a full input
abbrev whole : ℤ → ℕ
whole (pos k) = 32768 + k
whole (negsuc k) = 32768 - suc k

whole_is : (v : ℤ) → part_of v Ar.Full ≡ Some ((whole v), 65535)
whole_is (pos k) = refl
whole_is (negsuc k) = refl

whole_mono : (v w : ℤ) → v ≤ℤ w → whole v ≤ whole w
whole_mono (pos k) (pos j) h = let l : k ≤ j = leb→le k j h.le in omega arith
whole_mono (pos k) (negsuc j) h = absurd h.le
whole_mono (negsuc k) (pos j) h = omega arith
whole_mono (negsuc k) (negsuc j) h = let l : j ≤ k = leb→le j k h.le in omega arith

-- a larger share never gives a smaller output
below_or : (a b : ℕ) → a ≤ b → unshifted a ≤ℤ unshifted b
below_or a b h = by (ltb a 32768) (ltb b 32768) refl refl
  where
    by : (s t : Bool) → ltb a 32768 ≡ s → ltb b 32768 ≡ t → unshifted a ≤ℤ unshifted b
    by true true p q =
        let l = ltb-true a 32768 p in
        let m = ltb-true b 32768 q in
        rw (p, q) (record { le = le→leb (32768 - suc b) (32768 - suc a) (omega arith) })
    by true false p q = rw (p, q) (record { le = tt })
    by false true p q = absurd (omega (arith, ltb-false a 32768 p, ltb-true b 32768 q))
    by false false p q =
        let l = ltb-false a 32768 p in
        let m = ltb-false b 32768 q in
        rw (p, q) (record { le = le→leb (a - 32768) (b - 32768) (omega arith) })

output_mono : (e : AxisOrBtn) (half : AxisRange) (m n d : ℕ) → RisingOutput e half → 0 < d → m ≤ n
    → output_of e half m d ≤ℤ output_of e half n d
output_mono (El.Btn b) half m n d r p h = record { le = le→leb _ _ (scaled_mono m n d 32767 p h) }
output_mono (El.Axis a) Ar.UpperHalf m n d r p h = record { le = le→leb _ _ (scaled_mono m n d 32767 p h) }
output_mono (El.Axis a) Ar.Full m n d r p h = below_or (m * 65535 / d) (n * 65535 / d) (scaled_mono m n d 65535 p h)
output_mono (El.Axis a) Ar.LowerHalf m n d r p h = absurd r

same_is : (x y : ℤ) → Some x ≡ Some y → x ≡ y
same_is x y e = cc

not_there : {A : Type 0} (x : ℤ) → None ≡ Some x → A
not_there x e = let z : ◌≡◌ {A = ℕ} 0 1 = cc in absurd (omega arith)

pub never_smaller : NeverSmaller
unfolding raw_value
never_smaller e Ar.Full output i o v w h x y p q =
    let a = same_is (output_of e output (whole v) 65535) x (rw (whole_is v) at p) in
    let b = same_is (output_of e output (whole w) 65535) y (rw (whole_is w) at q) in
    subst (λ (z : ℤ). z ≤ℤ y) a
    (subst (λ (z : ℤ). output_of e output (whole v) 65535 ≤ℤ z) b
    (output_mono e output (whole v) (whole w) 65535 o (omega arith) (whole_mono v w h)))
never_smaller e Ar.UpperHalf output i o (pos k) (pos j) h x y p q =
    let a = same_is (output_of e output k 32767) x p in
    let b = same_is (output_of e output j 32767) y q in
    subst (λ (z : ℤ). z ≤ℤ y) a
    (subst (λ (z : ℤ). output_of e output k 32767 ≤ℤ z) b
    (output_mono e output k j 32767 o (omega arith) (leb→le k j h.le)))
never_smaller e Ar.UpperHalf output i o (negsuc k) w h x y p q = not_there x p
never_smaller e Ar.UpperHalf output i o (pos k) (negsuc j) h x y p q = not_there y q
never_smaller e Ar.LowerHalf output i o v w h x y p q = absurd i

-- A value counted from the least one, and back. Assumes nothing.
use Rattle.std.specs.Prelude.{Some, None, Option}
use Prim.Native.Nat.{ℕ, zero, suc, ◌+◌, ◌-◌, ◌<◌, ◌≤◌}
use mathlib.Core.Path.{◌≡◌, refl, ap, subst, ◌∙◌}
use native.Mathlib.Omega.{arith}
use mathlib.Core.Logic.{◌⊎◌, inl, inr, ⊎_elim}
use mathlib.Core.Bool.{Bool, true, false}
use lib.Dec.{ltb, eqb}
use lib.IntN.{ℤ, pos, negsuc, ◌+ℤ◌}
use borrow.Author.Tests.{lt-ltb, le-ltb, eqb-true, eqb-false, ltb-false}
use mir.Syntax.{w16}
use mir.Val.{SFits, to_z, of_z}
use mir.ValLaws.{to_z-of_z}
use lib.Signed.{mag}
use Rattle.pad.specs.Values.{part_of}
use Rattle.pad.specs.Inner.{shifted, unshifted, share_of, Proper}
use Rattle.line.specs.declared.parser.AxisRange.{AxisRange}
use Rattle.line.specs.declared.parser.AxisRange.TheVariants as Ar
use Rattle.text.proofs.ListLaws.{lt_or_le}

zero_or_more : (k : ℕ) → (k ≡ 0) ⊎ (0 < k)
zero_or_more zero = inl refl
zero_or_more (suc k) = inr (omega arith)

-- ---- a value of 16 bits that a call has answered
pub answered_value : (v z : ℤ) → mag v < 32768 → v ≡ z → to_z w16 (of_z w16 v) ≡ z
answered_value v z h e = to_z-of_z w16 v (record { sfits = h }) ∙ e

-- ---- shifted values
pub shifted_small : (v : ℤ) → SFits w16 v → shifted v < 65536
shifted_small (pos k) f = let h : k < 32768 = f.sfits in omega arith
shifted_small (negsuc k) f = omega arith

-- the sum that the program makes
pub sum_is : (v : ℤ) → SFits w16 v → v +ℤ pos 32768 ≡ pos (shifted v)
sum_is (pos k) f = ap pos (omega arith)
sum_is (negsuc k) f =
    let h : k < 32768 = f.sfits in
    let l : suc k ≤ 32768 = omega arith in
    rw (le-ltb 32768 (suc k) l) (ap pos (omega arith))

-- and the difference
pub unshifted-shifted : (v : ℤ) → SFits w16 v → unshifted (shifted v) ≡ v
unshifted-shifted (pos k) f =
    let l : 32768 ≤ 32768 + k = omega arith in
    rw (le-ltb (32768 + k) 32768 l) (ap pos (omega arith))
unshifted-shifted (negsuc k) f =
    let h : k < 32768 = f.sfits in
    let l : 32767 - k < 32768 = omega arith in
    rw (lt-ltb (32767 - k) 32768 l) (ap negsuc (omega arith))

pub share_is : (v : ℤ) (i : AxisRange) → SFits w16 v → part_of v i ≡ share_of (shifted v) i
share_is (pos k) Ar.Full f = refl
share_is (negsuc k) Ar.Full f = ap (λ (n : ℕ). Some (n, 65535)) (omega arith)
share_is (pos k) Ar.UpperHalf f =
    let l : 32768 ≤ 32768 + k = omega arith in
    rw (le-ltb (32768 + k) 32768 l) (ap (λ (n : ℕ). Some (n, 32767)) (omega arith))
share_is (negsuc k) Ar.UpperHalf f =
    let l : 32767 - k < 32768 = omega arith in
    rw (lt-ltb (32767 - k) 32768 l)
share_is (pos k) Ar.LowerHalf f = at_zero (eqb k 0) refl
  where
    at_zero : (t : Bool) → eqb k 0 ≡ t → part_of (pos k) Ar.LowerHalf ≡ share_of (32768 + k) Ar.LowerHalf
    at_zero true e =
        let z = eqb-true k 0 e in
        let l : 32768 + k ≤ 32768 = omega arith in
        rw (e, le-ltb 32768 (32768 + k) l) (ap (λ (n : ℕ). Some (n, 32768)) (omega arith))
    at_zero false e =
        let z = eqb-false k 0 e in
        let l : 32768 < 32768 + k = ⊎_elim (λ h. absurd (z h)) (λ h. omega arith) (zero_or_more k) in
        rw (e, lt-ltb 32768 (32768 + k) l)
share_is (negsuc k) Ar.LowerHalf f =
    let h : k < 32768 = f.sfits in
    let l : 32767 - k ≤ 32768 = omega arith in
    rw (le-ltb 32768 (32767 - k) l) (ap (λ (n : ℕ). Some (n, 32768)) (omega arith))

pub unshifted_fits : (x : ℕ) → x < 65536 → SFits w16 (unshifted x)
unshifted_fits x h =
    ⊎_elim
    (λ l. rw (lt-ltb x 32768 l) (record { sfits = omega arith }))
    (λ l. rw (le-ltb x 32768 l) (record { sfits = omega arith }))
    (lt_or_le x 32768)

-- shares are proper
parts : (m k n d : ℕ) → Proper m k → ◌≡◌ {A = Option (ℕ × ℕ)} (Some (m, k)) (Some (n, d))
    → Proper n d
parts m k n d p q =
    let r : ◌≡◌ {A = ℕ × ℕ} (m, k) (n, d) = cc in
    subst (λ (t : ℕ × ℕ). Proper t.0 t.1) r p

no_part : {A : Type 0} (n d : ℕ) → ◌≡◌ {A = Option (ℕ × ℕ)} None (Some (n, d)) → A
no_part n d e = absurd cc

pub share_proper : (x : ℕ) (i : AxisRange) (n d : ℕ) → x < 65536 → share_of x i ≡ Some (n, d) → Proper n d
share_proper x Ar.Full n d h e = parts x 65535 n d (record { within = omega arith; some = omega arith; most = omega arith }) e
share_proper x Ar.UpperHalf n d h e = by (ltb x 32768) refl
  where
    by : (t : Bool) → ltb x 32768 ≡ t → Proper n d
    by true q = no_part n d (rw q at e)
    by false q =
        let l = ltb-false x 32768 q in
        parts (x - 32768) 32767 n d (record { within = omega arith; some = omega arith; most = omega arith }) (rw q at e)
share_proper x Ar.LowerHalf n d h e = by (ltb 32768 x) refl
  where
    by : (t : Bool) → ltb 32768 x ≡ t → Proper n d
    by true q = no_part n d (rw q at e)
    by false q =
        let l = ltb-false 32768 x q in
        parts (32768 - x) 32768 n d (record { within = omega arith; some = omega arith; most = omega arith }) (rw q at e)

pub turned_proper : (n d : ℕ) → Proper n d → Proper (d - n) d
turned_proper n d p = record { within = omega arith; some = p.some; most = p.most }

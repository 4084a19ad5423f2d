-- A sum of a line, and the value that it tells: n of d, times k and rounded down, for each d of an input and each k of an
-- output. Assumes nothing.
use Rattle.std.specs.Int.{cast_signed}
use Rattle.std.specs.Int.RustNames.{unsigned_abs}
use Rattle.std.proofs.lemmas.Int.{ints, unsigned_abs-mul}
use Prim.Native.Nat.{ℕ, zero, suc, ◌+◌, ◌-◌, ◌*◌, ◌/◌, ◌%◌, ◌<◌, ◌≤◌}
use native.Mathlib.Nat.{mul-le-mul}
use native.Mathlib.Omega.{arith}
use mathlib.Core.Path.{◌≡◌, refl, ap, ◌∙◌}
use mathlib.Core.Logic.{⊎_elim}
use borrow.Author.Tests.{lt-ltb, le-ltb}
use lib.IntN.{ℤ, pos, negsuc, neg_ℤ, ◌+ℤ◌, ◌-ℤ◌, ◌*ℤ◌}
use mir.Syntax.{w16}
use mir.Val.{SFits, to_z}
use Rattle.text.proofs.ListLaws.{lt_or_le}
use Rattle.pad.specs.declared.lines.Line.{Line}
use Rattle.pad.specs.Lines.{Gentle}

-- ---- the value of a sum
abbrev pub value_in : ℕ → ℤ
value_in s = cast_signed w16 (s / 4294967296 % 65536)

up : (s y : ℕ) → y < 32768 → (131072 + y) * 4294967296 ≤ s → s < (131073 + y) * 4294967296 → value_in s ≡ pos y
up s y h a b = let e : s / 4294967296 % 65536 ≡ y = omega arith in rw e (omega (arith, ints))

down : (s y : ℕ) → y ≤ 32768 → 562949953421312 ≤ s + y * 4294967296 → s + y * 4294967296 < 562954248388608
    → value_in s ≡ neg_ℤ (pos y)
down s zero h a b = up s zero (omega arith) (omega arith) (omega arith)
down s (suc j) h a b =
    let e : s / 4294967296 % 65536 ≡ 65535 - j = omega arith in
    let l : 32768 ≤ 65535 - j = omega arith in
    rw (e, le-ltb (65535 - j) 32768 l) (ap negsuc (omega arith))

whole : (s q : ℕ) → q ≤ 65535 → (98304 + q) * 4294967296 ≤ s → s < (98305 + q) * 4294967296
    → value_in s ≡ pos q -ℤ pos 32768
whole s q h a b =
    ⊎_elim
    (λ (l : q < 32768).
    let e : s / 4294967296 % 65536 ≡ 32768 + q = omega arith in
    let m : 32768 ≤ 32768 + q = omega arith in
    rw (e, le-ltb (32768 + q) 32768 m, lt-ltb q 32768 l) (ap negsuc (omega arith)))
    (λ (l : 32768 ≤ q).
    let e : s / 4294967296 % 65536 ≡ q - 32768 = omega arith in
    let m : q - 32768 < 32768 = omega arith in
    rw (e, lt-ltb (q - 32768) 32768 m, le-ltb q 32768 l))
    (lt_or_le q 32768)

-- ---- rounded down: n of d, by the input and the output
pub full_full : (n s : ℕ) → n ≤ 65535 → s ≡ 422212465065984 + n * 4294967296
    → value_in s ≡ pos (n * 65535 / 65535) -ℤ pos 32768
full_full n s h e = whole s (n * 65535 / 65535) (omega arith) (omega arith) (omega arith)

pub full_upper : (n s : ℕ) → n ≤ 65535 → s ≡ 562949953421312 + n * 2147450880
    → value_in s ≡ pos (n * 32767 / 65535)
full_upper n s h e = up s (n * 32767 / 65535) (omega arith) (omega arith) (omega arith)

pub full_lower : (n s : ℕ) → n ≤ 65535 → s + n * 2147516417 ≡ 562954248388607
    → value_in s ≡ neg_ℤ (pos (n * 32768 / 65535))
full_lower n s h e = down s (n * 32768 / 65535) (omega arith) (omega arith) (omega arith)

pub upper_full : (n s : ℕ) → n ≤ 32767 → s ≡ 422212465065984 + n * 8590065669
    → value_in s ≡ pos (n * 65535 / 32767) -ℤ pos 32768
upper_full n s h e = whole s (n * 65535 / 32767) (omega arith) (omega arith) (omega arith)

pub upper_upper : (n s : ℕ) → n ≤ 32767 → s ≡ 562949953421312 + n * 4294967296
    → value_in s ≡ pos (n * 32767 / 32767)
upper_upper n s h e = up s (n * 32767 / 32767) (omega arith) (omega arith) (omega arith)

pub upper_lower : (n s : ℕ) → n ≤ 32767 → s + n * 4295098373 ≡ 562954248388607
    → value_in s ≡ neg_ℤ (pos (n * 32768 / 32767))
upper_lower n s h e = down s (n * 32768 / 32767) (omega arith) (omega arith) (omega arith)

pub lower_full : (n s : ℕ) → n ≤ 32768 → s ≡ 422212465065984 + n * 8589803520
    → value_in s ≡ pos (n * 65535 / 32768) -ℤ pos 32768
lower_full n s h e = whole s (n * 65535 / 32768) (omega arith) (omega arith) (omega arith)

pub lower_upper : (n s : ℕ) → n ≤ 32768 → s ≡ 562949953421312 + n * 4294836224
    → value_in s ≡ pos (n * 32767 / 32768)
lower_upper n s h e = up s (n * 32767 / 32768) (omega arith) (omega arith) (omega arith)

pub lower_lower : (n s : ℕ) → n ≤ 32768 → s + n * 4294967296 ≡ 562954248388607
    → value_in s ≡ neg_ℤ (pos (n * 32768 / 32768))
lower_lower n s h e = down s (n * 32768 / 32768) (omega arith) (omega arith) (omega arith)

-- ---- sums
less : (m b : ℕ) → m ≤ b → unsigned_abs (neg_ℤ (pos m) +ℤ pos b) ≡ b - m
less zero b h = omega arith
less (suc m) b h = rw (le-ltb b (suc m) h)

pub falls : (m b : ℕ) (z : ℤ) → m ≤ b → value_in (b - m) ≡ z → value_in (unsigned_abs (neg_ℤ (pos m) +ℤ pos b)) ≡ z
falls m b z h e = ap value_in (less m b h) ∙ e

-- a sum whose product is within the start
positive : (z : ℤ) (b : ℕ) → unsigned_abs z ≤ b
    → (s : ℕ) × (z +ℤ pos b ≡ pos s) × (s ≤ b + unsigned_abs z)
positive (pos m) b h = (m + b, refl, omega arith)
positive (negsuc m) b h = (b - suc m, rw (le-ltb b (suc m) h), omega arith)

module _ (l : Line) (v : ℤ) (g : Gentle l) (f : SFits w16 v) where
  small : unsigned_abs v ≤ 32768
  small = by v f
    where
      by : (v : ℤ) → SFits w16 v → unsigned_abs v ≤ 32768
      by (pos k) f = let h : k < 32768 = f.sfits in omega arith
      by (negsuc k) f = let h : k < 32768 = f.sfits in omega arith

  bound : unsigned_abs (v *ℤ l.rise) ≤ 281479271841792
  bound = let m = mul-le-mul small g.rise in omega (arith, unsigned_abs-mul v l.rise)

  pub sum_some : (s : ℕ) × (v *ℤ l.rise +ℤ l.start ≡ pos s) × (s < 9223372036854775808)
  sum_some =
      let p = positive (v *ℤ l.rise) g.start (omega (arith, bound, g.least)) in
      (p.0, ap (λ (z : ℤ). v *ℤ l.rise +ℤ z) g.starts ∙ p.1, omega (arith, p.2, bound, g.most))

-- A share of d, scaled and rounded down: its bound and its order. Assumes nothing.
use Prim.Native.Nat.{ℕ, ◌*◌, ◌/◌, ◌<◌, ◌≤◌}
use native.Mathlib.Nat.{div-le_of_le-mul, mul-le-mul_right, le-div_iff_mul-le, div-mul-le_self, le_trans}

pub scaled_le : (n d k : ℕ) → n ≤ d → n * k / d ≤ k
scaled_le n d k h = div-le_of_le-mul d (mul-le-mul_right k h)

pub scaled_mono : (m n d k : ℕ) → 0 < d → m ≤ n → m * k / d ≤ n * k / d
scaled_mono m n d k p h =
    (le-div_iff_mul-le {k = d} {x = m * k / d} {y = n * k} p).1
    (le_trans (div-mul-le_self (m * k) d) (mul-le-mul_right k h))

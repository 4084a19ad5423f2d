-- Bytes tested one after the other, and numbers written high byte first.
-- Assumes nothing.
use mathlib.Core.Bool.{Bool, true, false, ◌&&◌}
use mathlib.Core.List.{List, [], ◌∷◌, ◌++◌}
use mathlib.Core.Path.{◌≡◌, refl, sym, ap, ap₂, ◌∙◌}
use Prim.Native.Nat.{ℕ, ◌/◌, ◌%◌}
use native.Mathlib.Omega.{arith}
use lib.Dec.{eqb}
use Rattle.std.specs.Int.{to_be_bytes, w16, w32, w64}
use Rattle.store.specs.Decode.{zeroes}
use Rattle.store.specs.Inner.{be2, be4, be8}
use Rattle.store.proofs.BoolLaws.{and_assoc}

and_true : (b : Bool) → b && true ≡ b
and_true true = refl
and_true false = refl

-- one byte more
pub zeroes_push : (s : List ℕ) (x : ℕ) → zeroes (s ++ x ∷ []) ≡ zeroes s && eqb x 0
unfolding zeroes
zeroes_push [] x = and_true (eqb x 0)
zeroes_push (y ∷ s) x =
    ap (λ (b : Bool). eqb y 0 && b) (zeroes_push s x) ∙ sym (and_assoc (eqb y 0) (zeroes s) (eqb x 0))

-- the bytes of a number
pub two_bytes : (x : ℕ) → to_be_bytes w16 (x % 65536) ≡ be2 x
two_bytes x = ap₂ (λ (a b : ℕ). a ∷ b ∷ []) (omega arith) (omega arith)

pub four_bytes : (x : ℕ) → to_be_bytes w32 x ≡ be4 x
four_bytes x =
    let e3 : x / 65536 / 256 ≡ x / 16777216 = omega arith in
    cc

pub eight_bytes : (x : ℕ) → to_be_bytes w64 x ≡ be8 x
eight_bytes x =
    let e3 : x / 65536 / 256 ≡ x / 16777216 = omega arith in
    let e5 : x / 4294967296 / 256 ≡ x / 1099511627776 = omega arith in
    let e6 : x / 4294967296 / 65536 ≡ x / 281474976710656 = omega arith in
    let e7 : x / 4294967296 / 65536 / 256 ≡ x / 72057594037927936 = omega arith in
    cc

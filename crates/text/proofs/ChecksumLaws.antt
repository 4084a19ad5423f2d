-- A UUID without its checksum, byte by byte.
-- Assumes nothing.
use mathlib.Core.Path.{◌≡◌, refl, sym, ap, ◌∙◌}
use Prim.Native.Nat.{ℕ, ◌+◌, ◌*◌, ◌/◌, ◌%◌}
use native.Mathlib.Omega.{arith}
use Rattle.text.specs.Uuid.{big_endian, without_checksum, ChecksumBytes}

abbrev cut : ℕ → ℕ
cut h = 0x1000000000000 * (h / 0x1000000000000) + h % 0x100000000

module _ (h : ℕ) where
  byte_7 : cut h % 256 ≡ h % 256
  byte_7 = omega arith

  byte_6 : cut h / 256 % 256 ≡ h / 256 % 256
  byte_6 = omega arith

  byte_5 : cut h / 256 / 256 % 256 ≡ h / 256 / 256 % 256
  byte_5 = omega arith

  byte_4 : cut h / 256 / 256 / 256 % 256 ≡ h / 256 / 256 / 256 % 256
  byte_4 = omega arith

  byte_3 : cut h / 256 / 256 / 256 / 256 % 256 ≡ 0
  byte_3 = omega arith

  byte_2 : cut h / 256 / 256 / 256 / 256 / 256 % 256 ≡ 0
  byte_2 = omega arith

  -- bytes 0 and 1 are the 2 ^ 48ths
  first : h / 256 / 256 / 256 / 256 / 256 / 256 ≡ h / 0x1000000000000
  first = omega arith

  firsts : cut h / 0x1000000000000 ≡ h / 0x1000000000000
  firsts = omega arith

module _ (h : ℕ) where
  first_two : cut h / 256 / 256 / 256 / 256 / 256 / 256 ≡ h / 256 / 256 / 256 / 256 / 256 / 256
  first_two = first (cut h) ∙ firsts h ∙ sym (first h)

  byte_1 : cut h / 256 / 256 / 256 / 256 / 256 / 256 % 256 ≡ h / 256 / 256 / 256 / 256 / 256 / 256 % 256
  byte_1 = ap (λ (x : ℕ). x % 256) (first_two)

  byte_0 : cut h / 256 / 256 / 256 / 256 / 256 / 256 / 256 % 256 ≡ h / 256 / 256 / 256 / 256 / 256 / 256 / 256 % 256
  byte_0 = ap (λ (x : ℕ). x / 256 % 256) (first_two)

pub checksum_bytes : ChecksumBytes
unfolding without_checksum big_endian
checksum_bytes u =
    simp (
      byte_0 u.high,
      byte_1 u.high,
      byte_2 u.high,
      byte_3 u.high,
      byte_4 u.high,
      byte_5 u.high,
      byte_6 u.high,
      byte_7 u.high,
    ) refl

-- Numbers, UUIDs and bytes as a case spells them. Public contracts rest on these definitions; they assume nothing.
use Rattle.std.specs.Prelude.{ℕ, ◌≡◌, ◌*◌, List, take, drop, Option, Some, None, Ok}
use Rattle.hex.specs.Hex.{decode_sized}
use Rattle.text.specs.declared.uuid.Uuid.{Uuid}
use Rattle.text.specs.declared.uuid.Spelled.{Spelled}
use Rattle.text.specs.Decimal.{index_number}
use Rattle.text.specs.Uuid.{uuid_of}

-- a word that is no number counts as 65535
abbrev pub number_or : Option ℕ → ℕ
number_or (Some n) = n
number_or None = 65535

abbrev pub number_in : List ℕ → ℕ
number_in s = number_or (index_number s)

-- the UUID of a text, or another where it is none
abbrev pub id_or : Option Spelled → Uuid → Uuid
id_or (Some g) other = g.id
id_or None other = other

abbrev pub uuid_or_other : List ℕ → Uuid → Uuid
uuid_or_other s other = id_or (uuid_of s) other

-- the first n bytes of a buffer are those that the first 2 n digits of a text spell, if they are digits
abbrev pub Unhexed : List ℕ → List ℕ → ℕ → List ℕ → Type 0
Unhexed s before n after =
    ((bytes : List ℕ) → decode_sized (take (2 * n) s) n ≡ Ok bytes → take n after ≡ bytes)
    × (drop n after ≡ drop n before)

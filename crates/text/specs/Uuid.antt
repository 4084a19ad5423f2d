-- UUID texts: the four forms that `Uuid::parse_str` takes, by RFC 4122, section 3, and the text that is written.
-- Public contracts rest on these definitions; they assume nothing.
use Rattle.std.specs.Prelude.{ℕ, zero, suc, ◌+◌, ◌*◌, ◌-◌, ◌/◌, ◌%◌, ◌<◌, ◌^◌, ◌≡◌, Bool, ◌&&◌, List, [], ◌∷◌, ◌++◌, ltb, leb, eqb, length, get_or, take, drop, Option, Some, None, option_and_then}
use Rattle.text.specs.declared.uuid.Spelled.{Spelled}
use Rattle.text.specs.Bytes.{pick, byte, ascii, same}
use Rattle.text.specs.declared.uuid.Uuid.{Uuid}
use Rattle.text.specs.declared.uuid.Form.{Form}
use Rattle.text.specs.declared.uuid.Form.TheVariants as F

-- ---- hexadecimal digits

-- a byte from the first to the last of these characters
abbrev pub is_from : ℕ → ℕ → ℕ → Bool
is_from first last b = leb first b && leb b last

-- "hex digits [..] either letter case": the value of a digit, none for any other byte
unfoldable pub hex_digit : ℕ → Option ℕ
hex_digit b =
    pick (is_from (byte "0") (byte "9") b) (Some (b - byte "0"))
    (pick (is_from (byte "A") (byte "F") b) (Some (b - byte "A" + 10))
    (pick (is_from (byte "a") (byte "f") b) (Some (b - byte "a" + 10)) None))

-- hexadecimal digits to the end, after those that made a
unfoldable pub read_hex : ℕ → List ℕ → Option ℕ
read_hex a [] = Some a
read_hex a (d ∷ ds) = option_and_then (λ v. read_hex (a * 16 + v) ds) (hex_digit d)

-- ---- reading

-- a UUID of the number of its first sixteen digits and that of its last sixteen, and which form was read
abbrev pub with_low : Form → ℕ → Option ℕ → Option Spelled
with_low f h (Some l) = Some (record { id = record { high = h; low = l }; form = f })
with_low f h None = None

abbrev pub joined : Form → Option ℕ → Option ℕ → Option Spelled
joined f (Some h) low = with_low f h low
joined f None low = None

abbrev pub of_digits : Form → List ℕ → List ℕ → Option Spelled
of_digits f first last = joined f (read_hex 0 first) (read_hex 0 last)

-- "32 hex digits"
abbrev pub simple : List ℕ → Option Spelled
simple s = of_digits F.Simple (take 16 s) (drop 16 s)

-- a hyphen stands at that place
abbrev pub hyphen_at : List ℕ → ℕ → Bool
hyphen_at s i = eqb (get_or s i 0) (byte "-")

-- the digits of time-low, time-mid and time-high-and-version, and those of clock-seq and node
abbrev pub first_groups : List ℕ → List ℕ
first_groups s = take 8 s ++ (take 4 (drop 9 s) ++ take 4 (drop 14 s))

abbrev pub last_groups : List ℕ → List ℕ
last_groups s = take 4 (drop 19 s) ++ take 12 (drop 24 s)

-- time-low "-" time-mid "-" time-high-and-version "-" clock-seq "-" node: 8, 4, 4, 4 and 12 digits
unfoldable pub hyphenated : Form → List ℕ → Option Spelled
hyphenated f s =
    pick (hyphen_at s 8 && (hyphen_at s 13 && (hyphen_at s 18 && hyphen_at s 23)))
    (of_digits f (first_groups s) (last_groups s))
    None

-- "in braces"
abbrev pub in_braces : List ℕ → Bool
in_braces s = eqb (get_or s 0 0) (byte "{") && eqb (get_or s 37 0) (byte "}")

-- "after lower-case `urn:uuid:`"
abbrev pub after_urn : List ℕ → Bool
after_urn s = same (take 9 s) (ascii "urn:uuid:")

-- "32 hex digits; RFC 4122's form with hyphens (36 characters); that form in braces (38);
-- that form after lower-case `urn:uuid:` (45)"; request P11: "The UUID reader shall say which of the four forms it read"
unfoldable pub uuid_of : List ℕ → Option Spelled
uuid_of s =
    pick (eqb (length s) 32) (simple s)
    (pick (eqb (length s) 36) (hyphenated F.Hyphenated s)
    (pick (eqb (length s) 38 && in_braces s) (hyphenated F.Braced (take 36 (drop 1 s)))
    (pick (eqb (length s) 45 && after_urn s) (hyphenated F.Urn (drop 9 s))
    None)))

-- ---- writing

-- a lower-case hexadecimal digit
abbrev pub lower_digit : ℕ → ℕ
lower_digit d = pick (ltb d 10) (byte "0" + d) (byte "a" + (d - 10))

-- the last k hexadecimal digits of n, in lower case
unfoldable pub hex_text : ℕ → ℕ → List ℕ
hex_text zero n = []
hex_text (suc k) n = hex_text k (n / 16) ++ (lower_digit (n % 16) ∷ [])

-- "UUID in 32 lower-case digits"
abbrev pub uuid_text : Uuid → List ℕ
uuid_text u = hex_text 16 u.high ++ hex_text 16 u.low

-- ---- bytes

-- the last k bytes of n, high byte first
unfoldable pub big_endian : ℕ → ℕ → List ℕ
big_endian zero n = []
big_endian (suc k) n = big_endian k (n / 256) ++ (n % 256 ∷ [])

-- the sixteen bytes of a UUID, high byte first
abbrev pub uuid_bytes : Uuid → List ℕ
uuid_bytes u = big_endian 8 u.high ++ big_endian 8 u.low

-- both halves of a UUID fit 64 bits, as those of every value of the program do
pub record Small (u : Uuid) : Type 0 where
  pub high : u.high < 2 ^ 64
  pub low : u.low < 2 ^ 64

-- ---- without a checksum

-- "the same UUID with those two bytes zero", of "GUID bytes 2 and 3, counted from 0": bytes 0 and 1 are the 2 ^ 48ths of
-- the first half, bytes 4 to 7 what is left of it by 2 ^ 32
unfoldable pub without_checksum : Uuid → Uuid
without_checksum u =
    record { high = 0x1000000000000 * (u.high / 0x1000000000000) + u.high % 0x100000000; low = u.low }

-- the theorem `checksum_bytes`: the same in bytes
abbrev pub ChecksumBytes : Type 0
ChecksumBytes =
    (u : Uuid) → uuid_bytes (without_checksum u) ≡ take 2 (uuid_bytes u) ++ (0 ∷ 0 ∷ drop 4 (uuid_bytes u))

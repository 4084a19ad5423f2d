-- Examples of the documents, as theorems over the definitions.
-- Assumes nothing.
use Rattle.std.specs.Prelude.{Some, None}
use mathlib.Core.Path.{◌≡◌, refl}
use mathlib.Core.Bool.{true, false}
use mathlib.Core.List.{[], ◌∷◌}
use Prim.Native.Nat.{ℕ, ◌+◌, ◌*◌}
use Rattle.text.specs.Bytes.{byte, ascii, same, first_of}
use Rattle.text.specs.Search.{first_text, platform_key}
use Rattle.text.specs.Decimal.{digits, decimal, read_digits, unsigned, index_number}
use Rattle.text.specs.Utf8.{begins, first_length, char_length, run_of, valid_run, is_utf8}
use Rattle.text.specs.Uuid.{hex_digit, read_hex, hyphenated, uuid_of, hex_text, uuid_text, big_endian, uuid_bytes}
use Rattle.text.specs.Uuid.{without_checksum}
use Rattle.text.specs.declared.uuid.Uuid.{Uuid}
use Rattle.text.specs.declared.uuid.Form.TheVariants as F

-- ---- UTF-8

-- RFC 3629, section 7: "A<NOT IDENTICAL TO><ALPHA>."
not_identical : is_utf8 (0x41 ∷ 0xE2 ∷ 0x89 ∷ 0xA2 ∷ 0xCE ∷ 0x91 ∷ 0x2E ∷ []) ≡ true
unfolding is_utf8 valid_run run_of char_length first_length begins
not_identical = refl

-- RFC 3629, section 10: C0 80 for the character U+0000, here after one whole character
overlong : valid_run (0x41 ∷ 0xC0 ∷ 0x80 ∷ []) ≡ 1
unfolding valid_run run_of char_length first_length begins
overlong = refl

-- RFC 3629, section 3: no character from U+D800 to U+DFFF
surrogate : valid_run (0x41 ∷ 0xED ∷ 0xA0 ∷ 0x80 ∷ []) ≡ 1
unfolding valid_run run_of char_length first_length begins
surrogate = refl

-- document 01, refusal 10: byte FF
byte_ff : is_utf8 (0xFF ∷ []) ≡ false
unfolding is_utf8 valid_run run_of char_length first_length begins
byte_ff = refl

-- ---- a byte and a text sought

-- document 01: "up to a comma or the end"
comma : first_of (byte ",") (ascii "0300,T,") ≡ 4
unfolding first_of
comma = refl

no_comma : first_of (byte ",") (ascii "q") ≡ 1
unfolding first_of
no_comma = refl

-- document 01: "the first `platform:` anywhere in it", also in a name
in_name : first_text platform_key (ascii "0,xplatform:y,platform:Linux,") ≡ 3
unfolding first_text same
in_name = refl

no_platform : first_text platform_key (ascii "0,platform,") ≡ 11
unfolding first_text same
no_platform = refl

-- an empty text stands at the front, of an empty one too
nothing_sought : first_text [] (ascii "q") ≡ 0
unfolding first_text same
nothing_sought = refl

nothing_in_nothing : first_text [] [] ≡ 0
unfolding first_text
nothing_in_nothing = refl

-- ---- UUID

-- RFC 4122, section 3
abbrev example : Uuid
example = record { high = 0xf81d4fae7dec11d0; low = 0xa76500a0c91e6bf6 }

urn : uuid_of (ascii "urn:uuid:f81d4fae-7dec-11d0-a765-00a0c91e6bf6") ≡ Some (record { id = example; form = F.Urn })
unfolding uuid_of hyphenated read_hex hex_digit same
urn = refl

upper_in_braces : uuid_of (ascii "{F81D4FAE-7DEC-11D0-A765-00A0C91E6BF6}") ≡ Some (record { id = example; form = F.Braced })
unfolding uuid_of hyphenated read_hex hex_digit same
upper_in_braces = refl

written-simple : uuid_text example ≡ ascii "f81d4fae7dec11d0a76500a0c91e6bf6"
unfolding hex_text
written-simple = refl

bytes_high_first : uuid_bytes example ≡
    0xf8 ∷ 0x1d ∷ 0x4f ∷ 0xae ∷ 0x7d ∷ 0xec ∷ 0x11 ∷ 0xd0 ∷ 0xa7 ∷ 0x65 ∷ 0x00 ∷ 0xa0 ∷ 0xc9 ∷ 0x1e ∷ 0x6b ∷ 0xf6 ∷ []
unfolding big_endian
bytes_high_first = refl

upper_hyphenated : uuid_of (ascii "F81D4FAE-7DEC-11D0-A765-00A0C91E6BF6") ≡ Some (record { id = example; form = F.Hyphenated })
unfolding uuid_of hyphenated read_hex hex_digit same
upper_hyphenated = refl

upper_simple : uuid_of (ascii "F81D4FAE7DEC11D0A76500A0C91E6BF6") ≡ Some (record { id = example; form = F.Simple })
unfolding uuid_of hyphenated read_hex hex_digit same
upper_simple = refl

braces_alone : uuid_of (ascii "{f81d4fae7dec11d0a76500a0c91e6bf6}") ≡ None
unfolding uuid_of hyphenated read_hex hex_digit same
braces_alone = refl

upper_urn : uuid_of (ascii "URN:UUID:f81d4fae-7dec-11d0-a765-00a0c91e6bf6") ≡ None
unfolding uuid_of hyphenated read_hex hex_digit same
upper_urn = refl

-- document 02, P5: bytes 2 and 3, counted from 0, zero; with 00 00, 00 01, 01 00 and FF FF there
without : (checksum : ℕ) → Uuid
without checksum = without_checksum (record { high = 0x030000005e0400ff + checksum * 0x100000000; low = 0x8e02000014010000 })

plain : Uuid
plain = record { high = 0x030000005e0400ff; low = 0x8e02000014010000 }

checksum_0000 : without 0x0000 ≡ plain
unfolding without_checksum without plain
checksum_0000 = refl

checksum_0001 : without 0x0001 ≡ plain
unfolding without_checksum without plain
checksum_0001 = refl

checksum_0100 : without 0x0100 ≡ plain
unfolding without_checksum without plain
checksum_0100 = refl

checksum_ffff : without 0xffff ≡ plain
unfolding without_checksum without plain
checksum_ffff = refl

-- the largest UUID
all_bits : without_checksum (record { high = 0xffffffffffffffff; low = 0xffffffffffffffff })
    ≡ record { high = 0xffff0000ffffffff; low = 0xffffffffffffffff }
unfolding without_checksum
all_bits = refl

-- ---- index numbers

largest : index_number (ascii "+0065535") ≡ Some 65535
unfolding index_number unsigned read_digits
largest = refl

too_large : index_number (ascii "65536") ≡ None
unfolding index_number unsigned read_digits
too_large = refl

sign_alone : index_number (ascii "+") ≡ None
unfolding index_number unsigned read_digits
sign_alone = refl

written_65535 : decimal 65535 ≡ ascii "65535"
unfolding decimal digits
written_65535 = refl

written_0 : decimal 0 ≡ ascii "0"
unfolding decimal digits
written_0 = refl

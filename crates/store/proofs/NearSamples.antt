-- Request P5's cases, computed by the definitions.
-- Assumes nothing.
use mathlib.Core.Path.{◌≡◌, refl}
use mathlib.Core.List.{[], ◌∷◌, ◌++◌}
use Prim.Native.Nat.{ℕ, ◌*◌}
use lib.ListN.{replicate}
use Rattle.text.specs.Bytes.{ascii}
use Rattle.text.specs.Uuid.{big_endian, without_checksum}
use Rattle.text.specs.declared.uuid.Uuid.{Uuid}
use Rattle.store.specs.declared.parties.Party.TheVariants as P
use Rattle.store.specs.Held.{key_by, same_key, find, holds, distinct}
use Rattle.store.specs.Layout.{record_bytes}
use Rattle.store.specs.Decode.{body_at, kind_at, head_at, head_fits, zeroes, walk, decode, front_share, is_share_of}
use Rattle.store.specs.Decode.{is_long_share_of, shares_at}
use Rattle.store.specs.Decode.{content}
use Rattle.store.specs.Near.{Nearby, exact, near, neither, damaged, near_by, near_up, near_says, near_line}
use Rattle.store.specs.Near.{near_outcome}
use Rattle.store.specs.Refusals.{outcome_number}

-- zeros but for bytes 2 and 3, and that with another byte 4
with_bytes : ℕ → Uuid
with_bytes c = record { high = c * 0x100000000; low = 0 }

-- what is looked up where U is held, with the line "a"
nil_held : Uuid → Nearby
nil_held k = near_up P.Hall k (record_bytes (key_by 0 (with_bytes 0)) 0 1) (ascii "a")

-- where 0000abcd0..0 is held
one_held : Uuid → Nearby
one_held k = near_up P.Hall k (record_bytes (key_by 0 (with_bytes 0xabcd)) 0 1) (ascii "b")

-- where both are
two-held : Uuid → Nearby
two-held k = near_up P.Hall k (record_bytes (key_by 0 (with_bytes 0)) 0 1 ++ record_bytes (key_by 0 (with_bytes 0xabcd)) 1 1) (ascii "ab")

nil_exact : nil_held (with_bytes 0) ≡ exact (ascii "a")
unfolding nil_held with_bytes near_up near_by content shares_at front_share is_share_of is_long_share_of decode walk
    head_at kind_at head_fits body_at zeroes distinct holds same_key find record_bytes big_endian
nil_exact = refl

nil_near : nil_held (with_bytes 0xabcd) ≡ near (ascii "a")
unfolding nil_held with_bytes near_up near_by content shares_at front_share is_share_of is_long_share_of decode walk
    head_at kind_at head_fits body_at zeroes distinct holds same_key find record_bytes big_endian without_checksum
nil_near = refl

corner_0001 : nil_held (with_bytes 0x0001) ≡ near (ascii "a")
unfolding nil_held with_bytes near_up near_by content shares_at front_share is_share_of is_long_share_of decode walk
    head_at kind_at head_fits body_at zeroes distinct holds same_key find record_bytes big_endian without_checksum
corner_0001 = refl

corner_0100 : nil_held (with_bytes 0x0100) ≡ near (ascii "a")
unfolding nil_held with_bytes near_up near_by content shares_at front_share is_share_of is_long_share_of decode walk
    head_at kind_at head_fits body_at zeroes distinct holds same_key find record_bytes big_endian without_checksum
corner_0100 = refl

corner_ffff : nil_held (with_bytes 0xffff) ≡ near (ascii "a")
unfolding nil_held with_bytes near_up near_by content shares_at front_share is_share_of is_long_share_of decode walk
    head_at kind_at head_fits body_at zeroes distinct holds same_key find record_bytes big_endian without_checksum
corner_ffff = refl

-- bytes 1 and 4 count
byte_four : nil_held (record { high = 0x0000abcd01000000; low = 0 }) ≡ neither
unfolding nil_held with_bytes near_up near_by content shares_at front_share is_share_of is_long_share_of decode walk
    head_at kind_at head_fits body_at zeroes distinct holds same_key find record_bytes big_endian without_checksum
byte_four = refl

byte_one : nil_held (record { high = 0x0001abcd00000000; low = 0 }) ≡ neither
unfolding nil_held with_bytes near_up near_by content shares_at front_share is_share_of is_long_share_of decode walk
    head_at kind_at head_fits body_at zeroes distinct holds same_key find record_bytes big_endian without_checksum
byte_one = refl

-- a line that is held with a checksum is found by that alone
one_way : one_held (with_bytes 0) ≡ neither
unfolding one_held with_bytes near_up near_by content shares_at front_share is_share_of is_long_share_of decode walk
    head_at kind_at head_fits body_at zeroes distinct holds same_key find record_bytes big_endian without_checksum
one_way = refl

unlike_checksums : one_held (with_bytes 0xbbbb) ≡ neither
unfolding one_held with_bytes near_up near_by content shares_at front_share is_share_of is_long_share_of decode walk
    head_at kind_at head_fits body_at zeroes distinct holds same_key find record_bytes big_endian without_checksum
unlike_checksums = refl

both-held : two-held (with_bytes 0xabcd) ≡ exact (ascii "b")
unfolding two-held with_bytes near_up near_by content shares_at front_share is_share_of is_long_share_of decode walk
    head_at kind_at head_fits body_at zeroes distinct holds same_key find record_bytes big_endian without_checksum
both-held = refl

-- "index byte 9 first": 19, and an empty line
nine_first : near_up P.Hall (with_bytes 0) (9 ∷ replicate 20 0) [] ≡ damaged
unfolding near_up near_by with_bytes content shares_at front_share is_share_of is_long_share_of decode walk head_at
    kind_at zeroes
nine_first = refl

nine_says : outcome_number (near_outcome (near_says (near_up P.Hall (with_bytes 0) (9 ∷ replicate 20 0) []))) ≡ 19
unfolding near_up near_by with_bytes content shares_at front_share is_share_of is_long_share_of decode walk head_at
    kind_at zeroes
nine_says = refl

nine_line : near_line (near_up P.Hall (with_bytes 0) (9 ∷ replicate 20 0) []) ≡ []
unfolding near_up near_by with_bytes content shares_at front_share is_share_of is_long_share_of decode walk head_at
    kind_at zeroes
nine_line = refl

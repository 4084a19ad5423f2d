-- Cases of walks, computed by the definitions.
-- Assumes nothing.
use Rattle.std.specs.Prelude.{Some, None}
use mathlib.Core.Path.{◌≡◌, refl}
use mathlib.Core.List.{List, [], ◌∷◌, ◌++◌}
use Prim.Native.Nat.{ℕ}
use Rattle.text.specs.Bytes.{ascii, byte, first_of}
use Rattle.text.specs.Uuid.{big_endian}
use Rattle.text.specs.declared.uuid.Uuid.{Uuid}
use Rattle.store.specs.declared.walk.Record.TheVariants as R
use Rattle.store.specs.Held.{key_by}
use Rattle.store.specs.Layout.{record_bytes}
use Rattle.store.specs.Decode.{body_at, kind_at, head_at, front_share, is_share_of, is_long_share_of}
use Rattle.store.specs.Lines.{lines_of}
use Rattle.store.specs.Walks.{share_told, record_told, record_at, behind_line, next_line, records_from, lines_from}

one : Uuid
one = record { high = 0; low = 1 }

-- organiser 7 has a share of 3 bytes, the hall a line of 2 bytes, the organiser one of 1 byte
index : List ℕ
index = 4 ∷ 7 ∷ 0 ∷ 3 ∷ (record_bytes (key_by 0 one) 0 2 ++ record_bytes (key_by 7 one) 2 1 ++ (0 ∷ []))

share_first : record_at index 0 ≡ Some (record { told = R.Share (record { owner = 7; share = 3 }); size = 4 })
unfolding index record_at record_told share_told head_at kind_at front_share is_share_of is_long_share_of record_bytes
    big_endian
share_first = refl

line_behind : record_at index 4
    ≡ Some (record { told = R.Line (record { key = key_by 0 one; off = 0; len = 2 }); size = 21 })
unfolding index one record_at record_told head_at kind_at body_at record_bytes big_endian
line_behind = refl

all_three : records_from 4 index 0
    ≡ R.Share (record { owner = 7; share = 3 }) ∷ R.Line (record { key = key_by 0 one; off = 0; len = 2 })
    ∷ R.Line (record { key = key_by 7 one; off = 2; len = 1 }) ∷ []
unfolding records_from index one record_at record_told share_told head_at kind_at body_at front_share is_share_of
    is_long_share_of record_bytes big_endian
all_three = refl

-- a share of 65535 is none of kind 6, and one of 65536 is
small_none : record_at (6 ∷ 0 ∷ 0 ∷ 0 ∷ 255 ∷ 255 ∷ []) 0 ≡ None
unfolding record_at record_told share_told head_at kind_at front_share is_share_of is_long_share_of
small_none = refl

long_share : record_at (6 ∷ 0 ∷ 0 ∷ 1 ∷ 0 ∷ 0 ∷ []) 0
    ≡ Some (record { told = R.Share (record { owner = 0; share = 65536 }); size = 6 })
unfolding record_at record_told share_told head_at kind_at front_share is_share_of is_long_share_of
long_share = refl

-- a record that is cut off, and a place behind the end
cut_off : record_at (4 ∷ 7 ∷ 0 ∷ []) 0 ≡ None
unfolding record_at record_told share_told head_at kind_at front_share is_share_of is_long_share_of
cut_off = refl

far_behind : record_at index 1000 ≡ None
unfolding index record_at record_told share_told head_at kind_at front_share is_share_of is_long_share_of record_bytes
    big_endian
far_behind = refl

-- "a", CR LF, LF, "b", CR: one CR is dropped before the LF, and the last one stays
text : List ℕ
text = byte "a" ∷ 13 ∷ 10 ∷ 10 ∷ byte "b" ∷ 13 ∷ []

crlf_dropped : next_line text 0 ≡ Some (record { len = 1; next = 3 })
unfolding text next_line lines_of behind_line first_of
crlf_dropped = refl

nothing_between : next_line text 3 ≡ Some (record { len = 0; next = 4 })
unfolding text next_line lines_of behind_line first_of
nothing_between = refl

bare_kept : next_line text 4 ≡ Some (record { len = 2; next = 6 })
unfolding text next_line lines_of behind_line first_of
bare_kept = refl

none_at_end : next_line text 6 ≡ None
unfolding text next_line lines_of
none_at_end = refl

all_cut : lines_from 4 text 0 ≡ ascii "a" ∷ [] ∷ (byte "b" ∷ 13 ∷ []) ∷ []
unfolding lines_from text next_line lines_of behind_line first_of
all_cut = refl

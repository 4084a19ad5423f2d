-- Request P12's cases of records, computed by the definitions: a line's offset alone picks the kind.
-- Assumes nothing.
use mathlib.Core.Path.{◌≡◌, refl}
use mathlib.Core.Option.{none, some}
use mathlib.Core.List.{List, [], ◌∷◌, ◌++◌}
use Prim.Native.Nat.{ℕ}
use lib.ListN.{replicate, take}
use Rattle.text.specs.Bytes.{ascii}
use Rattle.text.specs.Uuid.{big_endian}
use Rattle.text.specs.declared.uuid.Uuid.{Uuid}
use Rattle.store.specs.declared.records.Head.{Head}
use Rattle.store.specs.Held.{Held, key_by, record_size}
use Rattle.store.specs.Layout.{record_bytes, records, texts}
use Rattle.store.specs.Decode.{body_at, kind_at, no_head, head_at, head_fits, zeroes, walk, decode, is_share_of}
use Rattle.store.specs.Decode.{is_long_share_of, front_share, shares_at, content}
use Rattle.store.specs.Book.{under}

nil : Uuid
nil = record { high = 0; low = 0 }

one : Uuid
one = record { high = 0; low = 1 }

-- the record of an owner's line under that UUID, at an offset, with a length
rec : ℕ → ℕ → ℕ → List ℕ
rec o off len = record_bytes (key_by o one) off len

says : ℕ → ℕ → ℕ → ℕ → Head
says size o off len = record { size = size; key = key_by o one; off = off; len = len }

-- a body of five bytes' line with that offset, in bytes
body : List ℕ → List ℕ
body off = replicate 15 0 ++ (1 ∷ (off ++ (0 ∷ 5 ∷ [])))

-- ---- as they are written

module _ where
  at_65535 : rec 0 65535 5 ≡ 1 ∷ body (255 ∷ 255 ∷ [])
  unfolding rec record_bytes big_endian one body
  at_65535 = refl

  at_65536 : rec 0 65536 5 ≡ 2 ∷ body (0 ∷ 1 ∷ 0 ∷ 0 ∷ [])
  unfolding rec record_bytes big_endian one body
  at_65536 = refl

  last_offset : rec 0 16777215 5 ≡ 2 ∷ body (0 ∷ 255 ∷ 255 ∷ 255 ∷ [])
  unfolding rec record_bytes big_endian one body
  last_offset = refl

  organiser_at_65535 : rec 7 65535 5 ≡ 3 ∷ 7 ∷ body (255 ∷ 255 ∷ [])
  unfolding rec record_bytes big_endian one body
  organiser_at_65535 = refl

  organiser_at_65536 : rec 7 65536 5 ≡ 5 ∷ 7 ∷ body (0 ∷ 1 ∷ 0 ∷ 0 ∷ [])
  unfolding rec record_bytes big_endian one body
  organiser_at_65536 = refl

  organiser_last_offset : rec 255 16777215 5 ≡ 5 ∷ 255 ∷ body (0 ∷ 255 ∷ 255 ∷ 255 ∷ [])
  unfolding rec record_bytes big_endian one body
  organiser_last_offset = refl

  -- "23 or 24 bytes in all"
  sizes_65535 : record_size 0 65535 ∷ record_size 7 65535 ∷ [] ≡ 21 ∷ 22 ∷ []
  sizes_65535 = refl

  sizes_65536 : record_size 0 65536 ∷ record_size 7 65536 ∷ [] ≡ 23 ∷ 24 ∷ []
  sizes_65536 = refl

-- ---- as they are read

module _ where
  reads_65535 : head_at (rec 0 65535 5 ++ (9 ∷ [])) ≡ says 21 0 65535 5
  unfolding head_at kind_at body_at rec record_bytes big_endian one says
  reads_65535 = refl

  reads_65536 : head_at (rec 0 65536 5 ++ (9 ∷ [])) ≡ says 23 0 65536 5
  unfolding head_at kind_at body_at rec record_bytes big_endian one says
  reads_65536 = refl

  reads_last : head_at (rec 0 16777215 5) ≡ says 23 0 16777215 5
  unfolding head_at kind_at body_at rec record_bytes big_endian one says
  reads_last = refl

  reads_organiser : head_at (rec 7 65536 5) ≡ says 24 7 65536 5
  unfolding head_at kind_at body_at rec record_bytes big_endian one says
  reads_organiser = refl

  reads_organiser_last : head_at (rec 255 16777215 5) ≡ says 24 255 16777215 5
  unfolding head_at kind_at body_at rec record_bytes big_endian one says
  reads_organiser_last = refl

-- ---- damaged ones: no record stands there

module _ where
  -- "no other line has"
  two_at_65535 : head_at (2 ∷ body (0 ∷ 0 ∷ 255 ∷ 255 ∷ [])) ≡ no_head
  unfolding head_at kind_at body_at body
  two_at_65535 = refl

  two_at_0 : head_at (2 ∷ body (0 ∷ 0 ∷ 0 ∷ 0 ∷ [])) ≡ no_head
  unfolding head_at kind_at body_at body
  two_at_0 = refl

  five_at_65535 : head_at (5 ∷ 7 ∷ body (0 ∷ 0 ∷ 255 ∷ 255 ∷ [])) ≡ no_head
  unfolding head_at kind_at body_at body
  five_at_65535 = refl

  five_of_nobody : head_at (5 ∷ 0 ∷ body (0 ∷ 1 ∷ 0 ∷ 0 ∷ [])) ≡ no_head
  unfolding head_at kind_at body_at body
  five_of_nobody = refl

  two_cut_off : head_at (take 22 (rec 0 65536 5)) ≡ no_head
  unfolding head_at kind_at body_at rec record_bytes big_endian one
  two_cut_off = refl

  five_cut_off : head_at (take 23 (rec 7 65536 5)) ≡ no_head
  unfolding head_at kind_at body_at rec record_bytes big_endian one
  five_cut_off = refl

  two_alone : head_at (2 ∷ []) ≡ no_head
  unfolding head_at kind_at
  two_alone = refl

  -- an empty text has no line at 65536, and byte 2 at the front is 19 there
  two_in_nothing : content (2 ∷ body (0 ∷ 1 ∷ 0 ∷ 0 ∷ [])) [] ≡ none
  unfolding content shares_at front_share is_share_of is_long_share_of decode walk head_at kind_at head_fits body_at
      body
  two_in_nothing = refl

-- ---- lines one behind the other, from an offset on

lines : List Held
lines = under 0 one (ascii "ab") ∷ under 7 one (ascii "c") ∷ under 0 nil (ascii "d") ∷ []

module _ where
  -- the first at 65535, the others behind it
  across : walk 99 65535 (records 65535 lines) (texts lines) ≡ some lines
  unfolding walk head_at kind_at head_fits body_at zeroes records texts record_bytes big_endian lines one nil
  across = refl

  kinds_across : records 65535 lines
      ≡ record_bytes (key_by 0 one) 65535 2 ++ (record_bytes (key_by 7 one) 65537 1 ++ (record_bytes (key_by 0 nil) 65538 1))
  unfolding records record_bytes big_endian lines one nil
  kinds_across = refl

  -- a line of 40 bytes is gone before them: "a record returns to its short kind"
  closed_up : records 65495 lines
      ≡ (1 ∷ (replicate 15 0 ++ (1 ∷ 255 ∷ 215 ∷ 0 ∷ 2 ∷ [])))
      ++ ((3 ∷ 7 ∷ (replicate 15 0 ++ (1 ∷ 255 ∷ 217 ∷ 0 ∷ 1 ∷ [])))
      ++ (1 ∷ (replicate 16 0 ++ (255 ∷ 218 ∷ 0 ∷ 1 ∷ []))))
  unfolding records record_bytes big_endian lines one nil
  closed_up = refl

  -- the last line of the largest text
  at_the_end : walk 99 16777215 (rec 255 16777215 1) (ascii "z") ≡ some (under 255 one (ascii "z") ∷ [])
  unfolding walk head_at kind_at head_fits body_at zeroes rec record_bytes big_endian one
  at_the_end = refl

  -- a long record where a line lies at 65535: none of its list
  long_at_65535 : walk 99 65535 (2 ∷ body (0 ∷ 0 ∷ 255 ∷ 255 ∷ [])) (ascii "abcde") ≡ none
  unfolding walk head_at kind_at head_fits body_at zeroes body
  long_at_65535 = refl

  -- a short one where a line lies at 65536: its two bytes say 0
  short_at_65536 : walk 99 65536 (1 ∷ body (0 ∷ 0 ∷ [])) (ascii "abcde") ≡ none
  unfolding walk head_at kind_at head_fits body_at zeroes body
  short_at_65536 = refl

-- Document 01's examples and traps of the store, computed by the definitions.
-- Assumes nothing.
use Rattle.std.specs.Prelude.{Ok, Err, Some, None}
use mathlib.Core.Path.{◌≡◌, refl}
use mathlib.Core.Option.{none, some}
use mathlib.Core.List.{List, [], ◌∷◌, ◌++◌}
use Prim.Native.Nat.{ℕ}
use lib.ListN.{replicate}
use Rattle.text.specs.Bytes.{ascii, same, first_of}
use Rattle.text.specs.Utf8.{begins, first_length, char_length, run_of, valid_run, is_utf8}
use Rattle.text.specs.Uuid.{hex_digit, read_hex, hyphenated, uuid_of, big_endian}
use Rattle.text.specs.declared.uuid.Form.TheVariants as Fm
use Rattle.text.specs.declared.uuid.Uuid.{Uuid}
use Rattle.store.specs.declared.parties.Party.TheVariants as P
use Rattle.store.specs.Held.{Held, key_by, same_key, strike, file, holds, distinct}
use Rattle.store.specs.Shares.{no_shares, Content, nothing_held, use_of, claims_from, share_sizes}
use Rattle.store.specs.Layout.{record_bytes, records, texts, padded, share_records, encode_index, encode_text}
use Rattle.store.specs.Decode.{body_at, kind_at, head_at, head_fits, zeroes, walk, decode, front_share, is_share_of}
use Rattle.store.specs.Decode.{is_long_share_of, shares_at}
use Rattle.store.specs.Decode.{content}
use Rattle.store.specs.Lines.{lines_of, for_platform, wanted}
use Rattle.text.specs.Search.{first_text}
use Rattle.store.specs.Book.{caller, under, record_sizes, no_index_of, no_text, room_for, reach, insert_lines}
use Rattle.store.specs.Book.{book_walk}
use Rattle.store.specs.Book.{other_spellings}
use Rattle.store.specs.Store.{store_clear, store_walk, own_insert, store_insert}
use Rattle.store.specs.declared.calls.StoreError.TheVariants as E
use Rattle.store.specs.declared.table.Full.TheVariants as R

-- UUIDs of zeros, and of zeros and a one
nil : Uuid
nil = record { high = 0; low = 0 }

one : Uuid
one = record { high = 0; low = 1 }

-- U, 32 zeros
u : List ℕ
u = ascii "00000000000000000000000000000000"

-- U with hyphens
h : List ℕ
h = ascii "00000000-0000-0000-0000-000000000000"

-- ---- lines

module _ where
  empty_text : lines_of [] ≡ []
  unfolding lines_of
  empty_text = refl

  one_lf : lines_of (ascii "\n") ≡ [] ∷ []
  unfolding lines_of
  one_lf = refl

  bare_cr : lines_of (ascii "\r") ≡ ascii "\r" ∷ []
  unfolding lines_of
  bare_cr = refl

  crlf : lines_of (ascii "\r\n") ≡ [] ∷ []
  unfolding lines_of
  crlf = refl

  lf-cr : lines_of (ascii "\n\r") ≡ [] ∷ ascii "\r" ∷ []
  unfolding lines_of
  lf-cr = refl

  two_crs : lines_of (ascii "a\r\r\n") ≡ ascii "a\r" ∷ []
  unfolding lines_of
  two_crs = refl

  final_lf : lines_of (ascii "a\nb\n") ≡ ascii "a" ∷ ascii "b" ∷ []
  unfolding lines_of
  final_lf = refl

  no_final_lf : lines_of (ascii "a\nb") ≡ ascii "a" ∷ ascii "b" ∷ []
  unfolding lines_of
  no_final_lf = refl

-- ---- wanted lines

module _ where
  no_platform : wanted (u ++ ascii ",T") ≡ Some (record { id = nil; form = Fm.Simple })
  unfolding wanted for_platform first_text uuid_of read_hex hex_digit first_of same u nil
  no_platform = refl

  uuid_alone : wanted u ≡ Some (record { id = nil; form = Fm.Simple })
  unfolding wanted for_platform first_text uuid_of read_hex hex_digit first_of same u nil
  uuid_alone = refl

  for_linux : wanted (u ++ ascii ",T,platform:Linux,") ≡ Some (record { id = nil; form = Fm.Simple })
  unfolding wanted for_platform first_text uuid_of read_hex hex_digit first_of same u nil
  for_linux = refl

  in_the_name : wanted (u ++ ascii ",myplatform:Linux,platform:Windows") ≡ Some (record { id = nil; form = Fm.Simple })
  unfolding wanted for_platform first_text uuid_of read_hex hex_digit first_of same u nil
  in_the_name = refl

  first-counts : wanted (u ++ ascii ",T,platform:Windows,platform:Linux") ≡ None
  unfolding wanted for_platform first_text first_of same u
  first-counts = refl

  cr_kept : wanted (u ++ ascii ",T,platform:Linux\r") ≡ None
  unfolding wanted for_platform first_text first_of same u
  cr_kept = refl

  not_exactly : wanted (u ++ ascii ",T,platform:Linux:x") ≡ None
  unfolding wanted for_platform first_text first_of same u
  not_exactly = refl

  twice : wanted (u ++ ascii ",T,platform:platform:Linux") ≡ None
  unfolding wanted for_platform first_text first_of same u
  twice = refl

  nothing_follows : wanted (u ++ ascii ",T,platform:") ≡ None
  unfolding wanted for_platform first_text first_of same u
  nothing_follows = refl

  xinput_unwanted : wanted (ascii "xinput,T,a:b1,") ≡ None
  unfolding wanted for_platform first_text uuid_of first_of same
  xinput_unwanted = refl

-- ---- no room

module _ where
  index_of_20 : room_for (caller 20 1 no_shares 0) (under 0 nil (ascii "a")) [] ≡ Err R.Index
  unfolding room_for no_index_of no_text share_sizes claims_from use_of record_sizes strike file
  index_of_20 = refl

  fresh_fits : room_for (caller 21 1 no_shares 0) (under 0 nil (ascii "a")) [] ≡ Ok tt
  unfolding room_for no_index_of no_text share_sizes claims_from use_of record_sizes strike file
  fresh_fits = refl

  own_line_left_out : room_for (caller 21 60 no_shares 0) (under 0 nil (replicate 60 97))
      (under 0 nil (replicate 60 98) ∷ []) ≡ Ok tt
  unfolding room_for no_index_of no_text share_sizes claims_from use_of record_sizes strike same_key nil file
  own_line_left_out = refl

  other_line_counts : room_for (caller 41 3 no_shares 0) (under 0 nil (ascii "a")) (under 0 one (ascii "b") ∷ [])
      ≡ Err R.Index
  unfolding room_for no_index_of no_text share_sizes claims_from use_of record_sizes strike same_key nil one file
  other_line_counts = refl

  -- document 01's 21 for text; P10: "25, that sum too large on a filing, in place of 21 for text"
  text_of_one : room_for (caller 42 1 no_shares 0) (under 0 nil (ascii "a")) (under 0 one (ascii "b") ∷ []) ≡ Err R.Text
  unfolding room_for no_index_of no_text share_sizes claims_from use_of record_sizes strike same_key nil one file
  text_of_one = refl

-- ---- soundness

-- those lines, and no shares
lines : List Held → Content
lines hs = record { shares = no_shares; held = hs }

-- the record of a UUID at an offset, with a length
rec : Uuid → ℕ → ℕ → List ℕ
rec k off len = record_bytes (key_by 0 k) off len

module _ where
  fresh_store : content (replicate 22 0) (replicate 3 0) ≡ some nothing_held
  unfolding content shares_at front_share is_share_of is_long_share_of decode walk head_at kind_at zeroes distinct
  fresh_store = refl

  one_line : content (rec one 0 5 ++ replicate 2 0) (ascii "hello" ++ replicate 2 0)
      ≡ some (lines (under 0 one (ascii "hello") ∷ []))
  unfolding content shares_at front_share is_share_of is_long_share_of decode walk head_at kind_at head_fits body_at
      zeroes distinct holds record_bytes big_endian rec one lines
  one_line = refl

  two_lines : content (rec one 0 2 ++ rec nil 2 1) (ascii "abc")
      ≡ some (lines (under 0 one (ascii "ab") ∷ under 0 nil (ascii "c") ∷ []))
  unfolding content shares_at front_share is_share_of is_long_share_of decode walk head_at kind_at head_fits body_at
      zeroes distinct holds same_key record_bytes big_endian rec one nil lines
  two_lines = refl

  -- a line may end with zero bytes
  zero-byte : content (rec one 0 2) (97 ∷ 0 ∷ []) ≡ some (lines (under 0 one (97 ∷ 0 ∷ []) ∷ []))
  unfolding content shares_at front_share is_share_of is_long_share_of decode walk head_at kind_at head_fits body_at
      zeroes distinct holds record_bytes big_endian rec one lines
  zero-byte = refl

  -- document 01: "index byte 9 first"
  kind_nine : content (9 ∷ replicate 20 0) [] ≡ none
  unfolding content shares_at front_share is_share_of is_long_share_of decode walk head_at kind_at zeroes
  kind_nine = refl

  kind_zero_first : content (0 ∷ rec one 0 1) (ascii "a") ≡ none
  unfolding content shares_at front_share is_share_of is_long_share_of decode walk head_at kind_at zeroes record_bytes
      big_endian rec one
  kind_zero_first = refl

  truncated : content (1 ∷ replicate 19 0) [] ≡ none
  unfolding content shares_at front_share is_share_of is_long_share_of decode walk head_at kind_at zeroes
  truncated = refl

  gap : content (rec one 1 1) (ascii "ab") ≡ none
  unfolding content shares_at front_share is_share_of is_long_share_of decode walk head_at kind_at head_fits body_at
      zeroes distinct record_bytes big_endian rec one
  gap = refl

  overlap : content (rec one 0 2 ++ rec nil 1 1) (ascii "ab") ≡ none
  unfolding content shares_at front_share is_share_of is_long_share_of decode walk head_at kind_at head_fits body_at
      zeroes distinct holds same_key record_bytes big_endian rec one nil
  overlap = refl

  swapped : content (rec one 1 1 ++ rec nil 0 1) (ascii "ab") ≡ none
  unfolding content shares_at front_share is_share_of is_long_share_of decode walk head_at kind_at head_fits body_at
      zeroes distinct holds same_key record_bytes big_endian rec one nil
  swapped = refl

  past_the_text : content (rec one 0 2) (ascii "a") ≡ none
  unfolding content shares_at front_share is_share_of is_long_share_of decode walk head_at kind_at head_fits body_at
      zeroes distinct record_bytes big_endian rec one
  past_the_text = refl

  index_tail : content (rec one 0 1 ++ (0 ∷ 7 ∷ [])) (ascii "a") ≡ none
  unfolding content shares_at front_share is_share_of is_long_share_of decode walk head_at kind_at head_fits body_at
      zeroes distinct record_bytes big_endian rec one
  index_tail = refl

  text_tail : content (rec one 0 1) (ascii "ab") ≡ none
  unfolding content shares_at front_share is_share_of is_long_share_of decode walk head_at kind_at head_fits body_at
      zeroes distinct record_bytes big_endian rec one
  text_tail = refl

  same_uuid_twice : content (rec one 0 1 ++ rec one 1 1) (ascii "ab") ≡ none
  unfolding content shares_at front_share is_share_of is_long_share_of decode walk head_at kind_at head_fits body_at
      zeroes distinct holds same_key record_bytes big_endian rec one
  same_uuid_twice = refl

  length-zero : content (rec one 0 0) (ascii "") ≡ none
  unfolding content shares_at front_share is_share_of is_long_share_of decode walk head_at kind_at head_fits body_at
      zeroes distinct record_bytes big_endian rec one
  length-zero = refl

  length_16385 : content (rec one 0 16385) (replicate 16385 97) ≡ none
  unfolding content shares_at front_share is_share_of is_long_share_of decode walk head_at kind_at head_fits body_at
      zeroes distinct record_bytes big_endian rec one
  length_16385 = refl

  -- one byte more than the first hub took
  length_4097 : content (rec one 0 4097) (replicate 4097 97) ≡ some (lines (under 0 one (replicate 4097 97) ∷ []))
  unfolding content shares_at front_share is_share_of is_long_share_of decode walk head_at kind_at head_fits body_at
      zeroes distinct holds record_bytes big_endian rec one lines
  length_4097 = refl

-- ---- inserts

module _ where
  -- 19 comes before 10
  unsound_first : store_insert (9 ∷ []) [] P.Hall (255 ∷ [])
      ≡ record { answer = record { answer = Err E.Unsound; count = 0; not_simple = 0 }; index = 9 ∷ []; text = [] }
  unfolding store_insert own_insert store_walk other_spellings content shares_at front_share is_share_of
      is_long_share_of decode walk head_at kind_at zeroes lines_of
  unsound_first = refl

  -- 10 at the length of the valid run, and nothing filed
  not_utf8 : store_insert (0 ∷ []) [] P.Hall (65 ∷ 195 ∷ [])
      ≡ record { answer = record { answer = Err (E.NotUtf8 1); count = 0; not_simple = 0 }; index = 0 ∷ []; text = [] }
  unfolding store_insert own_insert store_walk other_spellings content shares_at front_share is_share_of
      is_long_share_of decode walk head_at kind_at zeroes distinct book_walk is_utf8 valid_run run_of char_length
      first_length begins encode_index share_records encode_text records texts padded
  not_utf8 = refl

  -- an unwanted line is counted, a wanted one filed without its CR
  filed : store_insert (replicate 22 0) (replicate 33 0) P.Hall (ascii "x\n" ++ (u ++ ascii "\r\n"))
      ≡ record {
        answer = record { answer = Ok tt; count = 2; not_simple = 0 };
        index = rec nil 0 32 ++ (0 ∷ []);
        text =
            u ++ (0 ∷ []);
      }
  unfolding store_insert own_insert store_walk other_spellings content shares_at front_share is_share_of
      is_long_share_of decode walk head_at kind_at zeroes distinct book_walk is_utf8 valid_run run_of char_length
      first_length begins encode_index share_records encode_text records texts padded lines_of insert_lines reach wanted
      for_platform first_text uuid_of read_hex hex_digit first_of same room_for no_index_of no_text share_sizes
      claims_from use_of record_sizes strike file record_bytes big_endian rec u nil
  filed = refl

  -- "index of 20 bytes": 21, after one line
  full : store_insert (replicate 20 0) (replicate 33 0) P.Hall (ascii "x\n" ++ u)
      ≡ record {
        answer = record { answer = Err E.NoRoom; count = 1; not_simple = 0 };
        index = replicate 20 0;
        text = replicate 33 0;
      }
  unfolding store_insert own_insert store_walk other_spellings content shares_at front_share is_share_of
      is_long_share_of decode walk head_at kind_at zeroes distinct book_walk is_utf8 valid_run run_of char_length
      first_length begins encode_index share_records encode_text records texts padded lines_of insert_lines reach wanted
      for_platform first_text uuid_of read_hex hex_digit first_of same room_for no_index_of no_text share_sizes
      claims_from use_of record_sizes strike u nil file
  full = refl

  -- request P11: of the lines that are filed those in another form than 32 digits; one is replaced, one is not wanted,
  -- and the last has no room
  forms : (store_insert (replicate 21 0) (replicate 99 0) P.Hall
      (h ++ (ascii "\n{" ++ (h ++ (ascii "},T\n" ++ (u ++ (ascii "\nxinput,T\n" ++ (h ++ (ascii ",platform:Mac\n"
      ++ ascii "00000000-0000-0000-0000-000000000001"))))))))
      ).answer
      ≡ record { answer = Err E.NoRoom; count = 5; not_simple = 2 }
  unfolding store_insert own_insert store_walk other_spellings content shares_at front_share is_share_of
      is_long_share_of decode walk head_at kind_at zeroes distinct book_walk is_utf8 valid_run run_of char_length
      first_length begins lines_of insert_lines reach wanted for_platform first_text uuid_of hyphenated read_hex
      hex_digit first_of same room_for no_index_of no_text share_sizes claims_from use_of record_sizes strike file
      same_key h u nil
  forms = refl

  cleared : store_clear (9 ∷ []) (1 ∷ 2 ∷ []) ≡ record { answer = Ok tt; index = 0 ∷ []; text = 0 ∷ 0 ∷ [] }
  unfolding store_clear
  cleared = refl

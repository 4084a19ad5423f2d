-- Request P9's cases, computed by the definitions.
-- Assumes nothing.
use Rattle.std.specs.Prelude.{Ok, Err}
use mathlib.Core.Path.{◌≡◌, refl}
use mathlib.Core.Option.{none, some}
use mathlib.Core.List.{List, [], ◌∷◌, ◌++◌, map}
use Prim.Native.Nat.{ℕ}
use native.Mathlib.Omega.{arith}
use lib.ListN.{replicate, take}
use Rattle.text.specs.Bytes.{ascii, same, first_of}
use Rattle.text.specs.Utf8.{begins, first_length, char_length, run_of, valid_run, is_utf8}
use Rattle.text.specs.Uuid.{hex_digit, read_hex, uuid_of, big_endian, without_checksum}
use Rattle.text.specs.Search.{first_text}
use Rattle.text.specs.declared.uuid.Uuid.{Uuid}
use Rattle.map.specs.declared.mapping_data.MappingData.{MappingData}
use Rattle.store.specs.declared.parties.Party.TheVariants as P
use Rattle.store.specs.Parties.{Named}
use Rattle.store.specs.Held.{Held, key_by, same_key, strike, file, find, holds, distinct}
use Rattle.store.specs.Shares.{no_shares, Content, use_of, claims_from, share_sizes}
use Rattle.store.specs.Layout.{record_bytes, records, texts, padded, share_records, encode_index, encode_text}
use Rattle.store.specs.Decode.{body_at, kind_at, head_at, head_fits, zeroes, walk, decode, front_share, is_share_of}
use Rattle.store.specs.Decode.{is_long_share_of, shares_at}
use Rattle.store.specs.Decode.{content}
use Rattle.store.specs.Lines.{lines_of, for_platform, wanted}
use Rattle.store.specs.Book.{caller, under, record_sizes, no_index_of, no_text, room_for, reach, insert_lines}
use Rattle.store.specs.Book.{book_walk}
use Rattle.store.specs.Book.{number_of, other_spellings, insert, clear}
use Rattle.store.specs.Store.{store_clear, store_walk, own_insert, store_insert, store_call, run_store, look_by}
use Rattle.store.specs.Store.{look_up}
use Rattle.store.specs.Store.{found, nothing, unsound, no_owner, says_of, line_of}
use Rattle.store.specs.Saves.{save_args, store_save, refused_save}
use Rattle.store.specs.Refusals.{outcome_number, number, save_number, look_outcome}
use Rattle.store.specs.Guarantee.{Calls, stored}
use Rattle.store.specs.Near.{near, nobody, near_by, near_up, near_says, near_outcome}
use Rattle.line.specs.Refusals.{refusal}
use Rattle.store.specs.declared.calls.StoreError.TheVariants as E
use Rattle.store.specs.declared.calls.SaveError.TheVariants as Sv
use Rattle.store.specs.declared.table.Full.TheVariants as R

-- U, and zeros with a one
nil : Uuid
nil = record { high = 0; low = 0 }

one : Uuid
one = record { high = 0; low = 1 }

u : List ℕ
u = ascii "00000000000000000000000000000000"

-- the record of an owner's line under a UUID, at an offset, with a length
rec : ℕ → Uuid → ℕ → ℕ → List ℕ
rec o k off len = record_bytes (key_by o k) off len

-- those lines, and no shares
lines : List Held → Content
lines hs = record { shares = no_shares; held = hs }

-- ---- records

module _ where
  kind_one : rec 0 one 2 5 ≡ 1 ∷ (replicate 15 0 ++ (1 ∷ 0 ∷ 2 ∷ 0 ∷ 5 ∷ []))
  unfolding rec record_bytes big_endian one
  kind_one = refl

  kind_three : rec 7 one 2 5 ≡ 3 ∷ 7 ∷ (replicate 15 0 ++ (1 ∷ 0 ∷ 2 ∷ 0 ∷ 5 ∷ []))
  unfolding rec record_bytes big_endian one
  kind_three = refl

  -- hall, 3, hall: one list, in the order of filing
  mixed : content (rec 0 one 0 1 ++ (rec 3 nil 1 1 ++ rec 0 nil 2 1)) (ascii "abc")
      ≡ some (lines (under 0 one (ascii "a") ∷ under 3 nil (ascii "b") ∷ under 0 nil (ascii "c") ∷ []))
  unfolding content shares_at front_share is_share_of is_long_share_of decode walk head_at kind_at head_fits body_at
      zeroes distinct holds same_key record_bytes big_endian rec one nil lines
  mixed = refl

  -- two parties may hold the same UUID
  both_hold : content (rec 0 nil 0 1 ++ rec 1 nil 1 1) (ascii "ab")
      ≡ some (lines (under 0 nil (ascii "a") ∷ under 1 nil (ascii "b") ∷ []))
  unfolding content shares_at front_share is_share_of is_long_share_of decode walk head_at kind_at head_fits body_at
      zeroes distinct holds same_key record_bytes big_endian rec nil lines
  both_hold = refl

  last_owner : content (rec 255 nil 0 1) (ascii "a") ≡ some (lines (under 255 nil (ascii "a") ∷ []))
  unfolding content shares_at front_share is_share_of is_long_share_of decode walk head_at kind_at head_fits body_at
      zeroes distinct holds same_key record_bytes big_endian rec nil lines
  last_owner = refl

  -- "No party has a UUID twice."
  one_holds_twice : content (rec 1 nil 0 1 ++ rec 1 nil 1 1) (ascii "ab") ≡ none
  unfolding content shares_at front_share is_share_of is_long_share_of decode walk head_at kind_at head_fits body_at
      zeroes distinct holds same_key record_bytes big_endian rec nil
  one_holds_twice = refl

  -- "an owner byte from 1 to 255"
  owner_zero : content (3 ∷ 0 ∷ (replicate 17 0 ++ (0 ∷ 0 ∷ 1 ∷ []))) (ascii "a") ≡ none
  unfolding content shares_at front_share is_share_of is_long_share_of decode walk head_at kind_at zeroes
  owner_zero = refl

  cut_off : content (take 21 (rec 1 nil 0 1)) (ascii "a") ≡ none
  unfolding content shares_at front_share is_share_of is_long_share_of decode walk head_at kind_at zeroes record_bytes
      big_endian rec nil
  cut_off = refl

  kind_alone : content (3 ∷ []) [] ≡ none
  unfolding content shares_at front_share is_share_of is_long_share_of decode walk head_at kind_at zeroes
  kind_alone = refl

-- ---- no room: "a record being 21 bytes for the hall and 22 for an organiser"

module _ where
  index_of_42 : room_for (caller 42 2 no_shares 3) (under 3 nil (ascii "a")) (under 0 nil (ascii "b") ∷ [])
      ≡ Err R.Index
  unfolding room_for no_index_of no_text share_sizes claims_from use_of strike record_sizes same_key nil file
  index_of_42 = refl

  index_of_43 : room_for (caller 43 2 no_shares 3) (under 3 nil (ascii "a")) (under 0 nil (ascii "b") ∷ []) ≡ Ok tt
  unfolding room_for no_index_of no_text share_sizes claims_from use_of strike record_sizes same_key nil file
  index_of_43 = refl

  -- another party's line of the same UUID counts; P10: "25, [..] in place of 21 for text"
  text_of_1 : room_for (caller 43 1 no_shares 3) (under 3 nil (ascii "a")) (under 0 nil (ascii "b") ∷ []) ≡ Err R.Text
  unfolding room_for no_index_of no_text share_sizes claims_from use_of strike record_sizes same_key nil file
  text_of_1 = refl

  -- the caller's own does not
  own_left_out : room_for (caller 22 1 no_shares 3) (under 3 nil (ascii "a")) (under 3 nil (ascii "b") ∷ []) ≡ Ok tt
  unfolding room_for no_index_of no_text share_sizes claims_from use_of strike record_sizes same_key nil file
  own_left_out = refl

-- ---- 24, before every other check

module _ where
  -- before 19 and 10; "an insert then counts 0 lines"
  nobody_inserts_lem : store_insert (9 ∷ []) [] (P.Organiser 0) (255 ∷ [])
      ≡ record { answer = record { answer = Err E.NoOwner; count = 0; not_simple = 0 }; index = 9 ∷ []; text = [] }
  unfolding store_insert
  nobody_inserts_lem = refl

  nobody_number : number (Err E.NoOwner) ≡ 24
  nobody_number = refl

  -- before 10, 13 and 17, whatever is saved
  nobody_saves : (d : MappingData)
      → store_save (9 ∷ []) [] (P.Organiser 0) (save_args d [] [] (255 ∷ replicate 9000 44) nil)
      ≡ record { answer = refused_save Sv.NoOwner; index = 9 ∷ []; text = [] }
  unfolding store_save
  nobody_saves d = refl

  nobody_save_number : save_number (Err Sv.NoOwner) ≡ 24
  nobody_save_number = refl

  nobody_looks : look_up (P.Organiser 0) nil (9 ∷ []) [] ≡ no_owner
  unfolding look_up
  nobody_looks = refl

  nobody_is_told : look_outcome (says_of (look_up (P.Organiser 0) nil (9 ∷ []) [])) ≡ Err (refusal 24)
  unfolding look_up
  nobody_is_told = refl

  nobody_gets : line_of (look_up (P.Organiser 0) nil (9 ∷ []) []) ≡ []
  unfolding look_up
  nobody_gets = refl

  nobody_near : near_up (P.Organiser 0) nil (9 ∷ []) [] ≡ nobody
  unfolding near_up
  nobody_near = refl

  nobody_near_number : outcome_number (near_outcome (near_says (near_up (P.Organiser 0) nil (9 ∷ []) []))) ≡ 24
  unfolding near_up
  nobody_near_number = refl

  -- an organiser of a damaged store gets 19
  one_looks : look_up (P.Organiser 1) nil (9 ∷ []) [] ≡ unsound
  unfolding look_up look_by content shares_at front_share is_share_of is_long_share_of decode walk head_at kind_at
      zeroes
  one_looks = refl

-- ---- look-ups find the party's own lines

module _ where
  hall_finds : look_up P.Hall nil (rec 0 nil 0 1) (ascii "a") ≡ found (ascii "a")
  unfolding look_up look_by content shares_at front_share is_share_of is_long_share_of decode walk head_at kind_at
      head_fits body_at zeroes distinct holds same_key find record_bytes big_endian rec nil
  hall_finds = refl

  three_does_not : look_up (P.Organiser 3) nil (rec 0 nil 0 1) (ascii "a") ≡ nothing
  unfolding look_up look_by content shares_at front_share is_share_of is_long_share_of decode walk head_at kind_at
      head_fits body_at zeroes distinct holds same_key find record_bytes big_endian rec nil
  three_does_not = refl

  -- both tries of a near look-up within the party's lines
  three_near : near_up (P.Organiser 3) (record { high = 0xabcd00000000; low = 0 }) (rec 0 nil 0 1 ++ rec 3 nil 1 1)
      (ascii "ab") ≡ near (ascii "b")
  unfolding near_up near_by content shares_at front_share is_share_of is_long_share_of decode walk head_at kind_at
      head_fits body_at zeroes distinct holds same_key find record_bytes big_endian without_checksum rec nil
  three_near = refl

-- ---- a history of two parties under one UUID

hall : Named
hall = record { party = P.Hall; bits = tt }

seven : Named
seven = record { party = P.Organiser 7; bits = omega arith }

zero : Named
zero = record { party = P.Organiser 0; bits = omega arith }

shared : Calls
shared = insert hall u ∷ insert seven (u ++ ascii ",7") ∷ insert zero u ∷ insert hall (u ++ ascii ",x") ∷ []

-- an index for one record of each, and a text for both lines: the hall's second line replaces its first
seven_finds : look_up (P.Organiser 7) nil (stored 43 68 shared).index (stored 43 68 shared).text
    ≡ found (u ++ ascii ",7")
unfolding run_store store_call store_insert own_insert store_walk other_spellings content shares_at front_share
    is_share_of is_long_share_of decode walk head_at kind_at head_fits body_at zeroes distinct holds same_key book_walk
    is_utf8 valid_run run_of char_length first_length begins encode_index share_records encode_text records texts padded
    lines_of insert_lines reach wanted for_platform first_text uuid_of read_hex hex_digit first_of same room_for
    no_index_of no_text share_sizes claims_from use_of record_sizes strike file record_bytes big_endian look_up look_by
    find shared hall seven zero u nil
seven_finds = refl

hall_finds_last : look_up P.Hall nil (stored 43 68 shared).index (stored 43 68 shared).text ≡ found (u ++ ascii ",x")
unfolding run_store store_call store_insert own_insert store_walk other_spellings content shares_at front_share
    is_share_of is_long_share_of decode walk head_at kind_at head_fits body_at zeroes distinct holds same_key book_walk
    is_utf8 valid_run run_of char_length first_length begins encode_index share_records encode_text records texts padded
    lines_of insert_lines reach wanted for_platform first_text uuid_of read_hex hex_digit first_of same room_for
    no_index_of no_text share_sizes claims_from use_of record_sizes strike file record_bytes big_endian look_up look_by
    find shared hall seven zero u nil
hall_finds_last = refl

shared_numbers : map number_of (stored 43 68 shared).answers ≡ 0 ∷ 0 ∷ 24 ∷ 0 ∷ []
unfolding run_store store_call store_insert own_insert store_walk other_spellings content shares_at front_share
    is_share_of is_long_share_of decode walk head_at kind_at head_fits body_at zeroes distinct holds same_key book_walk
    is_utf8 valid_run run_of char_length first_length begins encode_index share_records encode_text records texts padded
    lines_of insert_lines reach wanted for_platform first_text uuid_of read_hex hex_digit first_of same room_for
    no_index_of no_text share_sizes claims_from use_of record_sizes strike file record_bytes big_endian shared hall
    seven zero u nil
shared_numbers = refl

-- "clear is the hall's and empties everything"
cleared_all : look_up (P.Organiser 7) nil (stored 43 68 (shared ++ (clear ∷ []))).index
    (stored 43 68 (shared ++ (clear ∷ []))).text ≡ nothing
unfolding run_store store_call store_insert own_insert store_walk other_spellings content shares_at front_share
    is_share_of is_long_share_of decode walk head_at kind_at head_fits body_at zeroes distinct holds same_key book_walk
    is_utf8 valid_run run_of char_length first_length begins encode_index share_records encode_text records texts padded
    lines_of insert_lines reach wanted for_platform first_text uuid_of read_hex hex_digit first_of same room_for
    no_index_of no_text share_sizes claims_from use_of record_sizes strike file record_bytes big_endian look_up look_by
    find store_clear shared hall seven zero u nil
cleared_all = refl

-- Request P10's cases, and P12's of shares, computed by the definitions.
-- Assumes nothing.
use Rattle.std.specs.Prelude.{Ok, Err}
use mathlib.Core.Path.{◌≡◌, refl}
use mathlib.Core.Option.{none, some}
use mathlib.Core.List.{List, [], ◌∷◌, ◌++◌, map}
use Prim.Native.Nat.{ℕ}
use native.Mathlib.Omega.{arith}
use lib.ListN.{replicate, set}
use Rattle.text.specs.Bytes.{ascii, same, first_of}
use Rattle.text.specs.Utf8.{begins, first_length, char_length, run_of, valid_run, is_utf8}
use Rattle.text.specs.Uuid.{hex_digit, read_hex, uuid_of, big_endian}
use Rattle.text.specs.Search.{first_text}
use Rattle.text.specs.declared.uuid.Uuid.{Uuid}
use Rattle.store.specs.declared.parties.Party.TheVariants as P
use Rattle.store.specs.Parties.{Named, OwnerByte}
use Rattle.store.specs.Held.{Held, key_by, same_key, strike, file, find, holds, distinct}
use Rattle.store.specs.Shares.{no_shares, Content, nothing_held, use_of, claims_from, claims, share_sizes}
use Rattle.store.specs.Layout.{record_bytes, records, texts, padded, share_bytes, share_records, encode_index}
use Rattle.store.specs.Layout.{encode_text}
use Rattle.store.specs.Decode.{body_at, kind_at, head_at, head_fits, zeroes, walk, decode, is_share_of, is_long_share_of, front_share}
use Rattle.store.specs.Decode.{shares_at}
use Rattle.store.specs.Decode.{content}
use Rattle.store.specs.Lines.{lines_of, for_platform, wanted}
use Rattle.store.specs.Refusals.{number}
use Rattle.store.specs.Book.{caller, under, record_sizes, no_index_of, no_text, room_for, reach, insert_lines, book_walk}
use Rattle.store.specs.Book.{over_text, over_index, book_share, other_spellings, number_of, insert, clear, share}
use Rattle.store.specs.Store.{store_clear, store_walk, own_insert, store_insert, store_share, store_told, store_call}
use Rattle.store.specs.Store.{run_store, look_by, look_up, found}
use Rattle.store.specs.Guarantee.{Calls, stored}
use Rattle.store.specs.declared.calls.StoreError.TheVariants as E
use Rattle.store.specs.declared.table.Full.TheVariants as R

-- U, and zeros with a one
nil : Uuid
nil = record { high = 0; low = 0 }

one : Uuid
one = record { high = 0; low = 1 }

u : List ℕ
u = ascii "00000000000000000000000000000000"

-- the record of the hall's line under a UUID, at an offset, with a length
rec : Uuid → ℕ → ℕ → List ℕ
rec k off len = record_bytes (key_by 0 k) off len

-- one party's share alone
only : ℕ → ℕ → List ℕ
only o b = set no_shares o b

-- what a store holds
holding : List ℕ → List Held → Content
holding s hs = record { shares = s; held = hs }

-- ---- records: "kind 4, that byte, share (2)"; P12: "kind 6, the owner byte and four bytes of share"

module _ where
  one_share : share_bytes 3 258 ≡ 4 ∷ 3 ∷ 1 ∷ 2 ∷ []
  unfolding big_endian
  one_share = refl

  -- "share 0 has no record"
  no_share : share_bytes 3 0 ≡ []
  no_share = refl

  -- "A share over 65535, and no other"
  last_short : share_bytes 3 65535 ≡ 4 ∷ 3 ∷ 255 ∷ 255 ∷ []
  unfolding big_endian
  last_short = refl

  first_long : share_bytes 3 65536 ≡ 6 ∷ 3 ∷ 0 ∷ 1 ∷ 0 ∷ 0 ∷ []
  unfolding big_endian
  first_long = refl

  last_long : share_bytes 3 4294967295 ≡ 6 ∷ 3 ∷ 255 ∷ 255 ∷ 255 ∷ 255 ∷ []
  unfolding big_endian
  last_long = refl

  -- "by owner"
  two_shares : share_records 0 (set (only 255 1) 0 258) ≡ 4 ∷ 0 ∷ 1 ∷ 2 ∷ 4 ∷ 255 ∷ 0 ∷ 1 ∷ []
  unfolding share_records big_endian only
  two_shares = refl

-- ---- soundness

module _ where
  share_and_line : content (4 ∷ 3 ∷ 1 ∷ 2 ∷ (rec one 0 1 ++ (0 ∷ []))) (ascii "a")
      ≡ some (holding (only 3 258) (under 0 one (ascii "a") ∷ []))
  unfolding content shares_at front_share is_share_of is_long_share_of decode walk head_at kind_at head_fits body_at zeroes distinct holds record_bytes
      big_endian rec one only holding
  share_and_line = refl

  hall_and_last : content (4 ∷ 0 ∷ 0 ∷ 1 ∷ 4 ∷ 255 ∷ 0 ∷ 2 ∷ []) (replicate 3 0)
      ≡ some (holding (set (only 255 2) 0 1) [])
  unfolding content shares_at front_share is_share_of is_long_share_of decode walk head_at kind_at zeroes distinct only holding
  hall_and_last = refl

  -- the shares may exceed the text: soundness names no such rule
  beyond_the_text : content (4 ∷ 1 ∷ 0 ∷ 9 ∷ []) (replicate 5 0) ≡ some (holding (only 1 9) [])
  unfolding content shares_at front_share is_share_of is_long_share_of decode walk head_at kind_at zeroes distinct only holding
  beyond_the_text = refl

  -- kind 6, also beyond the text; its owner before that of a kind 4, which is larger
  long_and_line : content (6 ∷ 3 ∷ 0 ∷ 1 ∷ 0 ∷ 0 ∷ (rec one 0 1 ++ (0 ∷ []))) (ascii "a")
      ≡ some (holding (only 3 65536) (under 0 one (ascii "a") ∷ []))
  unfolding content shares_at front_share is_share_of is_long_share_of decode walk head_at kind_at head_fits body_at zeroes distinct
      holds record_bytes big_endian rec one only holding
  long_and_line = refl

  most_of_all : content (6 ∷ 3 ∷ 255 ∷ 255 ∷ 255 ∷ 255 ∷ []) [] ≡ some (holding (only 3 4294967295) [])
  unfolding content shares_at front_share is_share_of is_long_share_of decode walk head_at kind_at zeroes distinct only holding
  most_of_all = refl

  six_and_four : content (6 ∷ 3 ∷ 0 ∷ 1 ∷ 0 ∷ 0 ∷ 4 ∷ 4 ∷ 0 ∷ 1 ∷ []) (replicate 5 0)
      ≡ some (holding (set (only 4 1) 3 65536) [])
  unfolding content shares_at front_share is_share_of is_long_share_of decode walk head_at kind_at zeroes distinct only holding
  six_and_four = refl

  -- "and no other": kind 6 with 65535, and with 0
  six_of_65535 : content (6 ∷ 3 ∷ 0 ∷ 0 ∷ 255 ∷ 255 ∷ []) (replicate 5 0) ≡ none
  unfolding content shares_at front_share is_share_of is_long_share_of decode walk head_at kind_at zeroes
  six_of_65535 = refl

  six_of_zero : content (6 ∷ 3 ∷ 0 ∷ 0 ∷ 0 ∷ 0 ∷ []) (replicate 5 0) ≡ none
  unfolding content shares_at front_share is_share_of is_long_share_of decode walk head_at kind_at zeroes
  six_of_zero = refl

  -- "where its kind 4 would stand": 4 before 3; 3 twice
  four_and_six : content (4 ∷ 4 ∷ 0 ∷ 1 ∷ 6 ∷ 3 ∷ 0 ∷ 1 ∷ 0 ∷ 0 ∷ []) (replicate 5 0) ≡ none
  unfolding content shares_at front_share is_share_of is_long_share_of decode walk head_at kind_at zeroes
  four_and_six = refl

  both_kinds : content (4 ∷ 3 ∷ 0 ∷ 1 ∷ 6 ∷ 3 ∷ 0 ∷ 1 ∷ 0 ∷ 0 ∷ []) (replicate 5 0) ≡ none
  unfolding content shares_at front_share is_share_of is_long_share_of decode walk head_at kind_at zeroes
  both_kinds = refl

  -- a record of kind 6 that is cut off
  six_alone : content (6 ∷ []) [] ≡ none
  unfolding content shares_at front_share is_share_of is_long_share_of decode walk head_at kind_at zeroes
  six_alone = refl

  six_of_two : content (6 ∷ 3 ∷ []) [] ≡ none
  unfolding content shares_at front_share is_share_of is_long_share_of decode walk head_at kind_at zeroes
  six_of_two = refl

  six_of_three : content (6 ∷ 3 ∷ 0 ∷ []) [] ≡ none
  unfolding content shares_at front_share is_share_of is_long_share_of decode walk head_at kind_at zeroes
  six_of_three = refl

  six_of_four : content (6 ∷ 3 ∷ 0 ∷ 1 ∷ []) [] ≡ none
  unfolding content shares_at front_share is_share_of is_long_share_of decode walk head_at kind_at zeroes
  six_of_four = refl

  six_of_five : content (6 ∷ 3 ∷ 0 ∷ 1 ∷ 0 ∷ []) [] ≡ none
  unfolding content shares_at front_share is_share_of is_long_share_of decode walk head_at kind_at zeroes
  six_of_five = refl

  -- "by owner": 3 before 2, and 3 twice
  out_of_order : content (4 ∷ 3 ∷ 0 ∷ 1 ∷ 4 ∷ 2 ∷ 0 ∷ 1 ∷ []) (replicate 5 0) ≡ none
  unfolding content shares_at front_share is_share_of is_long_share_of decode walk head_at kind_at zeroes
  out_of_order = refl

  doubled : content (4 ∷ 3 ∷ 0 ∷ 1 ∷ 4 ∷ 3 ∷ 0 ∷ 1 ∷ []) (replicate 5 0) ≡ none
  unfolding content shares_at front_share is_share_of is_long_share_of decode walk head_at kind_at zeroes
  doubled = refl

  -- "share 0 has no record"
  share_of-zero : content (4 ∷ 3 ∷ 0 ∷ 0 ∷ []) (replicate 5 0) ≡ none
  unfolding content shares_at front_share is_share_of is_long_share_of decode walk head_at kind_at zeroes
  share_of-zero = refl

  -- "These stand first"
  behind_a_line : content (rec one 0 1 ++ (4 ∷ 3 ∷ 0 ∷ 1 ∷ [])) (ascii "a") ≡ none
  unfolding content shares_at front_share is_share_of is_long_share_of decode walk head_at kind_at head_fits body_at zeroes record_bytes big_endian rec one
  behind_a_line = refl

  behind-zeros : content (0 ∷ 4 ∷ 3 ∷ 0 ∷ 1 ∷ []) (replicate 5 0) ≡ none
  unfolding content shares_at front_share is_share_of is_long_share_of decode walk head_at kind_at zeroes
  behind-zeros = refl

  -- a record that is cut off
  kind_alone : content (4 ∷ []) [] ≡ none
  unfolding content shares_at front_share is_share_of is_long_share_of decode walk head_at kind_at zeroes
  kind_alone = refl

  two_bytes : content (4 ∷ 3 ∷ []) [] ≡ none
  unfolding content shares_at front_share is_share_of is_long_share_of decode walk head_at kind_at zeroes
  two_bytes = refl

  three_bytes : content (4 ∷ 3 ∷ 1 ∷ []) [] ≡ none
  unfolding content shares_at front_share is_share_of is_long_share_of decode walk head_at kind_at zeroes
  three_bytes = refl

-- ---- room for a line: 21, then 25

module _ where
  -- no share is set: "25, [..] in place of 21 for text"
  no_shares-set : room_for (caller 42 60 no_shares 0) (under 0 nil (ascii "a")) (under 0 one (replicate 60 97) ∷ [])
      ≡ Err R.Text
  unfolding room_for no_index_of no_text share_sizes claims_from use_of record_sizes strike file same_key nil one
  no_shares-set = refl

  -- 21 "comes before 25"
  both_too_small : room_for (caller 41 60 no_shares 0) (under 0 nil (ascii "a")) (under 0 one (replicate 60 97) ∷ [])
      ≡ Err R.Index
  unfolding room_for no_index_of no_text share_sizes claims_from use_of record_sizes strike file same_key nil one
  both_too_small = refl

  -- "with kind 4's 4 bytes counted"
  index_of_24 : room_for (caller 24 60 (only 3 9) 0) (under 0 nil (ascii "a")) [] ≡ Err R.Index
  unfolding room_for no_index_of no_text share_sizes claims_from use_of record_sizes strike file nil only
  index_of_24 = refl

  index_of_25 : room_for (caller 25 60 (only 3 9) 0) (under 0 nil (ascii "a")) [] ≡ Ok tt
  unfolding room_for no_index_of no_text share_sizes claims_from use_of record_sizes strike file nil only
  index_of_25 = refl

  -- another's share is kept free: 9 of 60 bytes
  line_of_52 : room_for (caller 25 60 (only 3 9) 0) (under 0 nil (replicate 52 97)) [] ≡ Err R.Text
  unfolding room_for no_index_of no_text share_sizes claims_from use_of record_sizes strike file nil only
  line_of_52 = refl

  line_of_51 : room_for (caller 25 60 (only 3 9) 0) (under 0 nil (replicate 51 97)) [] ≡ Ok tt
  unfolding room_for no_index_of no_text share_sizes claims_from use_of record_sizes strike file nil only
  line_of_51 = refl

  -- "A filing that leaves its party within its share": 40 bytes in use, of which the line replaced has 30; the new one
  -- has 90
  replaced : room_for (caller 64 100 (only 3 100) 3) (under 3 nil (replicate 90 97))
      (under 3 one (replicate 10 97) ∷ under 3 nil (replicate 30 97) ∷ []) ≡ Ok tt
  unfolding room_for no_index_of no_text share_sizes claims_from use_of record_sizes strike file same_key nil one only
  replaced = refl

-- ---- a share is set: 19, 26, then 21

-- a store with the hall's line of one byte, and n bytes of index behind its record
line_and : ℕ → List ℕ
line_and n = rec one 0 1 ++ replicate n 0

module _ where
  -- a damaged store stays as it is
  nine_first : store_share (9 ∷ []) [] 3 65536 ≡ record { answer = Err E.Unsound; index = 9 ∷ []; text = [] }
  unfolding store_share content shares_at front_share is_share_of is_long_share_of decode walk head_at kind_at zeroes
  nine_first = refl

  -- 26 "before 21": neither 3 bytes of text nor 4 of index are left
  too_large_first : store_share (line_and 3) (ascii "a" ++ replicate 2 0) 3 3
      ≡ record { answer = Err E.ShareTooLarge; index = line_and 3; text = ascii "a" ++ replicate 2 0 }
  unfolding store_share content shares_at front_share is_share_of is_long_share_of decode walk head_at kind_at head_fits body_at zeroes distinct holds
      book_share over_text over_index share_sizes claims_from use_of record_sizes encode_index share_records encode_text records
      record_bytes texts padded big_endian line_and rec one
  too_large_first = refl

  -- 21: 21 + 4 bytes don't lie in 24
  no_index : store_share (line_and 3) (ascii "a" ++ replicate 2 0) 3 2
      ≡ record { answer = Err E.NoRoom; index = line_and 3; text = ascii "a" ++ replicate 2 0 }
  unfolding store_share content shares_at front_share is_share_of is_long_share_of decode walk head_at kind_at head_fits body_at zeroes distinct holds
      book_share over_text over_index share_sizes claims_from use_of record_sizes encode_index share_records encode_text records
      record_bytes texts padded big_endian line_and rec one
  no_index = refl

  accepted : store_share (line_and 4) (ascii "a" ++ replicate 2 0) 3 2
      ≡ record { answer = Ok tt; index = 4 ∷ 3 ∷ 0 ∷ 2 ∷ rec one 0 1; text = ascii "a" ++ replicate 2 0 }
  unfolding store_share content shares_at front_share is_share_of is_long_share_of decode walk head_at kind_at head_fits body_at zeroes distinct holds
      book_share over_text over_index share_sizes claims_from use_of record_sizes encode_index share_records encode_text records
      record_bytes texts padded big_endian line_and rec one
  accepted = refl

  -- another share for the same party needs no room; share 0 takes its record out
  changed : store_share (4 ∷ 3 ∷ 0 ∷ 2 ∷ rec one 0 1) (ascii "a" ++ replicate 2 0) 3 1
      ≡ record { answer = Ok tt; index = 4 ∷ 3 ∷ 0 ∷ 1 ∷ rec one 0 1; text = ascii "a" ++ replicate 2 0 }
  unfolding store_share content shares_at front_share is_share_of is_long_share_of decode walk head_at kind_at head_fits body_at zeroes distinct holds
      book_share over_text over_index share_sizes claims_from use_of record_sizes encode_index share_records encode_text records
      record_bytes texts padded big_endian rec one
  changed = refl

  taken_out : store_share (4 ∷ 3 ∷ 0 ∷ 2 ∷ rec one 0 1) (ascii "a" ++ replicate 2 0) 3 0
      ≡ record { answer = Ok tt; index = line_and 4; text = ascii "a" ++ replicate 2 0 }
  unfolding store_share content shares_at front_share is_share_of is_long_share_of decode walk head_at kind_at head_fits body_at zeroes distinct holds
      book_share over_text over_index share_sizes claims_from use_of record_sizes encode_index share_records encode_text records
      record_bytes texts padded big_endian line_and rec one
  taken_out = refl

  -- a share below the present use: "the larger of use and share" is the use
  use_60 : (book_share 25 60 (holding no_shares (under 0 nil (replicate 60 97) ∷ [])) 0 30).answer ≡ Ok tt
  unfolding book_share over_text over_index share_sizes claims_from use_of record_sizes holding nil
  use_60 = refl

  claims_60 : claims (only 0 30) (under 0 nil (replicate 60 97) ∷ []) ≡ 60
  unfolding claims_from use_of only nil
  claims_60 = refl

  -- a share up to the whole text
  most : (book_share 4 65535 nothing_held 1 65535).answer ≡ Ok tt
  unfolding book_share over_text over_index share_sizes claims_from use_of record_sizes
  most = refl

  one_more : (book_share 4 65535 nothing_held 1 65536).answer ≡ Err E.ShareTooLarge
  unfolding book_share over_text over_index share_sizes claims_from use_of record_sizes
  one_more = refl

  -- a share of 65535 bytes becomes one of 65536: two bytes more of index
  full_index : (book_share 5 65536 (holding (only 1 65535) []) 1 65536).answer ≡ Err E.NoRoom
  unfolding book_share over_text over_index share_sizes claims_from use_of record_sizes only holding
  full_index = refl

  two_more : (book_share 6 65536 (holding (only 1 65535) []) 1 65536).answer ≡ Ok tt
  unfolding book_share over_text over_index share_sizes claims_from use_of record_sizes only holding
  two_more = refl

  -- the line's record stands behind the longer one
  moved : encode_index 27 (only 3 65536) (under 0 one (ascii "a") ∷ []) ≡ 6 ∷ 3 ∷ 0 ∷ 1 ∷ 0 ∷ 0 ∷ rec one 0 1
  unfolding encode_index share_records records record_bytes padded big_endian rec one only
  moved = refl

  -- where the sum exceeds the text without the share, too: another program wrote the shares
  still_too_large : (store_share (4 ∷ 1 ∷ 0 ∷ 9 ∷ 4 ∷ 2 ∷ 0 ∷ 9 ∷ []) (replicate 5 0) 1 0).answer ≡ Err E.ShareTooLarge
  unfolding store_share content shares_at front_share is_share_of is_long_share_of decode walk head_at kind_at zeroes distinct book_share over_text over_index
      share_sizes claims_from use_of record_sizes
  still_too_large = refl

  numbers : map number ((Err E.NoText) ∷ (Err E.ShareTooLarge) ∷ []) ≡ 25 ∷ 26 ∷ []
  numbers = refl

  told : store_told (4 ∷ 0 ∷ 0 ∷ 2 ∷ rec one 0 1) (ascii "a") 0 ≡ Ok (record { share = 2; used = 1 })
  unfolding store_told content shares_at front_share is_share_of is_long_share_of decode walk head_at kind_at head_fits body_at zeroes distinct holds
      record_bytes big_endian rec one use_of
  told = refl

-- ---- the cup's evening

hall : Named
hall = record { party = P.Hall; bits = tt }

hall_byte : OwnerByte
hall_byte = record { byte = 0; bits = omega arith }

seven : Named
seven = record { party = P.Organiser 7; bits = omega arith }

-- a league fills the text with lines of 32 bytes, and the hall files one of 34
evening : Calls
evening =
    insert seven u ∷ insert seven (ascii "00000000000000000000000000000001") ∷ insert hall (u ++ ascii ",x") ∷ []

without_share : map number_of (stored 100 66 evening).answers ≡ 0 ∷ 0 ∷ 25 ∷ []
unfolding run_store store_call store_insert own_insert store_walk other_spellings content shares_at front_share is_share_of is_long_share_of decode walk head_at
    kind_at head_fits body_at zeroes distinct holds same_key book_walk is_utf8 valid_run run_of char_length first_length begins
    encode_index share_records encode_text records texts padded lines_of insert_lines reach wanted for_platform first_text
    uuid_of read_hex hex_digit first_of same room_for no_index_of no_text share_sizes claims_from use_of record_sizes strike file
    record_bytes big_endian evening hall seven u
without_share = refl

-- the hall has given itself a share of 34 bytes
promised : Calls
promised = share hall_byte 34 ∷ evening

with_share_lem : map number_of (stored 100 66 promised).answers ≡ 0 ∷ 0 ∷ 25 ∷ 0 ∷ []
unfolding run_store store_call store_insert own_insert store_walk store_share book_share over_text over_index other_spellings
    content shares_at front_share is_share_of is_long_share_of decode walk head_at kind_at head_fits body_at zeroes distinct holds same_key book_walk is_utf8
    valid_run run_of char_length first_length begins encode_index share_records encode_text records texts padded lines_of
    insert_lines reach wanted for_platform first_text uuid_of read_hex hex_digit first_of same room_for no_index_of no_text
    share_sizes claims_from use_of record_sizes strike file record_bytes big_endian promised evening hall hall_byte seven u
with_share_lem = refl

hall_finds : look_up P.Hall nil (stored 100 66 promised).index (stored 100 66 promised).text ≡ found (u ++ ascii ",x")
unfolding run_store store_call store_insert own_insert store_walk store_share book_share over_text over_index other_spellings
    content shares_at front_share is_share_of is_long_share_of decode walk head_at kind_at head_fits body_at zeroes distinct holds same_key book_walk is_utf8
    valid_run run_of char_length first_length begins encode_index share_records encode_text records texts padded lines_of
    insert_lines reach wanted for_platform first_text uuid_of read_hex hex_digit first_of same room_for no_index_of no_text
    share_sizes claims_from use_of record_sizes strike file record_bytes big_endian look_up look_by find promised evening hall
    hall_byte seven u nil
hall_finds = refl

-- "Clear drops them."
dropped : content (stored 100 66 (share hall_byte 34 ∷ clear ∷ [])).index
    (stored 100 66 (share hall_byte 34 ∷ clear ∷ [])).text ≡ some nothing_held
unfolding run_store store_call store_clear store_share book_share over_text over_index content shares_at front_share is_share_of is_long_share_of decode walk
    head_at kind_at zeroes distinct encode_index share_records encode_text records texts padded big_endian share_sizes
    claims_from use_of record_sizes hall_byte
dropped = refl

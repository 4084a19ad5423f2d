-- Histories, computed by the definitions: what is filed last is found, nothing after a clear, 21 as a second answer.
-- Assumes nothing.
use mathlib.Core.Path.{◌≡◌, refl}
use mathlib.Core.Option.{some}
use mathlib.Core.List.{List, [], ◌∷◌, ◌++◌, map}
use Prim.Native.Nat.{ℕ}
use Rattle.text.specs.Bytes.{ascii, same, first_of}
use Rattle.text.specs.Utf8.{begins, first_length, char_length, run_of, valid_run, is_utf8}
use Rattle.text.specs.Uuid.{hex_digit, read_hex, uuid_of, big_endian}
use Rattle.text.specs.declared.uuid.Uuid.{Uuid}
use Rattle.text.specs.Search.{first_text}
use Rattle.store.specs.declared.parties.Party.TheVariants as P
use Rattle.store.specs.Parties.{Named}
use Rattle.store.specs.Held.{key_by, same_key, strike, file, find, holds, distinct}
use Rattle.store.specs.Shares.{use_of, claims_from, share_sizes}
use Rattle.store.specs.Layout.{record_bytes, records, texts, padded, share_records, encode_index, encode_text}
use Rattle.store.specs.Decode.{body_at, kind_at, head_at, head_fits, zeroes, walk, decode, front_share, is_share_of}
use Rattle.store.specs.Decode.{is_long_share_of, shares_at}
use Rattle.store.specs.Decode.{content}
use Rattle.store.specs.Lines.{lines_of, for_platform, wanted}
use Rattle.store.specs.Book.{record_sizes, no_index_of, no_text, room_for, reach, insert_lines, book_walk, book_insert}
use Rattle.store.specs.Book.{insert}
use Rattle.store.specs.Book.{clear, shares_after, book_turn, number_of}
use Rattle.store.specs.Store.{store_clear, store_walk, own_insert, store_insert, store_call, run_store, look_by}
use Rattle.store.specs.Store.{look_up}
use Rattle.store.specs.Store.{found, nothing}
use Rattle.store.specs.Filings.{filings, filed_lines, last_filed, line_filed}
use Rattle.store.specs.Guarantee.{Calls, stored, last_of}

nil : Uuid
nil = record { high = 0; low = 0 }

hall : Named
hall = record { party = P.Hall; bits = tt }

u : List ℕ
u = ascii "00000000000000000000000000000000"

-- two lines under U, one after the other
twice : Calls
twice = insert hall u ∷ insert hall (u ++ ascii ",x") ∷ []

last_found : look_up P.Hall nil (stored 42 40 twice).index (stored 42 40 twice).text ≡ found (u ++ ascii ",x")
unfolding run_store store_call store_insert own_insert store_walk content shares_at front_share is_share_of
    is_long_share_of decode walk head_at kind_at head_fits body_at zeroes distinct holds same_key book_walk is_utf8
    valid_run run_of char_length first_length begins encode_index share_records encode_text records record_bytes texts
    padded big_endian lines_of insert_lines reach wanted for_platform first_text uuid_of read_hex hex_digit first_of
    same room_for no_index_of no_text share_sizes claims_from use_of record_sizes strike file look_up look_by find nil
    hall u twice
last_found = refl

last_filed_lem : line_filed (last_of 42 40 twice (key_by 0 nil)) ≡ some (u ++ ascii ",x")
unfolding filings filed_lines last_filed book_turn shares_after same_key book_insert book_walk is_utf8 valid_run run_of
    char_length first_length begins lines_of insert_lines reach wanted for_platform first_text uuid_of read_hex
    hex_digit first_of same room_for no_index_of no_text share_sizes claims_from use_of record_sizes strike file nil
    hall u twice
last_filed_lem = refl

-- and a clear after them
then_cleared : Calls
then_cleared = twice ++ (clear ∷ [])

cleared : look_up P.Hall nil (stored 42 40 then_cleared).index (stored 42 40 then_cleared).text ≡ nothing
unfolding run_store store_call store_insert own_insert store_walk store_clear content shares_at front_share is_share_of
    is_long_share_of decode walk head_at kind_at head_fits body_at zeroes distinct holds same_key book_walk is_utf8
    valid_run run_of char_length first_length begins encode_index share_records encode_text records record_bytes texts
    padded big_endian lines_of insert_lines reach wanted for_platform first_text uuid_of read_hex hex_digit first_of
    same room_for no_index_of no_text share_sizes claims_from use_of record_sizes strike file look_up look_by find nil
    hall u twice then_cleared
cleared = refl

-- two lines under two UUIDs, and an index of 21 bytes: 21 for the second
others : Calls
others = insert hall u ∷ insert hall (ascii "00000000000000000000000000000001") ∷ []

numbers : map number_of (stored 21 80 others).answers ≡ 0 ∷ 21 ∷ []
unfolding run_store store_call store_insert own_insert store_walk content shares_at front_share is_share_of
    is_long_share_of decode walk head_at kind_at head_fits body_at zeroes distinct holds same_key book_walk is_utf8
    valid_run run_of char_length first_length begins encode_index share_records encode_text records record_bytes texts
    padded big_endian lines_of insert_lines reach wanted for_platform first_text uuid_of read_hex hex_digit first_of
    same room_for no_index_of no_text share_sizes claims_from use_of record_sizes strike file nil hall u others
numbers = refl

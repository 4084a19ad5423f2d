-- The worked examples of docs/READING.md, computed by the definitions. Assumes nothing.
use Rattle.std.specs.Prelude.{Err, Ok}
use mathlib.Core.Path.{◌≡◌, refl, ap, ◌∙◌}
use mathlib.Core.Bool.{Bool, true, false, ◌&&◌}
use mathlib.Core.Option.{Option, none}
use mathlib.Core.List.{List, [], ◌∷◌, ◌++◌}
use Prim.Native.Nat.{ℕ, suc}
use lib.Dec.{leb}
use lib.ListN.{length, replicate}
use Rattle.text.specs.Bytes.{pick, byte, ascii, same, first_of}
use Rattle.text.specs.Decimal.{read_digits, unsigned, index_number}
use Rattle.text.specs.Utf8.{begins, first_length, char_length, run_of, valid_run, is_utf8}
use Rattle.text.specs.Uuid.{hex_digit, read_hex, hex_text, uuid_of}
use Rattle.text.specs.declared.uuid.Uuid.{Uuid}
use Rattle.line.specs.declared.ev.AxisOrBtn.TheVariants.{Axis, Btn}
use Rattle.line.specs.declared.parser.AxisRange.TheVariants.{Full}
use Rattle.line.specs.declared.parser.Token.TheVariants as Tk
use Rattle.line.specs.declared.reading.puts.Puts.TheVariants.{Two}
use Rattle.line.specs.Buttons as B
use Rattle.line.specs.Axes as A
use Rattle.line.specs.Elements.{code_of, axis_dpady, button_code}
use Rattle.line.specs.Maps.{entry_of, to_map, empty_map, put_entry}
use Rattle.line.specs.Tables.{axes_sdl, axes_table, row_from, key_row}
use Rattle.line.specs.Fields.{count_of, fields_of}
use Rattle.line.specs.Values.{hat_of, value_of}
use Rattle.line.specs.Pairs.{ranges_of, half_of, keyed_of, pair_of}
use Rattle.line.specs.Walker.{guid_of}
use Rattle.line.specs.Puts.{listed, hat_codes, dpad_axis, hat_puts, puts_of}
use Rattle.line.specs.Reading.{accepted_of, put_one, taken, pairs_from, named_from, read_line, read_view, reading_of}
use Rattle.line.specs.Refusals.{refusal_at, reading_outcome}
use Rattle.map.specs.Slots.{no_slots, button_of, axis_of}
use Rattle.map.specs.Build.{filled_from, missing_of, axis_checks, slot_checks, checks_of, ended, pair_texts}
use Rattle.map.specs.Build.{built_line, built_map}
use Rattle.text.specs.Search.{first_text}
use Rattle.store.specs.declared.parties.Party.TheVariants as P
use native.Mathlib.Omega.{arith}
use Rattle.store.specs.Shares.{owners, Content, use_of, claims_from, share_sizes}
use Rattle.store.proofs.ShareBufferLaws.{shares_none}
use Rattle.store.specs.Held.{Held, strike, file, distinct, index_max, text_max}
use Rattle.store.specs.Decode.{no_head, kind_at, head_at, zeroes, walk, guarded, decode, front_share, is_share_of}
use Rattle.store.specs.Decode.{is_long_share_of, shares_at}
use Rattle.store.specs.Decode.{Fronted, fronted, with_lines, content}
use Rattle.store.specs.Book.{record_sizes, no_index_of, no_text, room_for}
use Rattle.store.specs.Store.{Looked, unsound, look_by, look_up, says_of, line_of}
use Rattle.store.specs.Refusals.{save_number}
use Rattle.store.specs.Saves.{SaveArgs, save_args, attempt_of, store_save}
use Rattle.store.specs.declared.calls.LookError.TheVariants as L

-- U, 32 zeros, and the UUID that it is
u : List ℕ
u = replicate 32 (byte "0")

nil : Uuid
nil = record { high = 0; low = 0 }

-- ---- 1. the map of `U,T,dpup:h0.1,`

-- the pair at place 35, and what it puts
dpup_pair : pair_of (ascii "dpup:h0.1") 35 ≡ Ok (Tk.HatMapping 0 1 (Btn B.DPadUp) (ranges_of Full Full false))
unfolding pair_of keyed_of half_of value_of hat_of count_of first_of same read_digits unsigned index_number axes_sdl axes_table
    row_from key_row
dpup_pair = refl

dpup_puts : puts_of (Tk.HatMapping 0 1 (Btn B.DPadUp) (ranges_of Full Full false)) 45 [] []
    ≡ Two (entry_of axis_dpady (Axis A.DPadY)) (entry_of (button_code 16) (Btn B.DPadUp)) 1
unfolding puts_of hat_puts hat_codes dpad_axis
dpup_puts = refl

-- ascending by code: 10220 before 30011
dpup_map : reading_of (u ++ ascii ",T,dpup:h0.1,") [] []
    ≡ accepted_of
    (to_map (record {
      list = entry_of (code_of 0x10220) (Btn B.DPadUp) ∷ entry_of (code_of 0x30011) (Axis A.DPadY) ∷ [];
      name_start_of = 33;
      name_len_of = 1;
      is_default = false;
      hat_flags = 1;
    }))
unfolding reading_of read_view read_line named_from pairs_from taken put_one puts_of hat_puts dpad_axis hat_codes listed
    fields_of pair_of keyed_of half_of value_of hat_of guid_of count_of first_of empty_map put_entry to_map same read_digits
    unsigned index_number begins first_length char_length run_of valid_run is_utf8 axes_sdl axes_table row_from key_row hex_digit
    read_hex uuid_of u
dpup_map = refl

-- ---- 2. the place of refusal 4 in `U,T,dpright:h0.q`

dpright_value : value_of 35 (ascii "h0.q") ≡ Err 38
unfolding value_of hat_of first_of read_digits unsigned index_number
dpright_value = refl

dpright_place : reading_outcome (reading_of (u ++ ascii ",T,dpright:h0.q") [] []).answer ≡ Err (refusal_at 4 38)
unfolding reading_of read_view read_line named_from pairs_from taken puts_of fields_of pair_of keyed_of half_of value_of hat_of guid_of
    count_of first_of empty_map to_map same read_digits unsigned index_number begins first_length char_length run_of valid_run
    is_utf8 axes_sdl axes_table row_from key_row hex_digit read_hex uuid_of u
dpright_place = refl

-- ---- 3. a save of no slots under the name T: its line is `U,T,` of 35 bytes

empty_save : SaveArgs
empty_save = save_args no_slots [] [] (ascii "T") nil

-- an index of 20 bytes; a text of 34, which is P10's 25 "in place of 21 for text"; both as large as they have to be
index_short : save_number (store_save (replicate 20 0) (replicate 35 0) P.Hall empty_save).answer.answer ≡ 21
unfolding store_save attempt_of checks_of slot_checks axis_checks missing_of filled_from button_of axis_of built_line
    built_map ended pair_texts hex_text first_text first_of begins first_length char_length run_of valid_run is_utf8
    content shares_at front_share is_share_of is_long_share_of decode walk head_at kind_at zeroes distinct room_for
    no_index_of no_text share_sizes claims_from use_of record_sizes strike empty_save nil same file
index_short = refl

text_short : save_number (store_save (replicate 21 0) (replicate 34 0) P.Hall empty_save).answer.answer ≡ 25
unfolding store_save attempt_of checks_of slot_checks axis_checks missing_of filled_from button_of axis_of built_line
    built_map ended pair_texts hex_text first_text first_of begins first_length char_length run_of valid_run is_utf8
    content shares_at front_share is_share_of is_long_share_of decode walk head_at kind_at zeroes distinct room_for
    no_index_of no_text share_sizes claims_from use_of record_sizes strike empty_save nil same file
text_short = refl

just_fits : save_number (store_save (replicate 21 0) (replicate 35 0) P.Hall empty_save).answer.answer ≡ 0
unfolding store_save attempt_of checks_of slot_checks axis_checks missing_of filled_from button_of axis_of built_line
    built_map ended pair_texts hex_text first_text first_of begins first_length char_length run_of valid_run is_utf8
    content shares_at front_share is_share_of is_long_share_of decode walk head_at kind_at zeroes distinct room_for
    no_index_of no_text share_sizes claims_from use_of record_sizes strike empty_save nil same file
just_fits = refl

-- ---- 4. a look-up in a store whose index starts with byte 9, whatever follows

head_nine : (i : List ℕ) → head_at (9 ∷ i) ≡ no_head
unfolding head_at kind_at
head_nine i = refl

walk_nine : (f off : ℕ) (i t : List ℕ) → walk (suc f) off (9 ∷ i) t ≡ none
unfolding walk zeroes
walk_nine f off i t = rw (head_nine i) refl

decode_nine : (i t : List ℕ) → decode (9 ∷ i) t ≡ none
unfolding content shares_at front_share is_share_of is_long_share_of decode
decode_nine i t =
    rw (walk_nine (length (9 ∷ i)) 0 i t) (by (leb (length (9 ∷ i)) index_max && leb (length t) text_max))
  where
    by : (b : Bool) → pick b (guarded none) none ≡ none
    by true = refl
    by false = refl

-- nor does a share stand there
content_nine : (i t : List ℕ) → content (9 ∷ i) t ≡ none
unfolding content
content_nine i t = ap within lines ∙ by (leb (length (9 ∷ i)) index_max)
  where
    within : Option (List Held) → Option Content
    within o = pick (leb (length (9 ∷ i)) index_max) (with_lines (fronted (9 ∷ i)).shares o) none

    lines : decode (fronted (9 ∷ i)).rest t ≡ none
    lines =
        ap (λ (f : Fronted). decode f.rest t) (shares_none owners 0 (9 ∷ i) (λ e. omega (arith, e)) (λ e. omega (arith, e)))
        ∙ decode_nine i t

    by : (b : Bool) → ◌≡◌ {A = Option Content} (pick b none none) none
    by true = refl
    by false = refl

byte_nine : (k : Uuid) (i t : List ℕ) → look_up P.Hall k (9 ∷ i) t ≡ unsound
unfolding look_up look_by
byte_nine k i t = rw (content_nine i t) refl

nine_says : (k : Uuid) (i t : List ℕ) → says_of (look_up P.Hall k (9 ∷ i) t) ≡ Err L.Unsound
nine_says k i t = ap (λ (x : Looked). says_of x) (byte_nine k i t)

nine_line : (k : Uuid) (i t : List ℕ) → line_of (look_up P.Hall k (9 ∷ i) t) ≡ []
nine_line k i t = ap (λ (x : Looked). line_of x) (byte_nine k i t)

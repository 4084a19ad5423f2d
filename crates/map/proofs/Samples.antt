-- Document 01's sample lines (a) to (l), with buttons 10130, 10131 and axes 30000, in one list; and the default map of
-- four pairs of lists. Assumes nothing.
use Rattle.std.specs.Prelude.{Ok}
use Prim.Native.Nat.{ℕ}
use mathlib.Core.Path.{◌≡◌, refl}
use mathlib.Core.Bool.{false}
use mathlib.Core.List.{List, [], ◌∷◌, ◌++◌}
use lib.ListN.{length, replicate}
use Rattle.text.specs.Bytes.{ascii, first_of, written}
use Rattle.text.specs.Decimal.{digits, decimal}
use Rattle.text.specs.Utf8.{begins, first_length, char_length, run_of, valid_run, is_utf8}
use Rattle.text.specs.Uuid.{hex_text}
use Rattle.text.specs.declared.uuid.Uuid.{Uuid}
use Rattle.line.specs.Buttons as B
use Rattle.line.specs.Elements.{axis_dpady, code_of}
use Rattle.line.specs.Maps.{MapView, entry_of, put_entry, puts_into, to_map}
use Rattle.line.specs.Reading.{reading_of}
use Rattle.line.specs.Tables.{axes_sdl, axes_table, element_from, element_row, as_axis}
use Rattle.line.proofs.Samples.{Sample, Gives, Holds, samples, samples_hold, U, button}
use Rattle.map.specs.declared.mapping_data.MappingData.{MappingData}
use Rattle.map.specs.Slots.{no_slots, button_of, axis_of, insert_btn_of}
use Rattle.map.specs.Build.{filled_from, missing_of, axis_checks, slot_checks, checks_of, ended, pair_texts, built_line}
use Rattle.map.specs.Build.{built_map, answer_of, build_of, output_of}
use Rattle.map.specs.Default.{button_rows, axis_rows, button_row, in_its_list, put_kept, flagged_map, default_of}

-- ---- a sample: a line that is read, or slots and a name of which a line is built
pub data Example : Type 0 where
  read : Sample → Example
  build : MappingData → List ℕ → List ℕ → MapView → Example

abbrev nil : Uuid
nil = record { high = 0; low = 0 }

abbrev buttons : List ℕ
buttons = 0x10130 ∷ 0x10131 ∷ []

abbrev axis_list : List ℕ
axis_list = 0x30000 ∷ []

-- an output of the line's length holds the line
abbrev pub Shown : List Example → Type 0
Shown [] = Unit {0}
Shown (read s ∷ xs) = Gives (reading_of s.line buttons axis_list) s.outcome × Shown xs
Shown (build slots name line view ∷ xs) =
    (build_of slots buttons axis_list name nil (length line)
    ≡ record { answer = Ok tt; map = to_map view; len = length line })
    × (output_of slots buttons axis_list name nil (replicate (length line) 0) ≡ line)
    × Shown xs

-- (l) build, name T, South at 10131: `U,T,a:b1,`
abbrev sample_l : Example
sample_l =
    build (insert_btn_of no_slots (code_of 0x10131) B.South).1 (ascii "T") (U ++ ascii ",T,a:b1,")
    (record { list = button 0x10131 B.South ∷ []; name_start_of = 33; name_len_of = 1; is_default = false; hat_flags = 0 })

abbrev pub followed : List Sample → List Example → List Example
followed [] ys = ys
followed (x ∷ xs) ys = read x ∷ followed xs ys

followed_shown : (xs : List Sample) (ys : List Example) → Holds xs → Shown ys → Shown (followed xs ys)
followed_shown [] ys h s = s
followed_shown (x ∷ xs) ys h s = (h.0, followed_shown xs ys h.1 s)

l_shown : Shown (sample_l ∷ [])
unfolding build_of output_of answer_of checks_of slot_checks axis_checks missing_of filled_from button_of axis_of insert_btn_of
    built_line built_map ended pair_texts puts_into put_entry first_of written decimal digits hex_text axes_sdl axes_table element_row
    element_from begins first_length char_length run_of valid_run is_utf8
l_shown = (refl, refl, tt)

-- the twelve
pub all_shown : Shown (followed samples (sample_l ∷ []))
all_shown = followed_shown samples (sample_l ∷ []) samples_hold l_shown

-- ---- the default map
-- two empty lists: an empty map with the default flag on
pub none-listed : default_of [] [] ≡ record { answer = Ok tt; map = to_map (flagged_map []) }
unfolding default_of button_rows axis_rows put_kept in_its_list first_of
none-listed = refl

-- 10131 among the axes is no button's code
pub east_among_axes : default_of [] (0x10131 ∷ []) ≡ record { answer = Ok tt; map = to_map (flagged_map []) }
unfolding default_of button_rows axis_rows put_kept in_its_list first_of
east_among_axes = refl

pub east_listed : default_of (0x10131 ∷ []) []
    ≡ record { answer = Ok tt; map = to_map (flagged_map (button_row 2 ∷ [])) }
unfolding default_of button_rows axis_rows put_kept in_its_list first_of put_entry
east_listed = refl

-- South and AXIS_DPADY listed
pub two-listed : default_of (0x10130 ∷ []) (0x30011 ∷ [])
    ≡ record {
      answer = Ok tt;
      map = to_map (flagged_map (button_row 1 ∷ entry_of axis_dpady (as_axis 8) ∷ []));
    }
unfolding default_of button_rows axis_rows put_kept in_its_list first_of put_entry
two-listed = refl

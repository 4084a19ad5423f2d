-- Document 01's sample lines (a) to (k), read with buttons 10130, 10131 and axes 30000, in one list. Assumes nothing.
use Rattle.std.specs.Prelude.{Err}
use Prim.Native.Nat.{ℕ}
use mathlib.Core.Path.{◌≡◌, refl}
use mathlib.Core.List.{List, [], ◌∷◌, ◌++◌}
use mathlib.Core.Bool.{false}
use lib.ListN.{replicate}
use Rattle.text.specs.Bytes.{byte, ascii, same, first_of}
use Rattle.text.specs.Decimal.{read_digits, unsigned, index_number}
use Rattle.text.specs.Utf8.{begins, first_length, char_length, run_of, valid_run, is_utf8}
use Rattle.text.specs.Uuid.{hex_digit, read_hex, hyphenated, uuid_of}
use Rattle.line.specs.declared.ev.AxisOrBtn.TheVariants.{Axis, Btn}
use Rattle.line.specs.declared.ev.Button.{Button}
use Rattle.line.specs.declared.mapping.Entry.{Entry}
use Rattle.line.specs.declared.reading.SdlMapping.{SdlMapping}
use Rattle.line.specs.Buttons as B
use Rattle.line.specs.Axes as A
use Rattle.line.specs.Elements.{code_of}
use Rattle.line.specs.Maps.{entry_of, MapView, to_map, empty_map, put_entry}
use Rattle.line.specs.Tables.{axes_sdl, axes_table, row_from, key_row}
use Rattle.line.specs.Fields.{count_of, fields_of}
use Rattle.line.specs.Values.{axis_value_of, signed_of, hat_of, value_of}
use Rattle.line.specs.Pairs.{half_of, keyed_of, pair_of}
use Rattle.line.specs.Walker.{guid_of}
use Rattle.line.specs.Puts.{listed, hat_codes, dpad_axis, hat_puts, puts_of}
use Rattle.line.specs.Reading.{accepted_of, put_one, taken, pairs_from, named_from, read_line, read_view, reading_of}
use Rattle.line.specs.Refusals.{refusal_at, reading_outcome}

-- ---- what a sample says: entries, name, flags; or a number at a place, with the empty map
pub data Expected : Type 0 where
  reads : MapView → Expected
  refuses : ℕ → ℕ → Expected

abbrev pub Gives : SdlMapping → Expected → Type 0
Gives r (reads v) = r ≡ accepted_of (to_map v)
Gives r (refuses n p) = (reading_outcome r.answer ≡ Err (refusal_at n p)) × (r.map ≡ empty_map)

pub record Sample : Type 0 where
  pub line : List ℕ
  pub outcome : Expected

abbrev pub Holds : List Sample → Type 0
Holds [] = Unit {0}
Holds (x ∷ xs) = Gives (reading_of x.line (0x10130 ∷ 0x10131 ∷ []) (0x30000 ∷ [])) x.outcome × Holds xs

-- "U is 32 zeros."
abbrev pub U : List ℕ
U = replicate 32 (byte "0")

-- entries, the name's start and length, hat flags; the default flag is off
abbrev pub map_with_entry : List Entry → ℕ → ℕ → ℕ → Expected
map_with_entry es start len flags =
    reads (record { list = es; name_start_of = start; name_len_of = len; is_default = false; hat_flags = flags })

abbrev pub button : ℕ → Button → Entry
button c b = entry_of (code_of c) (Btn b)

-- ---- the list; "empty map" is no entries, the name as it stands in the line
abbrev pub samples : List Sample
samples =
    -- (a) empty line: empty map
    record { line = []; outcome = map_with_entry [] 0 0 0 }
    -- (b) U: 2
    ∷ record { line = U; outcome = refuses 2 0 }
    -- (c) `xinput,T,a:b1,`: 10131 South
    ∷ record { line = ascii "xinput,T,a:b1,"; outcome = map_with_entry (button 0x10131 B.South ∷ []) 7 1 0 }
    -- (d) `U,T,a:,`: empty map
    ∷ record { line = U ++ ascii ",T,a:,"; outcome = map_with_entry [] 33 1 0 }
    -- (e) `U,T,,`: 3 at 35
    ∷ record { line = U ++ ascii ",T,,"; outcome = refuses 3 35 }
    -- (f) `U,T,a:b65536,`: 4 at 35
    ∷ record { line = U ++ ascii ",T,a:b65536,"; outcome = refuses 4 35 }
    -- (g) `U,T,a:b65535,`: empty map
    ∷ record { line = U ++ ascii ",T,a:b65535,"; outcome = map_with_entry [] 33 1 0 }
    -- (h) `U,T,dpup:h0.1,`: 10220 button 16, 30011 axis 8, flags 1
    ∷ record {
      line = U ++ ascii ",T,dpup:h0.1,";
      outcome = map_with_entry (button 0x10220 B.DPadUp ∷ entry_of (code_of 0x30011) (Axis A.DPadY) ∷ []) 33 1 1;
    }
    -- (i) `U,T,a:h1.3,`: empty map
    ∷ record { line = U ++ ascii ",T,a:h1.3,"; outcome = map_with_entry [] 33 1 0 }
    -- (j) `U,T,a:h0.q`: 4 at 38
    ∷ record { line = U ++ ascii ",T,a:h0.q"; outcome = refuses 4 38 }
    -- (k) `U,T,a:b+1,`: 10131 South
    ∷ record { line = U ++ ascii ",T,a:b+1,"; outcome = map_with_entry (button 0x10131 B.South ∷ []) 33 1 0 }
    ∷ []

pub samples_hold : Holds samples
unfolding reading_of read_view read_line named_from pairs_from taken put_one puts_of hat_puts dpad_axis hat_codes listed fields_of
    pair_of keyed_of half_of value_of hat_of signed_of axis_value_of guid_of count_of first_of empty_map put_entry to_map same
    read_digits unsigned index_number begins first_length char_length run_of valid_run is_utf8 axes_sdl axes_table row_from key_row
    hex_digit read_hex hyphenated uuid_of
samples_hold = (
  refl,
  (
    (refl, refl),
    (refl, (refl, ((refl, refl), ((refl, refl), (refl, (refl, (refl, ((refl, refl), (refl, tt))))))))),
  ),
)

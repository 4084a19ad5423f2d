-- `regrouped` on two small lines: one where it gives the same map, and one where a code is put with two unlike entries
-- and the maps differ, so that the premise is needed. Assumes nothing.
use Rattle.std.specs.Prelude.{Option, Some, None, Ok}
use Prim.Native.Nat.{ℕ}
use mathlib.Core.Path.{◌≡◌, refl, sym, ap, subst, ◌∙◌}
use mathlib.Core.Logic.{◌⊎◌, inl, inr}
use mathlib.Core.List.{List, [], ◌∷◌, ◌++◌}
use mathlib.Core.Bool.{false}
use native.Mathlib.Omega.{arith}
use Rattle.line.specs.declared.ev.AxisOrBtn.{AxisOrBtn}
use Rattle.text.specs.Bytes.{ascii, same, first_of}
use Rattle.text.specs.Decimal.{read_digits, unsigned, index_number}
use Rattle.text.specs.Utf8.{begins, first_length, char_length, run_of, valid_run, is_utf8}
use Rattle.text.specs.Uuid.{hex_digit, read_hex, hyphenated, uuid_of}
use Rattle.line.specs.declared.ev.AxisOrBtn.TheVariants.{Axis, Btn}
use Rattle.line.specs.declared.mapping.Entry.{Entry}
use Rattle.line.specs.declared.reading.SdlMapping.{SdlMapping}
use Rattle.line.specs.Buttons as B
use Rattle.line.specs.Axes as A
use Rattle.line.specs.Elements.{code_of}
use Rattle.line.specs.Maps.{entry_of, to_map, empty_map, put_entry, map_of}
use Rattle.line.specs.Tables.{axes_sdl, axes_table, row_from, key_row}
use Rattle.line.specs.Fields.{count_of, fields_of}
use Rattle.line.specs.Values.{axis_value_of, signed_of, hat_of, value_of}
use Rattle.line.specs.Pairs.{half_of, keyed_of, pair_of}
use Rattle.line.specs.Walker.{guid_of}
use Rattle.line.specs.Puts.{listed, hat_codes, dpad_axis, hat_puts, puts_of}
use Rattle.line.specs.Reading.{accepted_of, put_one, taken, pairs_from, named_from, read_line, read_view, reading_of}
use Rattle.line.specs.Effects.{answer_effect, entries_of}
use Rattle.line.specs.Regrouping.{swap, In, here, there, Alike, Regrouped}
use Rattle.line.proofs.RegroupLaws.{regrouped}
use Rattle.line.proofs.Samples.{U, button}

abbrev sample_buttons : List ℕ
sample_buttons = 0x10130 ∷ []

abbrev pad_axes : List ℕ
pad_axes = 0x30000 ∷ []

abbrev read : List ℕ → SdlMapping
read s = reading_of s sample_buttons pad_axes

-- accepted, with these entries, the name T and no flags
abbrev accepted : List Entry → SdlMapping
accepted es =
    accepted_of
    (to_map (record { list = es; name_start_of = 33; name_len_of = 1; is_default = false; hat_flags = 0 }))

-- ---- the same map: `U,T,a:b0,leftx:a0` and `U,T,leftx:a0,a:b0,`, whose final comma makes no pair
abbrev button_first : List ℕ
button_first = U ++ ascii ",T,a:b0,leftx:a0"

abbrev axis_first : List ℕ
axis_first = U ++ ascii ",T,leftx:a0,a:b0,"

abbrev left_stick : Entry
left_stick = entry_of (code_of 0x30000) (Axis A.LeftStickX)

abbrev south : Entry
south = button 0x10130 B.South

pub same_pairs : Regrouped button_first axis_first
unfolding fields_of first_of
same_pairs =
    record {
      name = ascii "T";
      pairs = ascii "a:b0" ∷ ascii "leftx:a0" ∷ [];
      others = ascii "leftx:a0" ∷ ascii "a:b0" ∷ [];
      first = refl;
      in_s = refl;
      in_t = refl;
      order = swap;
    }

-- what the two pairs put
pub both_put : entries_of (ascii "a:b0" ∷ ascii "leftx:a0" ∷ []) sample_buttons pad_axes ≡ south ∷ left_stick ∷ []
unfolding entries_of answer_effect puts_of listed pair_of keyed_of half_of value_of signed_of axis_value_of count_of first_of same
    read_digits unsigned index_number axes_sdl axes_table row_from key_row
both_put = refl

abbrev code_in : Entry → ℕ
code_in e = e.code.0

apart : {A : Type 0} → ◌≡◌ {A = ℕ} 0x10130 0x30000 → A
apart e = absurd (omega arith)

-- a member is one of them
unfoldable Member : Entry → List Entry → Type 0
Member e [] = ⊥
Member e (x ∷ xs) = (e ≡ x) ⊎ Member e xs

member : {e : Entry} {xs : List Entry} → In e xs → Member e xs
unfolding Member
member here = inl refl
member (there i) = inr (member i)

two-by : (e f : Entry) → e.code.0 ≡ f.code.0 → Member e (south ∷ left_stick ∷ [])
    → Member f (south ∷ left_stick ∷ []) → e ≡ f
unfolding Member
two-by e f c (inl p) (inl q) = p ∙ sym q
two-by e f c (inl p) (inr (inl q)) = apart (sym (ap code_in p) ∙ c ∙ ap code_in q)
two-by e f c (inl p) (inr (inr z)) = absurd z
two-by e f c (inr (inl p)) (inl q) = apart (sym (ap code_in q) ∙ sym c ∙ ap code_in p)
two-by e f c (inr (inl p)) (inr (inl q)) = p ∙ sym q
two-by e f c (inr (inl p)) (inr (inr z)) = absurd z
two-by e f c (inr (inr z)) q = absurd z

two_alike : Alike (south ∷ left_stick ∷ [])
two_alike e f i j c = two-by e f c (member i) (member j)

pub button_first_lem : read button_first ≡ accepted (south ∷ left_stick ∷ [])
unfolding reading_of read_view read_line named_from pairs_from taken put_one puts_of hat_puts dpad_axis hat_codes listed fields_of
    pair_of keyed_of half_of value_of hat_of signed_of axis_value_of guid_of count_of first_of empty_map put_entry to_map same
    read_digits unsigned index_number begins first_length char_length run_of valid_run is_utf8 axes_sdl axes_table row_from key_row
    hex_digit read_hex hyphenated uuid_of
button_first_lem = refl

-- the theorem: no need to read the second line
pub axis_first_lem : read axis_first ≡ accepted (south ∷ left_stick ∷ [])
unfolding same_pairs
axis_first_lem =
    let alike = subst (λ (es : List Entry). Alike es) (sym both_put) two_alike in
    let ok = ap (λ (r : SdlMapping). r.answer) button_first_lem in
    regrouped button_first axis_first sample_buttons pad_axes same_pairs alike ok ∙ button_first_lem

-- ---- other maps: `U,T,a:b0,b:b0` and `U,T,b:b0,a:b0`, where 10130 is put to South and to East
abbrev south_first : List ℕ
south_first = U ++ ascii ",T,a:b0,b:b0"

abbrev east_first : List ℕ
east_first = U ++ ascii ",T,b:b0,a:b0"

pub same_pairs_too : Regrouped south_first east_first
unfolding fields_of first_of
same_pairs_too =
    record {
      name = ascii "T";
      pairs = ascii "a:b0" ∷ ascii "b:b0" ∷ [];
      others = ascii "b:b0" ∷ ascii "a:b0" ∷ [];
      first = refl;
      in_s = refl;
      in_t = refl;
      order = swap;
    }

pub the_later_stays : (read south_first ≡ accepted (button 0x10130 B.East ∷ []))
    × (read east_first ≡ accepted (button 0x10130 B.South ∷ []))
unfolding reading_of read_view read_line named_from pairs_from taken put_one puts_of hat_puts dpad_axis hat_codes listed fields_of
    pair_of keyed_of half_of value_of hat_of signed_of axis_value_of guid_of count_of first_of empty_map put_entry to_map same
    read_digits unsigned index_number begins first_length char_length run_of valid_run is_utf8 axes_sdl axes_table row_from key_row
    hex_digit read_hex hyphenated uuid_of
the_later_stays = (refl, refl)

-- without the premise the theorem would be false
abbrev WithoutPremise : Type 0
WithoutPremise =
    (s t : List ℕ) (buttons axes : List ℕ) → Regrouped s t → (reading_of s buttons axes).answer ≡ Ok tt
    → reading_of t buttons axes ≡ reading_of s buttons axes

-- the number of the button that 10130 goes to
abbrev button_in : Option AxisOrBtn → ℕ
button_in (Some (Btn b)) = b.0
button_in (Some (Axis a)) = 0
button_in None = 0

abbrev button0 : SdlMapping → ℕ
button0 r = button_in (map_of r.map.entries (code_of 0x10130))

unlike : accepted (button 0x10130 B.South ∷ []) ≡ accepted (button 0x10130 B.East ∷ []) → ⊥
unfolding to_map map_of
unlike e = let z : ◌≡◌ {A = ℕ} 1 2 = ap (λ (r : SdlMapping). button0 r) e in absurd (omega arith)

pub premise_needed : WithoutPremise → ⊥
premise_needed w =
    let east = the_later_stays.0 in
    let same = w south_first east_first sample_buttons pad_axes same_pairs_too (ap (λ (r : SdlMapping). r.answer) east) in
    unlike (sym the_later_stays.1 ∙ same ∙ east)

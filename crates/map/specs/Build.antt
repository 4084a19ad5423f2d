-- Build (document 01, 'Build'; its refusals in 'Refusals by number'): the line and the map of the filled slots.
-- Public contracts rest on these definitions; they assume nothing.
use Rattle.std.specs.Prelude.{ℕ, zero, suc, ◌≡◌, Bool, false, List, [], ◌∷◌, ◌++◌, map, leb, eqb, length, Option, Some, None, Result, Ok, Err, ⊤}
use Rattle.text.specs.Bytes.{pick, byte, first_of, written}
use Rattle.text.specs.Utf8.{valid_run, is_utf8}
use Rattle.text.specs.Decimal.{decimal}
use Rattle.text.specs.Uuid.{uuid_text}
use Rattle.text.specs.declared.uuid.Uuid.{Uuid}
use Rattle.line.specs.declared.ev.Code.{Code}
use Rattle.line.specs.declared.ev.AxisOrBtn.{AxisOrBtn}
use Rattle.line.specs.declared.mapping.Entry.{Entry}
use Rattle.line.specs.declared.mapping.Mapping.{Mapping}
use Rattle.line.specs.Buttons as B
use Rattle.line.specs.Axes as A
use Rattle.line.specs.Maps.{MapView, entry_of, to_map, empty_map, puts_into}
use Rattle.line.specs.Reading.{lists_fit}
use Rattle.line.specs.Refusals.{refusal, refusal_at, refusal_of}
use Rattle.line.specs.declared.refusal.Refusal.{Refusal}
use Rattle.line.specs.Tables.{as_button, as_axis, ident_text}
use Rattle.map.specs.declared.error.MappingError.{MappingError}
use Rattle.map.specs.declared.from_data.Built.{Built}
use Rattle.map.specs.declared.mapping_data.MappingData.{MappingData}
use Rattle.map.specs.Lists.{place_of, in_list}
use Rattle.map.specs.Refusals.{refused_by}
use Rattle.map.specs.Slots.{button_slots, axis_slots, has_code_in, button_of, axis_of}

-- ---- "per filled slot ..; buttons ascending, then axes": a filled slot is an entry of its code and its element
abbrev pub also : Option Code → AxisOrBtn → List Entry → List Entry
also (Some c) to rest = entry_of c to ∷ rest
also None to rest = rest

-- the filled ones of n slots from number k on
unfoldable pub filled_from : (ℕ → Option Code) → (ℕ → AxisOrBtn) → ℕ → ℕ → List Entry
filled_from code to zero k = []
filled_from code to (suc n) k = also (code k) (to k) (filled_from code to n (suc k))

abbrev pub filled_buttons : MappingData → List Entry
filled_buttons d = filled_from (λ k. button_of d (record { 0 = k })) as_button button_slots 0

abbrev pub filled_axes : MappingData → List Entry
filled_axes d = filled_from (λ k. axis_of d (record { 0 = k })) as_axis axis_slots 0

-- ---- the line
-- fields, each with a comma after it
unfoldable pub ended : List (List ℕ) → List ℕ
ended [] = []
ended (f ∷ fs) = f ++ byte "," ∷ ended fs

-- "its ident (the one name in `AXES_SDL` whose row in `AXES` is that element), `:b` or `:a`, index";
-- "The index is a code's first place in its list."
abbrev pub pair_text : ℕ → List ℕ → Entry → List ℕ
pair_text letter codes e = ident_text e.element ++ byte ":" ∷ letter ∷ decimal (place_of e.code codes)

unfoldable pub pair_texts : ℕ → List ℕ → List Entry → List (List ℕ)
pair_texts letter codes es = map (pair_text letter codes) es

-- "UUID in 32 lower-case digits, comma, name, comma, then per filled slot"
unfoldable pub built_line : MappingData → List ℕ → List ℕ → List ℕ → Uuid → List ℕ
built_line d buttons axes name uuid =
    ended
    (uuid_text uuid
    ∷ name
    ∷ (pair_texts (byte "b") buttons (filled_buttons d) ++ pair_texts (byte "a") axes (filled_axes d)))

-- ---- "The map goes by the same puts."
-- after 32 digits and a comma
abbrev pub name_start_of : ℕ
name_start_of = 33

abbrev pub built_view : MappingData → List ℕ → MapView
built_view d name =
    record {
      list = puts_into (filled_buttons d ++ filled_axes d) [];
      name_start_of = name_start_of;
      name_len_of = length name;
      is_default = false;
      hat_flags = 0;
    }

unfoldable pub built_map : MappingData → List ℕ → Mapping
built_map d name = to_map (built_view d name)

-- ---- the checks: "Build 10, 17, 12, 13, 14 for the button, 15 for buttons ascending, 14 for the axis, 15 ascending,
-- 16, 18", one line for each below; 18 stands in `answer_of`
-- 17, "name over 2048 bytes"; P6: "the name limit from 2048 to 8192"
abbrev pub name_max : ℕ
name_max = 8192

-- a check: refused as r says unless (when) the test holds, else as the rest says
abbrev pub unless : Bool → Refusal → Result ⊤ MappingError → Result ⊤ MappingError
unless t r rest = pick t rest (refused_by r)

abbrev pub when : Bool → Refusal → Result ⊤ MappingError → Result ⊤ MappingError
when t r rest = pick t (refused_by r) rest

-- 13: "comma in name"
abbrev pub comma_free : List ℕ → Bool
comma_free name = eqb (first_of (byte ",") name) (length name)

-- 15: "code not in its list; carries it": that of the first entry for which it holds
unfoldable pub missing_of : List Entry → List ℕ → Option Code
missing_of [] codes = None
missing_of (e ∷ es) codes = pick (in_list e.code codes) (missing_of es codes) (Some e.code)

-- 15 when a code is missing
abbrev pub when_missing : Option Code → Result ⊤ MappingError → Result ⊤ MappingError
when_missing (Some c) rest = refused_by (refusal_of 15 c)
when_missing None rest = rest

-- "14 for the axis, 15 ascending, 16": "Unknown slot filled", "axis slot 7 or 8"
unfoldable pub axis_checks : MappingData → List ℕ → Result ⊤ MappingError
axis_checks d axes =
    when (has_code_in (axis_of d A.Unknown)) (refusal 14)
    (when_missing (missing_of (filled_axes d) axes)
    (when (has_code_in (axis_of d A.DPadX)) (refusal 16)
    (when (has_code_in (axis_of d A.DPadY)) (refusal 16)
    (Ok tt))))

-- "14 for the button, 15 for buttons ascending", then the axes'
unfoldable pub slot_checks : MappingData → List ℕ → List ℕ → Result ⊤ MappingError
slot_checks d buttons axes =
    when (has_code_in (button_of d B.Unknown)) (refusal 14)
    (when_missing (missing_of (filled_buttons d) buttons)
    (axis_checks d axes))

-- "10, 17, 12, 13", then the slots'
unfoldable pub checks_of : MappingData → List ℕ → List ℕ → List ℕ → Result ⊤ MappingError
checks_of d buttons axes name =
    unless (is_utf8 name) (refusal_at 10 (valid_run name))
    (unless (leb (length name) name_max) (refusal 17)
    (unless (lists_fit buttons axes) (refusal 12)
    (unless (comma_free name) (refusal 13)
    (slot_checks d buttons axes))))

-- ---- what build answers and leaves, room being the length of the output
-- a refusal of the earlier checks stays
abbrev pub after : Result ⊤ MappingError → Result ⊤ MappingError → Result ⊤ MappingError
after (Ok tt) rest = rest
after (Err e) rest = Err e

-- 18: "output shorter than the line", after all others
unfoldable pub answer_of : MappingData → List ℕ → List ℕ → List ℕ → Uuid → ℕ → Result ⊤ MappingError
answer_of d buttons axes name uuid room =
    after (checks_of d buttons axes name)
    (unless (leb (length (built_line d buttons axes name uuid)) room) (refusal 18) (Ok tt))

-- "Returned: map, length"; "A refused .. build .. returns the empty map, flags and lengths 0"
abbrev pub refused_build : MappingError → Built
refused_build e = record { answer = Err e; map = empty_map; len = 0 }

abbrev pub returned : Result ⊤ MappingError → Mapping → ℕ → Built
returned (Ok tt) m n = record { answer = Ok tt; map = m; len = n }
returned (Err e) m n = refused_build e

unfoldable pub build_of : MappingData → List ℕ → List ℕ → List ℕ → Uuid → ℕ → Built
build_of d buttons axes name uuid room =
    returned (answer_of d buttons axes name uuid room) (built_map d name) (length (built_line d buttons axes name uuid))

-- "the line stands at the output's start, later bytes unchanged"; after a refusal all of them
abbrev pub left : Result ⊤ MappingError → List ℕ → List ℕ → List ℕ
left (Ok tt) out line = written out 0 line
left (Err e) out line = out

unfoldable pub output_of : MappingData → List ℕ → List ℕ → List ℕ → Uuid → List ℕ → List ℕ
output_of d buttons axes name uuid out =
    left (answer_of d buttons axes name uuid (length out)) out (built_line d buttons axes name uuid)

-- what build answers, and the output that it leaves
abbrev pub Builds : MappingData → List ℕ → List ℕ → List ℕ → Uuid → List ℕ → Built → List ℕ → Type 0
Builds d buttons axes name uuid out answer after =
    (answer ≡ build_of d buttons axes name uuid (length out)) × (after ≡ output_of d buttons axes name uuid out)

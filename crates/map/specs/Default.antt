-- The default map of two lists of codes (document 01, 'Also', with request P1).
-- Public contracts rest on these definitions; they assume nothing.
use Rattle.std.specs.Prelude.{ℕ, zero, suc, List, [], ◌∷◌, ◌++◌, Bool, true, ltb, Ok}
use Rattle.text.specs.Bytes.{pick}
use Rattle.line.specs.declared.ev.Code.{Code}
use Rattle.line.specs.declared.ev.AxisOrBtn.TheVariants.{Axis, Btn}
use Rattle.line.specs.declared.mapping.Entry.{Entry}
use Rattle.line.specs.Buttons as B
use Rattle.line.specs.Axes as A
use Rattle.line.specs.Elements.{button_code, axis_code, axis_dpadx, axis_dpady, axis_lt, axis_rt, axis_lt2, axis_rt2}
use Rattle.line.specs.Elements.{button_last}
use Rattle.line.specs.Maps.{MapView, entry_of, put_entry, to_map, empty_map}
use Rattle.line.specs.Reading.{lists_fit}
use Rattle.line.specs.Refusals.{refusal}
use Rattle.line.specs.Tables.{as_button, as_axis}
use Rattle.map.specs.declared.default.DefaultMap.{DefaultMap}
use Rattle.map.specs.Lists.{in_list}
use Rattle.map.specs.Refusals.{refused_by}

-- ---- "the 31 codes above": those of the buttons, and those of the axes
-- n rows from number k on
abbrev pub numbered : (ℕ → Entry) → ℕ → ℕ → List Entry
numbered f zero k = []
numbered f (suc n) k = f k ∷ numbered f n (suc k)

-- "button and axis k to themselves"
abbrev pub button_row : ℕ → Entry
button_row k = entry_of (button_code k) (as_button k)

abbrev pub axis_row : ℕ → Entry
axis_row k = entry_of (axis_code k) (as_axis k)

unfoldable pub button_rows : List Entry
button_rows = numbered button_row button_last 1

-- "(AXIS_DPADX to axis 7, AXIS_DPADY to axis 8), AXIS_LT, AXIS_RT, AXIS_LT2, AXIS_RT2 to buttons 7, 8, 9, 10"
abbrev pub axis_row_count : ℕ
axis_row_count = 12

unfoldable pub axis_rows : List Entry
axis_rows =
    numbered axis_row 6 1
    ++ (entry_of axis_dpadx (Axis A.DPadX)
    ∷ entry_of axis_dpady (Axis A.DPadY)
    ∷ entry_of axis_lt (Btn B.LeftTrigger)
    ∷ entry_of axis_rt (Btn B.RightTrigger)
    ∷ entry_of axis_lt2 (Btn B.LeftTrigger2)
    ∷ entry_of axis_rt2 (Btn B.RightTrigger2)
    ∷ [])

abbrev pub rows : List Entry
rows = button_rows ++ axis_rows

-- ---- "those in their list": an axis's code, the first of which is that of axis 1, among the axes
unfoldable pub in_its_list : List ℕ → List ℕ → Code → Bool
in_its_list buttons axes c = pick (ltb c.0 (axis_code 1).0) (in_list c buttons) (in_list c axes)

-- the rows whose code is in its list, put into es one after the other: East's as every other ("The default map shall
-- drop East too where the button list lacks 10131", request P1)
unfoldable pub put_kept : List ℕ → List ℕ → List Entry → List Entry → List Entry
put_kept buttons axes es [] = es
put_kept buttons axes es (x ∷ xs) =
    pick (in_its_list buttons axes x.code) (put_kept buttons axes (put_entry x es) xs) (put_kept buttons axes es xs)

-- "default flag on, hat flags and name 0"
abbrev pub flagged_map : List Entry → MapView
flagged_map es = record { list = es; name_start_of = 0; name_len_of = 0; is_default = true; hat_flags = 0 }

abbrev pub kept_map : List ℕ → List ℕ → MapView
kept_map buttons axes = flagged_map (put_kept buttons axes [] rows)

-- ---- "`default` .. (12 applies)": refused, it "returns the empty map, flags and lengths 0"
unfoldable pub default_of : List ℕ → List ℕ → DefaultMap
default_of buttons axes =
    pick (lists_fit buttons axes)
    (record { answer = Ok tt; map = to_map (kept_map buttons axes) })
    (record { answer = refused_by (refusal 12); map = empty_map })

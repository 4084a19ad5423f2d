-- How long a built line is, where build's checks pass: at most 8544 bytes, a bound made of the limits by name.
-- Assumes nothing.
use Rattle.std.specs.Prelude.{Option, Some, None, Result, Ok, Err, ⊤}
use Prim.Native.Nat.{ℕ, zero, suc, ◌+◌, ◌-◌, ◌<◌, ◌≤◌}
use mathlib.Core.Path.{◌≡◌, refl, sym, ap}
use mathlib.Core.Bool.{Bool, true, false}
use mathlib.Core.List.{List, ◌∷◌}
use native.Mathlib.Omega.{arith}
use borrow.Author.Tests.{ltb-true, ltb-false, leb-true, le-leb}
use lib.Dec.{leb, ltb}
use lib.ListN.{length}
use Rattle.text.specs.Bytes.{pick}
use Rattle.text.specs.Decimal.{digits, decimal}
use Rattle.text.specs.Inner.{Put}
use Rattle.text.specs.declared.uuid.Uuid.{Uuid}
use Rattle.line.specs.declared.ev.Code.{Code}
use Rattle.line.specs.declared.ev.AxisOrBtn.{AxisOrBtn}
use Rattle.line.specs.declared.mapping.Entry.{Entry}
use Rattle.line.specs.Maps.{entry_of}
use Rattle.line.specs.Reading.{list_max}
use Rattle.line.specs.Tables.{axes_sdl, axes_table, element_from, element_row, as_button, as_axis}
use Rattle.map.specs.declared.error.MappingError.{MappingError}
use Rattle.map.specs.declared.error.MappingError.TheVariants as Me
use Rattle.map.specs.declared.from_data.filled.Pairs.{Pairs}
use Rattle.map.specs.declared.mapping_data.MappingData.{MappingData}
use Rattle.map.specs.Lists.{place_of, in_list}
use Rattle.map.specs.Slots.{button_of, axis_of}
use Rattle.map.specs.Build.{also, filled_from, filled_buttons, filled_axes, missing_of, checks_of, built_line, refused_build, Builds}
use Rattle.map.specs.Build.{answer_of}
use Rattle.map.specs.Inner.{pair_max, pairs_max, built_max}
use Rattle.map.specs.Inner.{pair_length, pairs_length, line_length, built_line_max, short_of}
use Rattle.map.specs.Inner.{Gathered, Room, line_text, line_len_of, put_map_of}
use Rattle.map.proofs.CheckLaws.{Passed, passed, short_build, whole_build}
use Rattle.map.proofs.LengthLaws.{decimal_grows, line_length_lem}
use Rattle.map.proofs.OutputLaws.{line_held, length-held}
use Rattle.map.proofs.PutsLaws.{map-held}
use Rattle.map.proofs.PlainLaws.{AllPlain, buttons_plain, axes_plain, named_buttons, named_axes, buttons_named}
use Rattle.map.proofs.PlainLaws.{axes_named}

-- ---- entries of which none is missing
pub first-listed : (e : Entry) (es : List Entry) (codes : List ℕ) → missing_of (e ∷ es) codes ≡ None
    → (place_of e.code codes < length codes) × (missing_of es codes ≡ None)
unfolding missing_of
first-listed e es codes h = by (in_list e.code codes) refl h
  where
    by : (t : Bool) → in_list e.code codes ≡ t → pick t (missing_of es codes) (Some e.code) ≡ None
        → (place_of e.code codes < length codes) × (missing_of es codes ≡ None)
    by true p q = (ltb-true (place_of e.code codes) (length codes) p, q)
    by false p q = let z : ◌≡◌ {A = ℕ} 0 1 = cc in absurd (omega arith)

-- ---- the length
pair_most : (codes : List ℕ) (e : Entry) → place_of e.code codes < length codes → length codes ≤ list_max
    → pair_length codes e ≤ pair_max e.element
pair_most codes e h l = omega (arith, decimal_grows (place_of e.code codes) (list_max - 1) (omega arith))

module _ (code : ℕ → Option Code) (to : ℕ → AxisOrBtn) (codes : List ℕ) (fit : length codes ≤ list_max) where
  also_most : (s : Option Code) (e : AxisOrBtn) (es : List Entry) (n : ℕ) → missing_of (also s e es) codes ≡ None
      → (missing_of es codes ≡ None → pairs_length codes es ≤ n) → pairs_length codes (also s e es) ≤ pair_max e + n
  unfolding pairs_length
  also_most (Some c) e es n m h =
      let w = first-listed (entry_of c e) es codes m in
      omega (arith, pair_most codes (entry_of c e) w.0 fit, h w.1)
  also_most None e es n m h = omega (arith, h m)

  pairs_most : (n k : ℕ) → missing_of (filled_from code to n k) codes ≡ None
      → pairs_length codes (filled_from code to n k) ≤ pairs_max to n k
  unfolding filled_from pairs_length pairs_max
  pairs_most zero k m = omega arith
  pairs_most (suc n) k m =
      also_most (code k) (to k) (filled_from code to n (suc k)) (pairs_max to n (suc k)) m (λ q. pairs_most n (suc k) q)

module _ (d : MappingData) (buttons axes name : List ℕ) (p : Passed d buttons axes name) where
  buttons_are : filled_buttons d ≡ named_buttons d
  buttons_are = buttons_named d p.no_button

  axes_are : filled_axes d ≡ named_axes d
  axes_are = axes_named d p.no_axis p.no_dpad_x p.no_dpad_y

  pub buttons_all_plain : AllPlain (filled_buttons d)
  buttons_all_plain = rw buttons_are (buttons_plain d)

  pub axes_all_plain : AllPlain (filled_axes d)
  axes_all_plain = rw axes_are (axes_plain d)

  buttons_most : pairs_length buttons (filled_buttons d) ≤ pairs_max as_button 19 1
  buttons_most =
      rw buttons_are
      (pairs_most (λ k. button_of d (record { 0 = k })) as_button buttons p.buttons_fit 19 1
      (rw buttons_are at p.buttons_listed))

  axes_most : pairs_length axes (filled_axes d) ≤ pairs_max as_axis 6 1
  axes_most =
      rw axes_are
      (pairs_most (λ k. axis_of d (record { 0 = k })) as_axis axes p.axes_fit 6 1
      (rw axes_are at p.axes_listed))

  pub built_most : (uuid : Uuid) → length (built_line d buttons axes name uuid) ≤ built_max
  unfolding built_max
  built_most uuid =
      omega (arith, line_length_lem d buttons axes name uuid, p.short, buttons_most, axes_most)

-- 34 + 8192 + 143 + 25 × 7
pub built_max_lem : built_max ≡ 8544
unfolding built_max pairs_max decimal digits axes_sdl axes_table element_row element_from
built_max_lem = refl

module _ (d : MappingData) (buttons axes name : List ℕ) (uuid : Uuid) where
  pub built_length : checks_of d buttons axes name ≡ Ok tt → length (built_line d buttons axes name uuid) ≤ built_max
  built_length h = built_most d buttons axes name (passed d buttons axes name _ refl h) uuid

  pub built_positive : 1 ≤ length (built_line d buttons axes name uuid)
  built_positive = omega (arith, line_length_lem d buttons axes name uuid)

  answer_by : (a : Result ⊤ MappingError) (room : ℕ) → built_max ≤ room → checks_of d buttons axes name ≡ a
      → answer_of d buttons axes name uuid room ≡ a
  unfolding answer_of
  answer_by (Ok tt) room h e =
      let l : length (built_line d buttons axes name uuid) ≤ room = omega (arith, built_length e) in
      rw (e, le-leb (length (built_line d buttons axes name uuid)) room l)
  answer_by (Err x) room h e = rw e

  -- an output of that length is never too short
  pub room_enough : (room : ℕ) → built_max ≤ room → answer_of d buttons axes name uuid room ≡ checks_of d buttons axes name
  room_enough room h = answer_by (checks_of d buttons axes name) room h refl

-- ---- whether an output is too short: one that holds every line is not
short_so : (room n : ℕ) → short_of room n ≡ true → room < n
short_so room n h = by (leb built_line_max room) h
  where
    by : (t : Bool) → pick t false (ltb room n) ≡ true → room < n
    by true q = let z : ◌≡◌ {A = ℕ} 0 1 = cc in absurd (omega arith)
    by false q = ltb-true room n q

fits_so : (d : MappingData) (buttons axes name : List ℕ) (uuid : Uuid) → checks_of d buttons axes name ≡ Ok tt
    → (room n : ℕ) → n ≡ line_length d buttons axes name → short_of room n ≡ false → n ≤ room
fits_so d buttons axes name uuid c room n e h = by (leb built_line_max room) refl h
  where
    by : (t : Bool) → leb built_line_max room ≡ t → pick t false (ltb room n) ≡ false → n ≤ room
    by true p q =
        omega (
          arith,
          e,
          leb-true built_line_max room p,
          built_length d buttons axes name uuid c,
          built_max_lem,
          line_length_lem d buttons axes name uuid,
        )
    by false p q = ltb-false room n q

-- ---- what a build answers where the checks pass and the slots are gathered
module _ (d : MappingData) (buttons axes name : List ℕ) (uuid : Uuid) (p : Pairs) (g : Gathered d buttons axes p)
    (c : checks_of d buttons axes name ≡ Ok tt) (out : List ℕ) where
  long : line_len_of p name ≡ line_length d buttons axes name
  long = length-held d buttons axes name uuid p g

  pub built_short : short_of (length out) (line_len_of p name) ≡ true
      → Builds d buttons axes name uuid out (refused_build Me.OutputTooShort) out
  built_short h =
      short_build d buttons axes name uuid out (Ok tt) (sym c) refl (line_len_of p name) long
      (short_so (length out) (line_len_of p name) h)

  module _ (h : short_of (length out) (line_len_of p name) ≡ false) where
    most : line_length d buttons axes name ≤ length out
    most = omega (arith, long, fits_so d buttons axes name uuid c (length out) (line_len_of p name) long h)

    same : line_text p name uuid ≡ built_line d buttons axes name uuid
    same = line_held d buttons axes name uuid p g

    pub line_fits : Room out 0 (line_text p name uuid)
    line_fits = omega (arith, most, ap length same, line_length_lem d buttons axes name uuid)

    pub built_whole : (n : ℕ) (m : List ℕ) → Put out 0 (line_text p name uuid) n m
        → Builds d buttons axes name uuid out (record { answer = Ok tt; map = put_map_of p (length name); len = n }) m
    built_whole n m q =
        let wrote = rw same at q in
        let len : n ≡ line_length d buttons axes name =
        omega (arith, wrote.0, line_length_lem d buttons axes name uuid) in
        rw (map-held d name buttons axes p g, wrote.1)
        (whole_build d buttons axes name uuid out (Ok tt) (sym c) refl n len (omega (arith, most, len)))

-- What build's checks tell where they pass, and what build answers and leaves in each case.
-- Assumes nothing.
use Rattle.std.specs.Prelude.{Option, Some, None, Result, Ok, Err, ⊤}
use Prim.Native.Nat.{ℕ, ◌<◌, ◌≤◌}
use mathlib.Core.Path.{◌≡◌, refl, sym, ◌∙◌}
use mathlib.Core.Bool.{Bool, true, false}
use mathlib.Core.List.{List}
use native.Mathlib.Omega.{arith}
use borrow.Author.Tests.{leb-true, le-leb, lt-leb}
use lib.Dec.{leb}
use lib.ListN.{length}
use Rattle.text.specs.Bytes.{pick, written}
use Rattle.text.specs.Utf8.{is_utf8}
use Rattle.text.specs.declared.uuid.Uuid.{Uuid}
use Rattle.text.proofs.ListLaws.{both_parts}
use Rattle.line.specs.declared.ev.Code.{Code}
use Rattle.line.specs.Buttons as B
use Rattle.line.specs.Axes as A
use Rattle.line.specs.Reading.{list_max}
use Rattle.map.specs.declared.error.MappingError.{MappingError}
use Rattle.map.specs.declared.error.MappingError.TheVariants as Me
use Rattle.map.specs.declared.mapping_data.MappingData.{MappingData}
use Rattle.map.specs.Slots.{has_code_in, button_of, axis_of}
use Rattle.map.specs.Build.{name_max, comma_free, missing_of, when_missing, axis_checks, slot_checks}
use Rattle.map.specs.Build.{filled_buttons, filled_axes, checks_of, built_line, built_map, answer_of, build_of, output_of}
use Rattle.map.specs.Build.{refused_build, Builds}
use Rattle.map.specs.Inner.{line_length}
use Rattle.map.proofs.LengthLaws.{line_length_lem}

-- ---- a check that passes
no_refusal_lem : {A : Type 0} (e : MappingError) → ◌≡◌ {A = Result ⊤ MappingError} (Err e) (Ok tt) → A
no_refusal_lem e h = absurd cc

unless_passes : (t : Bool) (e : MappingError) (rest : Result ⊤ MappingError) → pick t rest (Err e) ≡ Ok tt
    → (t ≡ true) × (rest ≡ Ok tt)
unless_passes true e rest h = (refl, h)
unless_passes false e rest h = no_refusal_lem e h

when_passes : (t : Bool) (e : MappingError) (rest : Result ⊤ MappingError) → pick t (Err e) rest ≡ Ok tt
    → (t ≡ false) × (rest ≡ Ok tt)
when_passes true e rest h = no_refusal_lem e h
when_passes false e rest h = (refl, h)

missing_passes : (s : Option Code) (rest : Result ⊤ MappingError) → when_missing s rest ≡ Ok tt
    → (s ≡ None) × (rest ≡ Ok tt)
missing_passes (Some c) rest h = no_refusal_lem (Me.InvalidCode c) h
missing_passes None rest h = (refl, h)

-- a slot without a code
empty : (s : Option Code) → has_code_in s ≡ false → s ≡ None
empty (Some c) h = let z : ◌≡◌ {A = ℕ} 0 1 = cc in absurd (omega arith)
empty None h = refl

-- ---- all checks pass
pub record Passed (d : MappingData) (buttons axes name : List ℕ) : Type 0 where
  pub utf8 : is_utf8 name ≡ true
  pub short : length name ≤ name_max
  pub buttons_fit : length buttons ≤ list_max
  pub axes_fit : length axes ≤ list_max
  pub comma_free_lem : comma_free name ≡ true
  pub no_button : button_of d B.Unknown ≡ None
  pub buttons_listed : missing_of (filled_buttons d) buttons ≡ None
  pub no_axis : axis_of d A.Unknown ≡ None
  pub axes_listed : missing_of (filled_axes d) axes ≡ None
  pub no_dpad_x : axis_of d A.DPadX ≡ None
  pub no_dpad_y : axis_of d A.DPadY ≡ None

passed_all : (d : MappingData) (buttons axes name : List ℕ) → checks_of d buttons axes name ≡ Ok tt
    → Passed d buttons axes name
unfolding checks_of slot_checks axis_checks
passed_all d buttons axes name h =
    let u = unless_passes _ _ _ h in
    let n = unless_passes _ _ _ u.1 in
    let l = unless_passes _ _ _ n.1 in
    let c = unless_passes _ _ _ l.1 in
    let b = when_passes _ _ _ c.1 in
    let bs = missing_passes _ _ b.1 in
    let a = when_passes _ _ _ bs.1 in
    let m = missing_passes _ _ a.1 in
    let x = when_passes _ _ _ m.1 in
    let y = when_passes _ _ _ x.1 in
    let fit = both_parts (leb (length buttons) list_max) (leb (length axes) list_max) l.0 in
    record {
      utf8 = u.0;
      short = leb-true (length name) name_max n.0;
      buttons_fit = leb-true (length buttons) list_max fit.0;
      axes_fit = leb-true (length axes) list_max fit.1;
      comma_free_lem = c.0;
      no_button = empty _ b.0;
      buttons_listed = bs.0;
      no_axis = empty _ a.0;
      axes_listed = m.0;
      no_dpad_x = empty _ x.0;
      no_dpad_y = empty _ y.0;
    }

-- ---- what build answers and leaves, r being what the checks answered
module _ (d : MappingData) (buttons axes name : List ℕ) where
  pub passed : (r : Result ⊤ MappingError) → r ≡ checks_of d buttons axes name → r ≡ Ok tt → Passed d buttons axes name
  passed r e h = passed_all d buttons axes name (sym e ∙ h)

  module _ (uuid : Uuid) (out : List ℕ) (r : Result ⊤ MappingError) (e : r ≡ checks_of d buttons axes name) where
    pub refused_build_lem : (x : MappingError) → r ≡ Err x → Builds d buttons axes name uuid out (refused_build x) out
    unfolding build_of output_of answer_of
    refused_build_lem x h = let c = sym e ∙ h in (rw c, rw c)

    module _ (h : r ≡ Ok tt) (n : ℕ) (l : n ≡ line_length d buttons axes name) where
      pub short_build : length out < n → Builds d buttons axes name uuid out (refused_build Me.OutputTooShort) out
      unfolding build_of output_of answer_of
      short_build k =
          let c = sym e ∙ h in
          let f = lt-leb (length (built_line d buttons axes name uuid)) (length out)
          (omega (arith, line_length_lem d buttons axes name uuid)) in
          (rw (c, f), rw (c, f))

      pub whole_build : n ≤ length out
          → Builds d buttons axes name uuid out (record { answer = Ok tt; map = built_map d name; len = n })
          (written out 0 (built_line d buttons axes name uuid))
      unfolding build_of output_of answer_of
      whole_build k =
          let c = sym e ∙ h in
          let f = le-leb (length (built_line d buttons axes name uuid)) (length out)
          (omega (arith, line_length_lem d buttons axes name uuid)) in
          (rw (c, f, l, line_length_lem d buttons axes name uuid), rw (c, f))

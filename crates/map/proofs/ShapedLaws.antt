-- The maps of build and of `default` have document 01's shape: they are made by puts, and hold 29 or 31 entries at most.
-- Assumes nothing.
use Rattle.std.specs.Prelude.{Result, Ok, Err, ⊤}
use Prim.Native.Nat.{ℕ, ◌≤◌}
use mathlib.Core.Path.{◌≡◌, refl}
use mathlib.Core.List.{List, [], ◌∷◌, ◌++◌}
use native.Mathlib.Omega.{arith}
use lib.ListN.{length, length-append}
use Rattle.line.specs.declared.mapping.Entry.{Entry}
use Rattle.line.specs.declared.mapping.Mapping.{Mapping}
use Rattle.line.specs.Maps.{codes_max, to_map, Ascending, put_entry}
use Rattle.line.specs.Reading.{lists_fit}
use Rattle.line.specs.Shapes.{Shaped}
use Rattle.line.proofs.PickLaws.{picked}
use Rattle.line.proofs.PutLaws.{put_ascending}
use Rattle.line.proofs.ShapeLaws.{shaped_empty}
use Rattle.map.specs.declared.error.MappingError.{MappingError}
use Rattle.map.specs.declared.default.DefaultMap.{DefaultMap}
use Rattle.map.specs.declared.mapping_data.MappingData.{MappingData}
use Rattle.map.specs.Build.{filled_buttons, filled_axes, built_view, built_map, built_line, answer_of, returned, build_of}
use Rattle.map.specs.Default.{button_rows, axis_rows, axis_row_count, rows, in_its_list, put_kept, kept_map, default_of}
use Rattle.map.specs.Shapes.{BuildShaped, DefaultShaped}
use Rattle.map.proofs.FilledLaws.{buttons_few, axes_few}
use Rattle.map.proofs.PutsLaws.{puts_few, none_ascending, built_ascending}
use Rattle.map.proofs.DefaultLaws.{buttons_many, kept_many}

-- ---- build
built_few : (d : MappingData) (name : List ℕ) → length (built_view d name).list ≤ codes_max
built_few d name =
    omega (
      arith,
      puts_few (filled_buttons d ++ filled_axes d) [],
      length-append (filled_buttons d) (filled_axes d),
      buttons_few d,
      axes_few d,
    )

built_shaped : (d : MappingData) (name : List ℕ) → Shaped (built_map d name)
unfolding built_map
built_shaped d name =
    record { view = built_view d name; is = refl; few = built_few d name; ascends = built_ascending d name }

returned_shaped : (a : Result ⊤ MappingError) (m : Mapping) (n : ℕ) → Shaped m → Shaped (returned a m n).map
returned_shaped (Ok tt) m n s = s
returned_shaped (Err e) m n s = shaped_empty

pub build_shaped : BuildShaped
unfolding build_of
build_shaped d buttons axes name uuid room =
    returned_shaped (answer_of d buttons axes name uuid room) (built_map d name)
    (length (built_line d buttons axes name uuid)) (built_shaped d name)

-- ---- default
module _ (buttons axes : List ℕ) where
  kept_ascending : (es xs : List Entry) → Ascending es → Ascending (put_kept buttons axes es xs)
  unfolding put_kept
  kept_ascending es [] h = h
  kept_ascending es (x ∷ xs) h =
      picked Ascending (in_its_list buttons axes x.code)
      (kept_ascending (put_entry x es) xs (put_ascending x es h)) (kept_ascending es xs h)

  axes_many : length axis_rows ≡ axis_row_count
  unfolding axis_rows
  axes_many = refl

  kept_few : length (put_kept buttons axes [] rows) ≤ codes_max
  kept_few =
      omega (arith, kept_many buttons axes [] rows, length-append button_rows axis_rows, buttons_many, axes_many)

  kept_shaped : Shaped (to_map (kept_map buttons axes))
  kept_shaped =
      record {
        view = kept_map buttons axes;
        is = refl;
        few = kept_few;
        ascends = kept_ascending [] rows none_ascending;
      }

pub default_shaped : DefaultShaped
unfolding default_of
default_shaped buttons axes =
    picked (λ (r : DefaultMap). Shaped r.map) (lists_fit buttons axes) (kept_shaped buttons axes) shaped_empty

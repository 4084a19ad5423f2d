-- The shape of every map that build and `default` return, of a refused call too: the theorems `build_shaped` and
-- `default_shaped` in ../proofs/ShapedLaws.antt.
-- The theorems rest on these definitions; they assume nothing.
use Rattle.std.specs.Prelude.{ℕ, List}
use Rattle.text.specs.declared.uuid.Uuid.{Uuid}
use Rattle.line.specs.Shapes.{Shaped}
use Rattle.map.specs.declared.mapping_data.MappingData.{MappingData}
use Rattle.map.specs.Build.{build_of}
use Rattle.map.specs.Default.{default_of}

-- "A map is a count of at most 256 and as many entries (code, element), ascending by code, unused entries code 0 and
-- button 0"
abbrev pub BuildShaped : Type 0
BuildShaped =
    (d : MappingData) (buttons axes name : List ℕ) (uuid : Uuid) (room : ℕ)
    → Shaped (build_of d buttons axes name uuid room).map

abbrev pub DefaultShaped : Type 0
DefaultShaped = (buttons axes : List ℕ) → Shaped (default_of buttons axes).map

-- The shape of every map that is read: the theorem `reading_shaped`.
-- The theorem rests on these definitions; they assume nothing.
use Rattle.std.specs.Prelude.{◌≤◌, ◌≡◌, length}
use Rattle.line.specs.declared.mapping.Mapping.{Mapping}
use Rattle.line.specs.Maps.{codes_max, MapView, to_map, Ascending}

-- "A map is a count of at most 256 and as many entries (code, element), ascending by code, unused entries code 0 and
-- button 0; besides, the name's start and length in the line, the default flag, and one byte of hat flags"
pub record Shaped (m : Mapping) : Type 0 where
  pub view : MapView
  pub is : m ≡ to_map view
  pub few : length view.list ≤ codes_max
  pub ascends : Ascending view.list

-- 20, a wanted line over the limit, never meets a save: the longest line that is built has 8544 bytes.
-- Assumes nothing.
use Rattle.std.specs.Prelude.{Ok}
use mathlib.Core.List.{List}
use mathlib.Core.Path.{◌≡◌}
use Prim.Native.Nat.{ℕ, ◌≤◌}
use native.Mathlib.Omega.{arith}
use lib.ListN.{length}
use Rattle.text.specs.declared.uuid.Uuid.{Uuid}
use Rattle.map.specs.declared.mapping_data.MappingData.{MappingData}
use Rattle.map.specs.Build.{checks_of, built_line}
use Rattle.map.specs.Inner.{built_max}
use Rattle.map.proofs.BuiltLaws.{built_max_lem, built_length}
use Rattle.store.specs.Held.{line_max}

pub line_fits : built_max ≤ line_max
line_fits = omega (arith, built_max_lem)

pub built_fits : (d : MappingData) (buttons axes name : List ℕ) (uuid : Uuid) → checks_of d buttons axes name ≡ Ok tt
    → length (built_line d buttons axes name uuid) ≤ line_max
built_fits d buttons axes name uuid h = omega (arith, built_length d buttons axes name uuid h, line_fits)

-- The contract of the call, and that of the layout, give the result: a built map has document 01's shape.
-- Assumes nothing.
use mathlib.Core.Path.{subst, sym}
use Rattle.map.specs.declared.from_data.Built.{Built}
use Rattle.map.proofs.ShapedLaws.{build_shaped}
use Rattle.exports.specs.FlatMaps.{Unused}
use Rattle.exports.proofs.FlatLaws.{shaped_unused}
use Rattle.exports.proofs.build_calls.raspteal_from_data.Goals as goal

pub lay_out-requires : goal.lay_out-requires
lay_out-requires c = (
  subst (λ (b : Built). Unused b.map.count b.map.entries) (sym c.from_data-built.ensures.0)
      (shaped_unused _ (build_shaped _ _ _ _ _ _)),
  c.empty.ensures,
)

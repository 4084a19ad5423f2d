-- The contract of the call, and that of the layout, give the result: a default map has document 01's shape.
-- Assumes nothing.
use mathlib.Core.Path.{subst, sym}
use Rattle.map.specs.declared.default.DefaultMap.{DefaultMap}
use Rattle.map.proofs.ShapedLaws.{default_shaped}
use Rattle.exports.specs.FlatMaps.{Unused}
use Rattle.exports.proofs.FlatLaws.{shaped_unused}
use Rattle.exports.proofs.build_calls.raspteal_default.Goals as goal

pub lay_out-requires : goal.lay_out-requires
lay_out-requires c =
    let a = c.args in (
      subst (λ (d : DefaultMap). Unused d.map.count d.map.entries) (sym c.default-made.ensures)
          (shaped_unused _ (default_shaped a.buttons.now a.axes.now)),
      c.empty.ensures,
    )

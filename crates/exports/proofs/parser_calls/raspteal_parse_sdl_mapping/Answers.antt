-- The contract of the call, and that of the layout, give the result: a map that was read has document 01's shape.
-- Assumes nothing.
use mathlib.Core.Path.{subst}
use Rattle.line.specs.declared.reading.SdlMapping.{SdlMapping}
use Rattle.line.proofs.ShapeLaws.{reading_shaped}
use Rattle.exports.specs.FlatMaps.{Unused}
use Rattle.exports.proofs.FlatLaws.{shaped_unused}
use Rattle.exports.proofs.parser_calls.raspteal_parse_sdl_mapping.Goals as goal

pub lay_out-requires : goal.lay_out-requires
lay_out-requires c =
    let a = c.args in (
      subst (λ (r : SdlMapping). Unused r.map.count r.map.entries) c.read_mapping-answer.ensures
          (shaped_unused _ (reading_shaped a.buttons.now a.axes.now a.line.now)),
      c.empty.ensures,
    )

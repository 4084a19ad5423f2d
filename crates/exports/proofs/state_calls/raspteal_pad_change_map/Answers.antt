-- The answer of a change of map is always Ok. Assumes nothing.
use Rattle.std.proofs.Common.{subst}
use Rattle.line.specs.declared.mapping.Mapping.{Mapping}
use Rattle.line.specs.Maps.{held}
use Rattle.pad.specs.States.{told_of, change_map_of}
use Rattle.pad.specs.PadGuarantee.{ShortAll}
use Rattle.exports.proofs.state_calls.raspteal_pad_change_map.Goals as goal

pub returns : goal.returns
unfolding change_map_of told_of
returns c =
    let h = c.change_map-events.ensures in (
      simp (c.tell.ensures, c.of-told.ensures, h.told, h.left, c.into.ensures),
      subst (λ (m : Mapping). ShortAll (held m)) c.into.ensures h.short,
    )

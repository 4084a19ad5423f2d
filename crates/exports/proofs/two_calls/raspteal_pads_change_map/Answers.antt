-- The answer of a change of map is always Ok. Assumes nothing.
use Rattle.std.proofs.Common.{subst}
use Rattle.line.specs.declared.mapping.Mapping.{Mapping}
use Rattle.line.specs.Maps.{held}
use Rattle.pad.specs.States.{told_of, change_map_of}
use Rattle.pad.specs.TwoPads.{pads_told_of, pads_change_map_of}
use Rattle.pad.specs.PadGuarantee.{ShortAll}
use Rattle.exports.proofs.two_calls.raspteal_pads_change_map.Goals as goal

pub returns : goal.returns
unfolding pads_change_map_of pads_told_of change_map_of told_of
returns c =
    let h = c.change_map-events.ensures in (
      simp (c.tell.ensures, c.of-told.ensures, c.which_of.ensures, h.told, h.left, c.into.ensures),
      subst (λ (m : Mapping). ShortAll (held m)) c.into.ensures h.short,
    )

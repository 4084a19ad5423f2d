-- The entries before the place are laid out, those after it are unused; nothing else changes.
-- Assumes nothing.
use Rattle.line.specs.Maps.{codes_max}
use Rattle.exports.specs.FlatMaps.{flat_entry}
use Rattle.exports.proofs.FlatLaws.{flat_unused, laid_out}
use lib.ListN.{take, drop, replicate}
use mathlib.Core.List.{◌++◌, map}
use mathlib.Core.Path.{◌≡◌}
use Rattle.exports.proofs.flat_mapping.FlatMapping.lay_out.Given as goal

abbrev pub invariant-loop-i : goal.invariant-loop-i
invariant-loop-i l = l.self
    ≡ laid_out l.m (map flat_entry (take l.i l.m.entries) ++ drop l.i (replicate codes_max flat_unused))

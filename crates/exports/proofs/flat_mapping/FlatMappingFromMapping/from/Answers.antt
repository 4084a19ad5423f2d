-- The entries are laid out one by one. Assumes nothing.
use Rattle.std.proofs.Common.{rules}
use mathlib.Core.Path.{ap}
use Rattle.line.proofs.MapLaws.{past}
use Rattle.exports.specs.FlatMaps.{flat_entry, flat_mapping}
use Rattle.exports.proofs.FlatLaws.{laid, laid_out}
use Rattle.exports.proofs.flat_mapping.FlatMappingFromMapping.from.Goals as goal

pub returns : goal.returns
unfolding flat_mapping
returns c =
    ap (laid_out c.args.m)
    (laid flat_entry _ _ c.args.m.entries c.from_fn.result 256 past c.from_fn.ensures.items (search rules)
    (λ i y q l e. (search rules, search rules)))

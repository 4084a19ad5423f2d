-- The entries are read one by one. Assumes nothing.
use Rattle.std.proofs.Common.{rules}
use Rattle.exports.specs.FlatMaps.{entry_in, mapping_in}
use Rattle.exports.proofs.FlatLaws.{flat_past, laid}
use Rattle.exports.proofs.flat_mapping.MappingFromFlatMapping.from.Goals as goal

pub returns : goal.returns
unfolding mapping_in
returns c =
    simp (
    laid entry_in _ _ c.args.f.entries c.from_fn.result 256 flat_past c.from_fn.ensures.items (search rules) (λ i y q l e. (search rules, search rules))
    )

-- Both arrays are read slot by slot. Assumes nothing.
use Rattle.std.proofs.Common.{rules}
use Rattle.exports.specs.FlatSlots.{slot_in, data_in}
use Rattle.exports.proofs.FlatLaws.{flat_empty, laid}
use Rattle.exports.proofs.flat_data.MappingDataFromFlatData.from.Goals as goal

pub returns : goal.returns
unfolding data_in
returns c =
    let b =
    laid slot_in _ _ c.args.f.buttons c.from_fn.result 20 flat_empty c.from_fn.ensures.items (search rules) (λ i y q l e. (search rules, search rules)) in
    let a =
    laid slot_in _ _ c.args.f.axes c.from_fn-2.result 9 flat_empty c.from_fn-2.ensures.items (search rules) (λ i y q l e. (search rules, search rules)) in
    simp (b, a)

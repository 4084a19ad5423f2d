-- Both arrays are laid out slot by slot. Assumes nothing.
use Rattle.std.proofs.Common.{rules, None}
use Rattle.exports.specs.FlatSlots.{flat_slot, flat_data}
use Rattle.exports.proofs.FlatLaws.{laid}
use Rattle.exports.proofs.flat_data.FlatDataFromMappingData.from.Goals as goal

pub returns : goal.returns
unfolding flat_data
returns c =
    let b =
    laid flat_slot _ _ c.args.d.buttons c.from_fn.result 20 None c.from_fn.ensures.items (search rules) (λ i y q l e. (search rules, search rules)) in
    let a =
    laid flat_slot _ _ c.args.d.axes c.from_fn-2.result 9 None c.from_fn-2.ensures.items (search rules) (λ i y q l e. (search rules, search rules)) in
    simp (b, a)

-- By whether the element has a place. Assumes nothing.
use Rattle.std.proofs.Common.{sym, ◌∙◌}
use Rattle.pad.proofs.PlaceLaws.{no_place, has_place}
use Rattle.pad.proofs.EventLaws.{value_away, value_there}
use Rattle.pad.proofs.StateLaws.{value_parts}
use Rattle.pad.proofs.BiasLaws.{answered_value}
use Rattle.pad.proofs.values.value_of.Goals as goal

pub returns-then-is_none : goal.returns-then-is_none
returns-then-is_none c =
    let none = no_place _ c.place_of.result c.place_of.ensures c.if-is_none.ensures in
    sym (value_away c.args.pad.now c.args.element none)

pub returns : goal.returns
returns c =
    let p = c.args.pad.now in
    let el = c.args.element in
    answered_value c.element_value.result _ c.element_value.type_inv c.element_value.ensures
    ∙ value_parts p c.codes.result.now c.rows.result.now el c.codes.ensures c.rows.ensures.are
    ∙ value_there p el (has_place _ c.place_of.result c.place_of.ensures c.if-is_none.ensures)

-- The look-up goes by the first place of the code. Assumes nothing.
use mathlib.Core.Path.{refl, sym, ◌∙◌}
use Rattle.exports.proofs.ListLaws.{place-found, place-none, found_flat_lem, none_flat, past_flat}
use Rattle.exports.proofs.list_calls.raspteal_lists_map.Goals as goal

pub returns-in-Some : goal.returns-in-Some
returns-in-Some c =
    let a = c.args in
    let i = c.in-Some.i in
    let p = place-found a.code a.codes.now i (sym c.code_place.ensures ∙ c.in-Some.is) in
    found_flat_lem a.codes.now a.elements.now a.code i p.0 _ p.1 c.if-i-elements.true c.listed_element.ensures

pub returns-in_default : goal.returns-in_default
returns-in_default c =
    let a = c.args in
    let i = c.in-Some.i in
    let p = place-found a.code a.codes.now i (sym c.code_place.ensures ∙ c.in-Some.is) in
    past_flat a.codes.now a.elements.now a.code i p.0 c.if-i-elements.false

pub returns-in_default-2 : goal.returns-in_default-2
returns-in_default-2 c =
    let a = c.args in
    none_flat a.codes.now a.elements.now a.code _ refl
    (place-none a.code a.codes.now (sym c.code_place.ensures ∙ c.in_default.is))

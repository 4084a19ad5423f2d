-- The farther of the two pads' values. Assumes nothing.
use Rattle.std.proofs.Common.{ap, ◌∙◌}
use lib.IntN.{ℤ}
use mir.Val.{to_z, of_z}
use Rattle.pad.specs.States.{pad_value}
use mir.Syntax.{w16}
use Rattle.pad.specs.TwoPads.{farther, pads_value}
use Rattle.pad.proofs.BiasLaws.{answered_value}
use Rattle.pad.proofs.two.Pads.value.Goals as goal

pub returns : goal.returns
unfolding pads_value
returns c =
    let a = c.value_of in
    let b = c.value_of-2 in
    let ea = answered_value a.result _ a.type_inv a.ensures in
    let eb = answered_value b.result _ b.type_inv b.ensures in
    let f = c.farthest in
    answered_value f.result _ f.type_inv f.ensures
    ∙ ap (λ (z : ℤ). farther z (to_z w16 (of_z w16 b.result))) ea
    ∙ ap (λ (z : ℤ). farther (pad_value c.args.self.now.first c.args.element) z) eb

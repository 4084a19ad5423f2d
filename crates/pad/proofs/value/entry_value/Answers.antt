-- The line of the entry tells the value.
use mathlib.Core.Path.{◌∙◌}
use mir.Syntax.{w16}
use mir.Val.{to_z, of_z}
use mir.ValLaws.{to_z-of_z}
use Rattle.pad.proofs.LineLaws.{answered}
use Rattle.pad.proofs.ValueLaws.{raw_fits}
use Rattle.pad.proofs.value.entry_value.Goals as goal

pub returns : goal.returns
returns c =
    let v = c.raw_step-v.result in
    let x = c.along.result in
    c.then_some.ensures
    ∙ answered c.args.e.element c.args.e.ranges c.args.raw c.line_of-line.result (to_z w16 (of_z w16 v))
    (to_z w16 (of_z w16 x)) c.counts.result (raw_fits c.args.raw c.raw_step-v.ensures.1) c.line_of-line.ensures.0
    (to_z-of_z w16 v (record { sfits = c.raw_step-v.type_inv }) ∙ c.raw_step-v.ensures.0) c.counts.ensures
    (to_z-of_z w16 x (record { sfits = c.along.type_inv }) ∙ c.along.ensures)

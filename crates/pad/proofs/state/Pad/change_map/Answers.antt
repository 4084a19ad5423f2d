-- All values before and after, and their differences. Assumes nothing.
use Rattle.std.proofs.Common.{ap}
use Rattle.pad.specs.States.{Told}
use Rattle.pad.proofs.StateLaws.{changed}
use Rattle.pad.proofs.state.Pad.change_map.Goals as goal

pub returns-clause-told : goal.returns-clause-told
returns-clause-told c =
    let d = rw (c.all_values-before.ensures, c.all_values.ensures) at c.differences.ensures in
    ap (λ (t : Told). t.events) (changed c.args.self.now c.args.map.now _ c.differences.result c.take_map.ensures.0 d)

pub returns-clause-left : goal.returns-clause-left
returns-clause-left c =
    let d = rw (c.all_values-before.ensures, c.all_values.ensures) at c.differences.ensures in
    ap (λ (t : Told). t.pad) (changed c.args.self.now c.args.map.now _ c.differences.result c.take_map.ensures.0 d)

-- One held code more. Assumes nothing.
use Rattle.std.proofs.Common.{map, sym, ◌∙◌}
use Rattle.line.specs.Numbers.{entry_in}
use Rattle.pad.proofs.BestLaws.{none_chosen, all_more, all_passed}
use Rattle.pad.proofs.choice.bests_of.Goals as goal

pub loop-x-init : goal.loop-x-init
loop-x-init c = none_chosen (map entry_in c.args.entries.now)

pub loop-x-preserved-in-Some-told_by : goal.loop-x-preserved-in-Some-told_by
loop-x-preserved-in-Some-told_by c =
    all_more c.loop-x.yielded c.in-Some.x (map entry_in c.args.entries.now) _ c.held_of-h.ensures c.loop-x.bests
    c.loop-x.invariant c.in-Some-told_by.e _ (sym c.in-Some-told_by.is ∙ c.told_by.ensures) c.count_in.ensures

pub loop-x-preserved : goal.loop-x-preserved
loop-x-preserved c =
    all_passed c.loop-x.yielded c.in-Some.x (map entry_in c.args.entries.now) _ c.held_of-h.ensures c.loop-x.bests
    c.loop-x.invariant (sym c.in_default.is ∙ c.told_by.ensures)

-- What was chosen of those so far. Assumes nothing.
use Rattle.std.proofs.Common.{map}
use Rattle.line.specs.Numbers.{entry_in}
use Rattle.pad.specs.States.{held_in}
use Rattle.pad.specs.Inner.{AllChosen}
use Rattle.pad.proofs.BackLaws.{met}
use Rattle.pad.proofs.choice.bests_of.Given as goal

abbrev pub invariant-loop-x : goal.invariant-loop-x
invariant-loop-x l = AllChosen (map held_in (met l.yielded)) (map entry_in l.entries) l.bests

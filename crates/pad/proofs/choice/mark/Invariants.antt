-- The codes of the entries so far are marked. Assumes nothing.
use Rattle.std.proofs.Common.{◌≡◌, length}
use Rattle.pad.specs.Inner.{Marked}
use Rattle.pad.proofs.BackLaws.{met}
use Rattle.pad.proofs.choice.mark.Given as goal

abbrev pub invariant-loop-x : goal.invariant-loop-x
invariant-loop-x l = (length l.marks ≡ 256) × Marked l.el (met l.yielded) l.marks

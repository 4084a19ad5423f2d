-- The loop's invariant, `Closing`: the lines of the first k numbers are written out, and what is behind is as it was.
use Prim.Native.Nat.{◌-◌}
use Rattle.store.proofs.ClosingLaws.{Closing}
use Rattle.store.proofs.settle.close_up.Given as goal

abbrev pub invariant-loop-k : goal.invariant-loop-k
invariant-loop-k l =
    Closing l.initial.part l.initial.text l.lines l.rows l.kept l.was l.count l.part
    l.text l.at l.off l.k

abbrev pub decreases-loop-k : goal.decreases-loop-k
decreases-loop-k l = l.count - l.k

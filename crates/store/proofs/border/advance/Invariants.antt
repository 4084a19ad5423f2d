-- The loop's invariant, `Moving`: each row that starts at 65535 or below is passed, with its line if it has one.
use Prim.Native.Nat.{◌-◌}
use Rattle.store.proofs.MovedLaws.{Moving}
use Rattle.store.proofs.border.advance.Given as goal

abbrev pub invariant-loop-at : goal.invariant-loop-at
invariant-loop-at l = Moving l.rows l.fn.count l.fn.from l.at l.bytes l.passed

abbrev pub decreases-loop-at : goal.decreases-loop-at
decreases-loop-at l = l.count - l.at

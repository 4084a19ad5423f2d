-- The loop's invariant, `Keeping`: no row before is struck out, and how much their lines take.
use Rattle.store.proofs.ClosingLaws.{Keeping}
use Rattle.store.proofs.settle.kept_rows.Given as goal

abbrev pub invariant-loop-k : goal.invariant-loop-k
invariant-loop-k l = Keeping l.rows l.old l.at l.off l.k

-- The loop's invariant: the first k are apart. The chain of number k says whether its key stands before it.
use Prim.Native.Nat.{◌-◌, ◌≤◌}
use Rattle.store.specs.Keys.{AllApart}
use Rattle.store.specs.Rows.{key_in}
use Rattle.store.proofs.chains.seek_all.Given as goal

abbrev pub invariant-loop-k : goal.invariant-loop-k
invariant-loop-k l = (l.k ≤ l.keys.count) × AllApart (key_in l.keys.rows.now) l.k

abbrev pub decreases-loop-k : goal.decreases-loop-k
decreases-loop-k l = l.keys.count - l.k

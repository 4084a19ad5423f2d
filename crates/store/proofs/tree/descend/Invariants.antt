-- The loop's invariant: the path led to node `at`, past other keys.
use Prim.Native.Nat.{◌-◌}
use Rattle.store.specs.Rows.{key_in}
use Rattle.store.specs.Tree.{Led}
use Rattle.store.proofs.tree.descend.Given as goal

abbrev pub invariant-loop-key : goal.invariant-loop-key
invariant-loop-key l = Led (key_in l.rows) l.nodes (key_in l.rows l.n) l.n l.depth l.at

abbrev pub decreases-loop-key : goal.decreases-loop-key
decreases-loop-key l = l.n - l.at

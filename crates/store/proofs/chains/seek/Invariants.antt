-- The loop's invariant: none of the numbers from c on has the key, and the number before c is in its bucket.
use Prim.Native.Nat.{◌≤◌}
use lib.ListN.{length}
use Rattle.store.specs.Rows.{key_in}
use Rattle.store.proofs.ChainLaws.{Seeking}
use Rattle.store.proofs.chains.seek.Given as goal

abbrev pub invariant-loop-c : goal.invariant-loop-c
invariant-loop-c l = Seeking (length l.links) (key_in l.rows) l.k l.from l.c × (l.from ≤ l.most → l.c ≤ l.left)

abbrev pub decreases-loop-c : goal.decreases-loop-c
decreases-loop-c l = l.c

-- The loop's invariant: the numbers before k are in the tree.
use Rattle.store.specs.Rows.{key_in}
use Rattle.store.specs.Tree.{Treed}
use Rattle.store.proofs.tree.grow.Given as goal

abbrev pub invariant-loop-k : goal.invariant-loop-k
invariant-loop-k l = Treed (key_in l.rows) l.nodes l.k

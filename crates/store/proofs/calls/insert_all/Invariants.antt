-- The loop's invariant, `Inserting`: the buffers hold the lines of the text before `at`, and the rest has the whole's
-- answer.
use Prim.Native.Nat.{◌+◌, ◌-◌}
use lib.ListN.{length}
use Rattle.store.proofs.InsertLaws.{Inserting}
use Rattle.store.proofs.calls.insert_all.Given as goal

abbrev pub invariant-loop-at : goal.invariant-loop-at
invariant-loop-at g l =
    Inserting l.shares l.owner l.initial.part l.initial.text l.lines l.part l.text l.at l.count

abbrev pub decreases-loop-at : goal.decreases-loop-at
decreases-loop-at g l = length l.lines + 1 - l.at

-- The events of the first places, and the values after them still to come. Assumes nothing.
use Rattle.pad.specs.Inner.{Listed}
use Rattle.pad.proofs.telling.differences.Given as goal

abbrev pub invariant-loop-k : goal.invariant-loop-k
invariant-loop-k l =
    Listed l.before l.after l.k-iterator.iter.a.rest.now l.k-iterator.iter.b.rest.now l.events l.k-iterator.count

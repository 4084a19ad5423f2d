-- The slots before i are gathered, and those from i on still to come. Assumes nothing.
use Rattle.map.proofs.FilledLaws.{Gathering}
use Rattle.map.proofs.from_data.gather.gather.Given as goal

abbrev pub invariant-loop-i : goal.invariant-loop-i
invariant-loop-i l = Gathering l.list l.kind l.slots l.i l.filled.items

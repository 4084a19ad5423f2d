-- The first pairs are put, at every turn. Assumes nothing.
use lib.ListN.{take}
use Rattle.map.specs.Inner.{letter_of, pairs_of, Puts}
use Rattle.map.proofs.from_data.output.Output.put_pairs.Given as goal

abbrev pub invariant-loop-slot : goal.invariant-loop-slot
invariant-loop-slot l = Puts l.initial.self (pairs_of (letter_of l.kind) (take l.slot-index l.slots)) l.self

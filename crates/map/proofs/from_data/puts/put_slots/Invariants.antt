-- The first slots are put. Assumes nothing.
use Rattle.map.proofs.PutsLaws.{Putting}
use Rattle.map.proofs.from_data.puts.put_slots.Given as goal

abbrev pub invariant-loop-slot : goal.invariant-loop-slot
invariant-loop-slot l = Putting l.slots l.initial.map l.slot-index l.map

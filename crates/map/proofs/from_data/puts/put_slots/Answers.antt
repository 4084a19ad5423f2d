-- One slot after the other. Assumes nothing.
use Rattle.map.proofs.PutsLaws.{putting_first, putting_turn, putting_all}
use Rattle.map.proofs.from_data.puts.put_slots.Goals as goal

pub loop-slot-init : goal.loop-slot-init
loop-slot-init c = putting_first c.args.slots.now c.args.map.now

pub loop-slot-preserved : goal.loop-slot-preserved
loop-slot-preserved c =
    putting_turn c.args.slots.now c.args.map.now _ _ c.loop-slot.slot-index _ c.loop-slot-test.true
    c.loop-slot.invariant c.put.ensures.1

pub returns : goal.returns
returns c =
    putting_all c.args.slots.now c.args.map.now _ c.loop-slot.slot-index c.loop-slot-test.false c.loop-slot.invariant

use Rattle.std.proofs.Common.{arith}
use Rattle.map.specs.Inner.{letter_of}
use Rattle.map.proofs.OutputLaws.{pairs_none, pairs_room, pairs_turn}
use Rattle.map.proofs.from_data.output.Output.put_pairs.Goals as goal

pub loop-slot-init : goal.loop-slot-init
loop-slot-init c = let a = c.args in pairs_none (letter_of a.kind) a.slots.now a.self.now

pub put_pair-requires : goal.put_pair-requires
put_pair-requires c =
    let a = c.args in
    pairs_room (letter_of a.kind) a.slots.now a.self.now c.requires c.loop-slot.slot-index c.loop-slot.self
    c.loop-slot.invariant _ (omega arith)

pub loop-slot-preserved : goal.loop-slot-preserved
loop-slot-preserved c =
    let a = c.args in
    pairs_turn (letter_of a.kind) a.slots.now a.self.now c.requires c.loop-slot.slot-index c.loop-slot.self
    c.loop-slot.invariant _ (omega arith) c.put_pair.new.self c.put_pair.ensures

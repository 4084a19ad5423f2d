use Rattle.std.proofs.Common.{◌<◌, length, arith, refl}
use Rattle.map.specs.Inner.{lengths_of}
use Rattle.map.proofs.LengthLaws.{lengths_turn}
use Rattle.map.proofs.from_data.output.pairs_len.Goals as goal

pub loop-slot-init : goal.loop-slot-init
unfolding lengths_of
loop-slot-init c = record { is = refl; short = omega arith }

pub loop-slot-preserved : goal.loop-slot-preserved
loop-slot-preserved c =
    let h : c.loop-slot.slot-index < length c.args.filled.now.items =
    rw c.as_slice-slot-items.ensures.value at c.loop-slot-test.true in
    record {
      is =
          lengths_turn c.args.filled.now.items c.loop-slot.slot-index _ _ _ h c.loop-slot.invariant.is
          (rw c.as_slice-slot-items.ensures.value at c.pair_len-len.ensures.is);
      short = omega (arith, c.pair_len-len.ensures.short, c.loop-slot.invariant.short);
    }

-- The buttons' slots, then the axes'. Assumes nothing.
use Rattle.std.proofs.Common.{refl, arith}
use Rattle.line.specs.Maps.{to_map, empty_map}
use Rattle.map.proofs.PutsLaws.{both_put}
use Rattle.map.proofs.from_data.puts.put_map.Goals as goal

pub returns : goal.returns
unfolding to_map empty_map
returns c =
    both_put c.args.pairs.now c.args.name_len _ _ _ _ _ (rw c.requires refl) c.as_slice.ensures.value
    c.as_slice-2.ensures.value (omega arith) c.put_slots.ensures c.put_slots-2.ensures

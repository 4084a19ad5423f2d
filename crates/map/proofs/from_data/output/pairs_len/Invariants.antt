-- The first pairs are counted, and a pair is short, so the sum fits. Assumes nothing.
use Prim.Native.Nat.{◌*◌, ◌≤◌}
use mathlib.Core.Path.{◌≡◌}
use lib.ListN.{take}
use Rattle.map.specs.Inner.{lengths_of}
use Rattle.map.proofs.from_data.output.pairs_len.Given as goal

abbrev pub invariant-loop-slot : goal.invariant-loop-slot
invariant-loop-slot l = record {
  is : l.len ≡ lengths_of (take l.slot-index l.filled.items);
  short : l.len ≤ 36 * l.slot-index;
}

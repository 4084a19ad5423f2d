-- The loop's invariant, `Reading`: the shares of the owners before are read, and the others stand from `at` on.
use Prim.Native.Nat.{◌-◌}
use Rattle.store.proofs.ShareBufferLaws.{Reading}
use Rattle.store.proofs.shares.read_shares.Given as goal

abbrev pub invariant-loop-owner : goal.invariant-loop-owner
invariant-loop-owner l = Reading l.index l.shares l.at l.owner

abbrev pub decreases-loop-owner : goal.decreases-loop-owner
decreases-loop-owner l = 256 - l.owner

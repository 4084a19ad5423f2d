-- The loop's invariant: the sizes of the shares before.
use mathlib.Core.Path.{◌≡◌}
use lib.ListN.{take}
use Rattle.store.specs.Shares.{share_sizes}
use Rattle.store.proofs.shares.share_place.Given as goal

abbrev pub invariant-loop-share : goal.invariant-loop-share
invariant-loop-share l = l.at ≡ share_sizes (take l.share-index l.shares)

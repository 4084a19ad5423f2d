use mathlib.Core.Path.{◌≡◌, refl, ap, ap₂, ◌∙◌}
use Prim.Native.Nat.{ℕ, ◌+◌, ◌<◌}
use native.Mathlib.Omega.{arith}
use lib.ListN.{length, take, get_or}
use lib.Seq.{get_or-take, length-take-le}
use Rattle.store.specs.Shares.{share_size, share_sizes}
use Rattle.store.proofs.ShareBufferLaws.{place-turn, place_most}
use Rattle.store.proofs.ShareRecordLaws.{size_most}
use Rattle.store.proofs.shares.share_place.Goals as goal

pub loop-share-init : goal.loop-share-init
loop-share-init c = unfold share_sizes in refl

pub overflow_add-at : goal.overflow_add-at
overflow_add-at c =
    let s = c.args.shares.now in
    let loop = c.loop-share in
    let k = loop.share-index in
    let n : length (take c.args.owner s) ≡ c.args.owner = length-take-le c.args.owner s (omega arith) in
    omega (
      arith,
      loop.invariant,
      place_most s k,
      c.share_size-at.ensures,
      size_most (get_or (take c.args.owner s) k 0),
    )

pub loop-share-preserved : goal.loop-share-preserved
loop-share-preserved c =
    let s = c.args.shares.now in
    let loop = c.loop-share in
    let k = loop.share-index in
    let n : length (take c.args.owner s) ≡ c.args.owner = length-take-le c.args.owner s (omega arith) in
    let l : k < c.args.owner = omega arith in
    ap₂ (λ (x y : ℕ). x + y) loop.invariant
    (c.share_size-at.ensures ∙ ap share_size (get_or-take c.args.owner s k 0 l))
    ∙ place-turn s k

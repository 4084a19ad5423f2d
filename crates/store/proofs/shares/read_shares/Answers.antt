use mathlib.Core.Path.{sym, ◌∙◌}
use native.Mathlib.Omega.{arith}
use borrow.Author.Rules.{rules}
use Rattle.store.proofs.ShareBufferLaws.{reading_within, reading_turn}
use Rattle.store.proofs.ShareBufferLaws.{reading_all, reading_stop}
use Rattle.store.proofs.shares.read_shares.Goals as goal

pub overflow_add-at : goal.overflow_add-at
overflow_add-at c =
    omega (
      arith,
      reading_within c.loop-owner.invariant (λ k. search rules) c.loop-owner-test.true c.front_share-share.ensures
          c.share_size-at.ensures,
    )

pub loop-owner-preserved : goal.loop-owner-preserved
loop-owner-preserved c =
    reading_turn c.loop-owner.invariant (λ k. search rules) c.loop-owner-test.true c.front_share-share.ensures
    c.share_size-at.ensures

pub returns-then-not-starts_share : goal.returns-then-not-starts_share
returns-then-not-starts_share c =
    reading_stop c.loop-owner.invariant (sym c.starts_share.ensures ∙ c.if-not-starts_share.true)

pub returns : goal.returns
returns c = reading_all c.loop-owner.invariant c.loop-owner-test.false

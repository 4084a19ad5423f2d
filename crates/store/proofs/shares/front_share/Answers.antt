-- A whole record is another owner's, or has one of two kinds.
use mathlib.Core.Path.{sym, ap, ◌∙◌}
use Prim.Native.Nat.{ℕ}
use Rattle.text.specs.Bytes.{pick}
use Rattle.store.specs.Held.{is_long}
use Rattle.store.proofs.ShareRecordLaws.{front_other, front_four, front_six}
use Rattle.store.proofs.shares.front_share.Goals as goal

pub returns-then-index-owner : goal.returns-then-index-owner
returns-then-index-owner c = sym (front_other c.args.owner c.args.index.now c.if-index-owner.true)

pub returns-then-index-eq4 : goal.returns-then-index-eq4
returns-then-index-eq4 c =
    c.word_at.ensures.0
    ∙ front_four c.args.owner c.args.index.now c.requires c.if-index-owner.false c.if-index-eq4.true

pub returns : goal.returns
returns c =
    c.long_share.ensures ∙ ap (λ (b : ℕ). pick (is_long b) b 0) c.u32_at.ensures
    ∙ front_six c.args.owner c.args.index.now c.requires c.if-index-owner.false c.if-index-eq4.false

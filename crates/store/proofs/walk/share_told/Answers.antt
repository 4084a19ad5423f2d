-- A share stands there of the owner that the second byte names, or none.
use mathlib.Core.Path.{sym, ◌∙◌}
use Rattle.store.proofs.ShareRecordLaws.{front_stop}
use Rattle.store.proofs.StepLaws.{share_none, share_some}
use Rattle.store.proofs.walk.share_told.Goals as goal

pub returns-then-not-starts_share : goal.returns-then-not-starts_share
returns-then-not-starts_share c =
    share_none c.args.index.now (front_stop _ c.args.index.now (sym c.starts_share.ensures ∙ c.if-not-starts_share.true))

pub returns-then-share-eq0 : goal.returns-then-share-eq0
returns-then-share-eq0 c = share_none c.args.index.now (sym c.front_share-share.ensures ∙ c.if-share-eq0.true)

pub returns : goal.returns
returns c =
    share_some c.args.index.now _ _ c.front_share-share.ensures c.if-share-eq0.false c.share_size-size.ensures

-- Kind, owner and the bytes of the share stored one after the other.
use mathlib.Core.Path.{◌∙◌}
use Rattle.store.proofs.ShareBufferLaws.{put_short, put_long}
use Rattle.store.proofs.shares.put_share.Goals as goal

pub returns-then-share-le-SHORT_MAX : goal.returns-then-share-le-SHORT_MAX
returns-then-share-le-SHORT_MAX c =
    let args = c.args in
    c.put_word.ensures
    ∙ put_short args.owner args.share args.part.now c.if-share-eq0.false c.if-share-le-SHORT_MAX.true c.requires

pub returns-else-share-le-SHORT_MAX : goal.returns-else-share-le-SHORT_MAX
returns-else-share-le-SHORT_MAX c =
    let args = c.args in
    c.put_u32.ensures ∙ put_long args.owner args.share args.part.now c.if-share-le-SHORT_MAX.false c.requires

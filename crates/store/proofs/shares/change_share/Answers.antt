-- The record's size is changed, and then its bytes.
use Rattle.store.proofs.ShareBufferLaws.{change_fits, change_long, change_done}
use Rattle.store.proofs.shares.change_share.Goals as goal

pub fit_record-requires : goal.fit_record-requires
fit_record-requires c = change_fits c.requires c.share_size.ensures c.share_size-2.ensures

pub put_share-requires : goal.put_share-requires
put_share-requires c = change_long c.requires c.share_size-2.ensures c.fit_record.ensures

pub returns : goal.returns
returns c = change_done c.requires c.share_size.ensures c.share_size-2.ensures c.fit_record.ensures c.put_share.ensures

-- The size of a kind is that of its record.
use Rattle.store.proofs.RecordLaws.{size_sized}
use Rattle.store.proofs.records.record_size.Goals as goal

pub returns : goal.returns
returns c = size_sized c.args.key c.args.off _ c.size_by.ensures

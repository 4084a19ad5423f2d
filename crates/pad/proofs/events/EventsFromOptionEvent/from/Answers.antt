-- Of no events there is room for one. Assumes nothing.
use Rattle.std.proofs.Common.{arith}
use Rattle.pad.proofs.ListLaws.{events_many}
use Rattle.pad.proofs.events.EventsFromOptionEvent.from.Goals as goal

pub push-requires : goal.push-requires
push-requires c = omega (arith, events_many _ _ c.none-events.ensures)

-- All numbers are 0: no chain has a number.
use Rattle.store.proofs.ChainLaws.{chained_none}
use Rattle.store.proofs.chains.Table.new.Goals as goal

pub returns : goal.returns
returns g c = chained_none _ _ _ c.requires

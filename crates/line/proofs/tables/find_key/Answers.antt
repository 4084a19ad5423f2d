-- The search begins at a row of the table.
use Rattle.line.proofs.KeyLaws.{first_within}
use Rattle.line.proofs.tables.find_key.Goals as goal

pub find_from-requires-clause-within : goal.find_from-requires-clause-within
find_from-requires-clause-within c =
    first_within c.args.names.now c.requires c.args.key.now c.first_row.result c.first_row.ensures

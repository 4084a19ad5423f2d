-- The key is written down behind the rows, and the row before with it is struck out: `strikes_row`.
use Rattle.store.proofs.RemovingLaws.{strikes_row}
use Rattle.store.proofs.removing.strike_row.Goals as goal

pub returns : goal.returns
returns g c =
    let s = c.seek_key-r.ensures in
    strikes_row c.args.key c.requires s.rows_after s.sought s.upper_bound c.len_before-had.ensures c.put_len_before.ensures

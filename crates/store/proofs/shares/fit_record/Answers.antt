-- What stands behind the record moves up, or down.
use Rattle.store.proofs.ShareBufferLaws.{moved_up, moved_down}
use Rattle.store.proofs.shares.fit_record.Goals as goal

pub returns-then-was-size : goal.returns-then-was-size
returns-then-was-size c =
    let args = c.args in
    moved_up args.part.now args.was args.size c.requires.0 c.requires.1 c.if-was-size.true c.open_gap.new.part
    c.open_gap.ensures

pub returns-then-size-was : goal.returns-then-size-was
returns-then-size-was c =
    let args = c.args in
    moved_down args.part.now args.was args.size c.requires.0 c.requires.1 c.if-size-was.true c.close_gap.new.part
    c.close_gap.ensures

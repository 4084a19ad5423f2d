-- One test of the definition at each exit.
use Rattle.store.proofs.RecordLaws.{fits_offset, fits_none, fits_most, fits_room}
use Rattle.store.proofs.soundness.head_fits.Goals as goal

pub returns-then-head-off : goal.returns-then-head-off
returns-then-head-off c =
    let args = c.args in
    fits_offset args.off args.head args.room c.if-head-off.true

pub returns-then-head-lt1 : goal.returns-then-head-lt1
returns-then-head-lt1 c =
    let args = c.args in
    fits_none args.off args.head args.room c.if-head-lt1.true

pub returns-then-head-gt-LINE_MAX : goal.returns-then-head-gt-LINE_MAX
returns-then-head-gt-LINE_MAX c =
    let args = c.args in
    fits_most args.off args.head args.room c.if-head-gt-LINE_MAX.true

pub returns : goal.returns
returns c =
    let args = c.args in
    let if1 = c.if-head-off in
    let if2 = c.if-head-lt1 in
    fits_room args.off args.head args.room if1.false if2.false c.if-head-gt-LINE_MAX.false

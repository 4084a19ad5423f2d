-- Where the place is in the buffer, comparing what is left after it is comparing the sum.
-- Assumes nothing.
use Prim.Native.Nat.{◌+◌}
use mathlib.Core.Path.{sym}
use native.Mathlib.Omega.{arith}
use borrow.Author.Tests.{lt-leb}
use Rattle.text.proofs.ListLaws.{room_left}
use Rattle.text.proofs.bytes.fits.Goals as goal

pub returns-then-room-at : goal.returns-then-room-at
returns-then-room-at c =
    let a = c.args in
    sym (lt-leb (a.at + a.len) a.room (omega arith))

pub returns : goal.returns
returns c =
    let a = c.args in
    room_left a.room a.at a.len c.if-room-at.false

-- Digits in two groups are read as those of one text.
-- Assumes nothing.
use mathlib.Core.Path.{sym, ◌∙◌}
use native.Mathlib.Omega.{arith}
use lib.ListN.{take, drop}
use Rattle.text.proofs.ListLaws.{part_length}
use Rattle.text.proofs.UuidLaws.{hex_append, room_for}
use Rattle.text.proofs.uuid.last_groups.Goals as goal

pub hex_more-a-requires : goal.hex_more-a-requires
hex_more-a-requires c =
    let s = c.args.s.now in
    let z19 = part_length s 4 19 (omega arith) in
    rw z19 (omega arith)

pub hex_then-requires : goal.hex_then-requires
hex_then-requires c =
    let s = c.args.s.now in
    let z19 = part_length s 4 19 (omega arith) in
    let z24 = part_length s 12 24 (omega arith) in
    rw z24 (omega arith, room_for (take 4 (drop 19 s)) _ 4 c.hex_more-a.ensures (omega arith))

pub returns : goal.returns
returns c =
    let s = c.args.s.now in
    c.hex_then.ensures
    ∙ rw c.hex_more-a.ensures (sym (hex_append (take 4 (drop 19 s)) (take 12 (drop 24 s)) 0))

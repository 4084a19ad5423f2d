-- The two halves are the first sixteen digits and the last sixteen.
-- Assumes nothing.
use mathlib.Core.Path.{◌≡◌, ◌∙◌}
use native.Mathlib.Omega.{arith}
use lib.ListN.{length, drop, length-drop}
use lib.Seq.{length-take-le}
use Rattle.text.proofs.ListLaws.{part_to_end}
use Rattle.text.proofs.uuid.simple_uuid.Goals as goal

pub hex_more-high-requires : goal.hex_more-high-requires
hex_more-high-requires c = rw (length-take-le 16 c.args.s.now (omega arith)) (omega arith)

pub hex_more-low-requires : goal.hex_more-low-requires
hex_more-low-requires c =
    let s = c.args.s.now in
    let z : length (drop 16 s) ≡ 16 = simp length-drop (omega arith) in
    rw (part_to_end s 16, z) (omega arith)

pub returns : goal.returns
returns c =
    let s = c.args.s.now in
    c.join_halves.ensures
    ∙ rw (c.hex_more-high.ensures, c.hex_more-low.ensures, part_to_end s 16)

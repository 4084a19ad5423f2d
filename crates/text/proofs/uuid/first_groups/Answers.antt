-- Digits in three groups are read as those of one text.
-- Assumes nothing.
use mathlib.Core.Path.{sym, ◌∙◌, ap}
use native.Mathlib.Omega.{arith}
use lib.Seq.{length-take-le}
use lib.ListN.{take, drop, length-append}
use mathlib.Core.List.{◌++◌}
use Rattle.text.proofs.ListLaws.{part_length}
use Rattle.text.specs.Inner.{after}
use Rattle.text.proofs.UuidLaws.{hex_append, hex_three, room_for}
use Rattle.text.proofs.uuid.first_groups.Goals as goal

pub hex_more-a-requires : goal.hex_more-a-requires
hex_more-a-requires c =
    let s = c.args.s.now in
    let z0 = length-take-le 8 s (omega arith) in
    rw z0 (omega arith)

pub hex_then-b-requires : goal.hex_then-b-requires
hex_then-b-requires c =
    let s = c.args.s.now in
    let z0 = length-take-le 8 s (omega arith) in
    let z9 = part_length s 4 9 (omega arith) in
    rw z9 (omega arith, room_for (take 8 s) _ 12 c.hex_more-a.ensures (omega arith))

pub hex_then-requires : goal.hex_then-requires
hex_then-requires c =
    let s = c.args.s.now in
    let z0 = length-take-le 8 s (omega arith) in
    let z9 = part_length s 4 9 (omega arith) in
    let z14 = part_length s 4 14 (omega arith) in
    let e = c.hex_then-b.ensures
    ∙ ap (λ h. after h (take 4 (drop 9 s))) c.hex_more-a.ensures
    ∙ sym (hex_append (take 8 s) (take 4 (drop 9 s)) 0) in
    rw z14 (omega arith, room_for (take 8 s ++ take 4 (drop 9 s)) _ 12 e (simp length-append (omega arith)))

pub returns : goal.returns
returns c =
    let s = c.args.s.now in
    c.hex_then.ensures
    ∙ rw (c.hex_then-b.ensures, c.hex_more-a.ensures)
    (sym (hex_three (take 8 s) (take 4 (drop 9 s)) (take 4 (drop 14 s))))

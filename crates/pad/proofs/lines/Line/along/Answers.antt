-- The sum is not below 0, and no cast loses a bit of it.
use native.Mathlib.Omega.{arith}
use Rattle.std.proofs.lemmas.Int.{to_z-of_z}
use Rattle.pad.proofs.SumLaws.{sum_some}
use Rattle.pad.proofs.lines.Line.along.Goals as goal

pub overflow_cast-sum-2 : goal.overflow_cast-sum-2
overflow_cast-sum-2 c =
    let p = sum_some c.args.self c.args.v c.requires c.ranges.v in
    grind (arith, to_z-of_z, p.1, p.2)

pub returns : goal.returns
returns c =
    let p = sum_some c.args.self c.args.v c.requires c.ranges.v in
    grind (arith, to_z-of_z, p.1, p.2, c.cast_signed.ensures)

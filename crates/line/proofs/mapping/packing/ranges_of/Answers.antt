use Rattle.line.proofs.mapping.packing.ranges_of.Goals as goal

pub returns : goal.returns
returns c = simp (c.half_of-input.ensures, c.half_of-output.ensures)

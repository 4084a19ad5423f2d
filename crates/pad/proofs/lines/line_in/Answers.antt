-- The row of the table, and no row is steep.
use mathlib.Core.Path.{refl}
use Rattle.pad.specs.Lines.{line_in, lines}
use Rattle.pad.proofs.LineLaws.{line_gentle}
use Rattle.pad.proofs.lines.line_in.Goals as goal

pub returns : goal.returns
unfolding line_in lines
returns c = (refl, line_gentle c.args.row c.requires)

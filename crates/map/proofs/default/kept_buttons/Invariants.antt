-- The kept rows before place i of the table are put, and those from i on still to come. Assumes nothing.
use Rattle.map.specs.Default.{button_rows}
use Rattle.map.proofs.DefaultLaws.{rows_from, Filling}
use Rattle.map.proofs.default.kept_buttons.Given as goal

abbrev pub invariant-loop-i : goal.invariant-loop-i
invariant-loop-i l = Filling l.codes.buttons.now l.codes.axes.now button_rows (rows_from l.i) l.map

-- After the buttons' rows, the kept ones of the axes' rows so far are put. Assumes nothing.
use Rattle.std.proofs.Common.{drop}
use Rattle.map.specs.Default.{rows, axis_rows}
use Rattle.map.proofs.DefaultLaws.{Filling}
use Rattle.map.proofs.default.kept_map.Given as goal

abbrev pub invariant-loop-code : goal.invariant-loop-code
invariant-loop-code l = Filling l.codes.buttons.now l.codes.axes.now rows (drop l.code-index axis_rows) l.map

-- The first i are the numbers of the entries, the others 0. Assumes nothing.
use mathlib.Core.Path.{◌≡◌}
use mathlib.Core.List.{◌++◌, map}
use lib.ListN.{take, drop, replicate}
use Rattle.line.specs.Numbers.{entry_number}
use Rattle.pad.specs.PadGuarantee.{ShortAll}
use Rattle.pad.proofs.state.entry_numbers.Given as goal

abbrev pub invariant-loop-i : goal.invariant-loop-i
invariant-loop-i l =
    (l.numbers ≡ take l.i (map entry_number l.map.entries) ++ drop l.i (replicate 256 0))
    × ShortAll (take l.i l.map.entries)

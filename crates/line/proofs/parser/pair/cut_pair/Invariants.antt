-- What is cut of the rest, from what is cut so far, is what is cut of all.
use mathlib.Core.Path.{◌≡◌}
use Prim.Native.Nat.{◌≤◌}
use lib.ListN.{drop}
use Rattle.line.proofs.CutLaws.{uncut, cut_of}
use Rattle.line.proofs.parser.pair.cut_pair.Given as goal

abbrev pub invariant-loop-b : goal.invariant-loop-b
invariant-loop-b l =
    (l.pair.len ≡ l.b-index) × ((l.pair.colons ≤ l.b-index) × (cut_of (drop l.b-index l.s) l.pair ≡ cut_of l.s uncut))

-- What was passed, and the run from there on, are the whole run.
use mathlib.Core.Path.{◌≡◌}
use Prim.Native.Nat.{◌≤◌, ◌-◌, ◌+◌}
use lib.ListN.{length, drop}
use Rattle.text.specs.Utf8.{valid_run}
use Rattle.text.proofs.utf8.valid_up_to.Given as goal

abbrev pub invariant-loop-n : goal.invariant-loop-n
invariant-loop-n l = (l.at ≤ length l.s) × (l.at + valid_run (drop l.at l.s) ≡ valid_run l.s)

abbrev pub decreases-loop-n : goal.decreases-loop-n
decreases-loop-n l = length l.s - l.at

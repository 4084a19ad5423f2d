-- The loop's invariant, `Surveying`: the records before `at` are written down, and the others are walked as `walk` does.
use mathlib.Core.Path.{◌≡◌}
use Prim.Native.Nat.{◌-◌}
use lib.ListN.{length}
use Rattle.store.proofs.SurveyLaws.{Surveying}
use Rattle.store.proofs.soundness.survey.Given as goal

abbrev pub invariant-loop-head : goal.invariant-loop-head
invariant-loop-head g l =
    Surveying l.index l.text l.at l.table.rows l.table.heads l.table.links l.n l.used
    l.verdict
    × (length l.table.rows ≡ length l.initial.table.rows)

abbrev pub decreases-loop-head : goal.decreases-loop-head
decreases-loop-head g l = length l.index - l.at

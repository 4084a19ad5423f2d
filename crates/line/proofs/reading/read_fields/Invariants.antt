-- What is left to read from where the walker stands is, at every turn, what the line reads as.
use Prim.Native.Nat.{◌-◌}
use mathlib.Core.Path.{◌≡◌}
use lib.ListN.{length}
use Rattle.line.specs.Inner.{draft_map, view_of, Padded}
use Rattle.line.specs.Reading.{read_line}
use Rattle.line.proofs.ReadingLaws.{rest_of, Begun}
use Rattle.line.proofs.reading.read_fields.Given as goal

abbrev pub invariant-loop-pos : goal.invariant-loop-pos
invariant-loop-pos l =
    (rest_of l.line l.pos l.state (view_of (draft_map l.draft)) l.buttons l.axes ≡ read_line l.line l.buttons l.axes)
    × (Padded (draft_map l.draft) × Begun l.state l.pos (view_of (draft_map l.draft)))

abbrev pub decreases-loop-pos : goal.decreases-loop-pos
decreases-loop-pos l = length l.line - l.pos

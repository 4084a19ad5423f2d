-- What was counted, with what is left to count, is at every turn all of the line's.
use Prim.Native.Nat.{◌-◌}
use mathlib.Core.Path.{◌≡◌}
use lib.ListN.{length}
use Rattle.line.proofs.TokenLaws.{Counted}
use Rattle.line.proofs.parser.tokens.count_tokens.Given as goal

abbrev pub invariant-loop-walker : goal.invariant-loop-walker
invariant-loop-walker l =
    (l.walker.«data».now ≡ l.line) × Counted l.line l.walker.pos l.walker.state l.tokens

abbrev pub decreases-loop-walker : goal.decreases-loop-walker
decreases-loop-walker l = length l.line - l.walker.pos

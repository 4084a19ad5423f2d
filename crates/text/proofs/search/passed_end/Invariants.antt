-- A turn passes a byte that passes the test.
use Rattle.std.proofs.Common.{true, take}
use Rattle.std.specs.List.{All}
use Rattle.text.proofs.search.passed_end.Given as goal

abbrev pub invariant-loop-at : goal.invariant-loop-at
invariant-loop-at g l = All (λ b. goal.F-post g l.test b true) (take l.at l.s)

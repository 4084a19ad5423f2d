-- A turn passes a block of bytes that pass the test.
use Rattle.std.proofs.Common.{true, take, ◌*◌}
use Rattle.std.specs.List.{All}
use Rattle.text.proofs.search.passed_front.Given as goal

abbrev pub invariant-loop-k : goal.invariant-loop-k
invariant-loop-k g l = All (λ b. goal.F-post g l.test b true) (take (16 * l.k) l.s)

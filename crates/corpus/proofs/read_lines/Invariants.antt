use Rattle.std.proofs.Common.{◌-◌, length}
use Rattle.corpus.proofs.read_lines.Given as goal

abbrev pub invariant-loop-cut : goal.invariant-loop-cut
invariant-loop-cut l = Unit {0}

abbrev pub decreases-loop-cut : goal.decreases-loop-cut
decreases-loop-cut l = length l.list - l.at

-- What was read is in the room, and each turn reads more.
use Rattle.std.proofs.Common.{◌-◌, ◌≤◌, length}
use Rattle.desk.proofs.files.fill.Given as goal

abbrev pub invariant-loop-len : goal.invariant-loop-len
invariant-loop-len l = l.len ≤ length l.space

abbrev pub decreases-loop-len : goal.decreases-loop-len
decreases-loop-len l = length l.space - l.len

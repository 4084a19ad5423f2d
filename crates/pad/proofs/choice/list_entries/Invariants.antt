-- Of the entries before j, those that count are listed, and no code from `fresh` on is among them. Assumes nothing.
use Rattle.std.proofs.Common.{◌≡◌, ◌≤◌, length, take}
use Rattle.pad.specs.Inner.{Listed_in, FreshFrom}
use Rattle.pad.proofs.choice.list_entries.Given as goal

abbrev pub invariant-loop-j : goal.invariant-loop-j
invariant-loop-j l =
    (length l.room ≡ 256) × (l.count ≤ l.j) × Listed_in l.of (take l.j l.entries) (take l.count l.room)
    × FreshFrom l.fresh (take l.j l.entries)

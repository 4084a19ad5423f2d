-- The loop's invariant, `Taking`: the lines before `at` are filed, and the rest has the whole's answer. And the numbers
-- that are taken can be sought.
use mathlib.Core.Path.{◌≡◌}
use Prim.Native.Nat.{◌+◌, ◌-◌}
use lib.ListN.{length}
use Rattle.store.specs.Rows.{key_in}
use Rattle.store.specs.Tree.{Searched}
use Rattle.store.proofs.BatchLaws.{Taking}
use Rattle.store.proofs.table.Filing.take_lines.Given as goal

abbrev pub invariant-loop-at : goal.invariant-loop-at
invariant-loop-at g l =
    Taking l.self.dues l.self.index.now l.self.text.now l.self.lines.now
    l.initial.table.rows l.initial.table.heads l.initial.table.links l.self.owner l.from l.initial.standing
    l.table.rows l.table.heads l.table.links l.standing l.at l.count
    × ((length l.table.rows ≡ g.row.N) × Searched (key_in l.table.rows) l.nodes l.standing.fill.count (length l.table.rows))

abbrev pub decreases-loop-at : goal.decreases-loop-at
decreases-loop-at g l = length l.self.lines.now + 1 - l.at

-- The loop's invariant, `Adding`: the rows before are added up.
use Rattle.store.proofs.UseLaws.{Adding}
use Rattle.store.proofs.claims.Listed.add_uses.Given as goal

abbrev pub invariant-loop-row : goal.invariant-loop-row
invariant-loop-row l = Adding l.self.rows.now l.self.count l.uses l.row-index

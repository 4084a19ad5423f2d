-- The loop's invariant, `Summing`: what the owners before claim is added up, and the others' claims are the rest.
use lib.ListN.{length}
use Rattle.store.proofs.UseLaws.{Summing}
use Rattle.store.proofs.claims.claims_of.Given as goal

abbrev pub invariant-loop-used : goal.invariant-loop-used
invariant-loop-used l =
    (goal.iterator-loop-used).can_next l.used-iterator ×
    (goal.iterator-loop-used).is_finite l.used-iterator
    × Summing l.uses l.shares (length l.yielded) l.sum

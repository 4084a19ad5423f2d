-- The loop's invariant, `Othering`: what is counted and what is left make up the whole.
use Prim.Native.Nat.{◌-◌}
use Rattle.store.proofs.OtherLaws.{Othering}
use Rattle.store.proofs.spellings.other_spellings.Given as goal

abbrev pub invariant-loop : goal.invariant-loop
invariant-loop l = Othering l.lines l.count l.at (l.count - l.counter) l.other

-- The events of the first ones. Assumes nothing.
use Rattle.pad.specs.PadGuarantee.{told_events}
use Rattle.pad.specs.Inner.{Refining}
use Rattle.pad.proofs.two.joined_events.Given as goal

abbrev pub invariant-loop-e : goal.invariant-loop-e
invariant-loop-e l = Refining l.which l.own l.beside (told_events l.fn.told) l.events l.e-index

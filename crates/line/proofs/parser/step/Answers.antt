-- By whether the line has ended.
use Rattle.line.specs.Walker.{step_of}
use borrow.Author.Tests.{lt-ltb, le-ltb}
use Rattle.line.proofs.parser.step.Goals as goal

pub returns-then-line-pos : goal.returns-then-line-pos
unfolding step_of
returns-then-line-pos c = simp (le-ltb _ _ c.if-line-pos.true, c.take_step.ensures)

pub returns : goal.returns
unfolding step_of
returns c = simp (lt-ltb _ _ c.if-line-pos.false, c.field_step.ensures)

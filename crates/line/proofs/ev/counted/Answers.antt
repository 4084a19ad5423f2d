-- `ev::counted` meets its contract: by its one test. Assumes nothing.
use borrow.Author.Tests.{le-leb, lt-leb}
use Rattle.line.proofs.ev.counted.Goals as goal

pub returns-then-n-last : goal.returns-then-n-last
returns-then-n-last c = rw (le-leb _ _ c.if-n-last.true)

pub returns-else-n-last : goal.returns-else-n-last
returns-else-n-last c = rw (lt-leb _ _ c.if-n-last.false)

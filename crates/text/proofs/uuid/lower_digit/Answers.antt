-- By the two ranges of a digit.
-- Assumes nothing.
use mathlib.Core.Path.{sym}
use borrow.Author.Tests.{lt-ltb, le-ltb}
use Rattle.text.proofs.uuid.lower_digit.Goals as goal

pub returns-then-d-lt10 : goal.returns-then-d-lt10
returns-then-d-lt10 c = sym (simp (lt-ltb c.args.d 10 c.if-d-lt10.true))

pub returns : goal.returns
returns c = sym (simp (le-ltb c.args.d 10 c.if-d-lt10.false))

-- The tests of the definition, in its order.
use borrow.Author.Tests.{lt-ltb, le-ltb, eq-eqb, ne_eqb}
use Rattle.store.proofs.chains.shown.Goals as goal

pub returns-then-n-r : goal.returns-then-n-r
returns-then-n-r c = simp (lt-ltb _ _ c.if-n-r.true)

pub returns-then-r-eq0 : goal.returns-then-r-eq0
returns-then-r-eq0 c = simp (le-ltb _ _ c.if-n-r.false, eq-eqb _ _ c.if-r-eq0.true)

pub returns : goal.returns
returns c = simp (le-ltb _ _ c.if-n-r.false, ne_eqb _ _ c.if-r-eq0.false)

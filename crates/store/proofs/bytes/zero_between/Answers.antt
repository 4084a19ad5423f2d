-- The bytes in between are set to 0, or there are none.
use native.Mathlib.Omega.{arith}
use Rattle.store.proofs.BufferLaws.{between_zero, between_none}
use Rattle.store.proofs.bytes.zero_between.Goals as goal

pub returns-then-from-to : goal.returns-then-from-to
returns-then-from-to c =
    let args = c.args in
    between_zero args.s.now args.from args.to _ (omega arith) (c.fill.ensures.after (λ y e. e)) c.requires.1

pub returns-else-from-to : goal.returns-else-from-to
returns-else-from-to c = between_none c.args.s.now c.args.from c.args.to c.if-from-to.false

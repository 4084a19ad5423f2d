use native.Mathlib.Omega.{arith}
use Rattle.store.proofs.MovedLaws.{move-most, move-turn}
use Rattle.store.proofs.border.advance.Goals as goal

pub overflow_add-bytes : goal.overflow_add-bytes
overflow_add-bytes c =
    omega (
      arith,
      c.requires.within.1,
      move-most c.loop-at.invariant c.loop-at-test.true c.if-bytes-le-SHORT_MAX.true,
    )

pub loop-at-preserved : goal.loop-at-preserved
loop-at-preserved c =
    move-turn c.loop-at.invariant c.loop-at-test.true c.if-bytes-le-SHORT_MAX.true _ c.one_if-passed.ensures

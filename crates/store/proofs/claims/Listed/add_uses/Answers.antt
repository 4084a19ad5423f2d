use native.Mathlib.Omega.{arith}
use borrow.Author.Rules.{rules}
use Rattle.store.proofs.UseLaws.{add_first, taken_most, taken_next}
use Rattle.store.proofs.claims.Listed.add_uses.Goals as goal

pub loop-row-init : goal.loop-row-init
loop-row-init c = add_first _ _ c.args.self.now.addable c.args.uses.now c.requires

pub overflow_cast-uses : goal.overflow_cast-uses
overflow_cast-uses c =
    omega (arith, taken_most c.args.self.now.addable c.loop-row.invariant (omega arith) (search rules))

pub overflow_add-uses : goal.overflow_add-uses
overflow_add-uses c =
    omega (arith, taken_most c.args.self.now.addable c.loop-row.invariant (omega arith) (search rules))

pub loop-row-preserved : goal.loop-row-preserved
loop-row-preserved c = taken_next c.args.self.now.addable c.loop-row.invariant (omega arith) (search rules)

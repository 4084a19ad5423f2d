use native.Mathlib.Omega.{arith}
use Rattle.store.proofs.LoadLaws.{enough_less}
use borrow.Author.Rules.{rules}
use Rattle.store.proofs.InsertLaws.{insert_first, still_sound, insert_end, insert_stop, insert_turn_lem}
use Rattle.store.proofs.calls.insert_all.Goals as goal

pub loop-at-init : goal.loop-at-init
loop-at-init g c =
    insert_first c.args.shares.now c.args.owner c.args.part.now c.args.text.now c.args.lines.now (λ k. search rules)
    c.requires.text_value

pub insert_batch-some-requires : goal.insert_batch-some-requires
insert_batch-some-requires g c =
    record {
      enough = enough_less (omega (arith, c.loop-at.invariant.index)) c.requires.enough;
      text_value = still_sound c.loop-at.invariant;
      from_in_bounds = omega (arith, c.loop-at-test.true);
    }

pub returns-in-Err : goal.returns-in-Err
returns-in-Err g c =
    insert_stop c.loop-at.invariant c.insert_batch-some.result _ _ c.insert_batch-some.ensures.batches _ c.in-Err.is

pub loop-at-preserved : goal.loop-at-preserved
loop-at-preserved g c =
    insert_turn_lem c.loop-at.invariant c.insert_batch-some.result _ _ c.insert_batch-some.ensures.batches c.in-Ok.is
    c.requires.enough.some c.insert_batch-some.ensures.went

pub returns : goal.returns
returns g c = insert_end c.loop-at.invariant (search rules)

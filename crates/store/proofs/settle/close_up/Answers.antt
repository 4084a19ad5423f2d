use native.Mathlib.Omega.{arith}
use Rattle.store.proofs.ClosingLaws.{close_skip, close_within}
use Rattle.store.proofs.ClosingLaws.{close_later, close_ends, close_off, close_end}
use Rattle.store.proofs.ClosingLaws.{close_long}
use Rattle.store.proofs.ClosingLaws.{close_fits, close_turn}
use Rattle.store.proofs.SettleLaws.{fits_text, fits_source, stands_ahead}
use Rattle.store.proofs.settle.close_up.Goals as goal

pub loop-k-preserved-then-row-eq0 : goal.loop-k-preserved-then-row-eq0
loop-k-preserved-then-row-eq0 c =
    let loop = c.loop-k in
    close_skip loop.invariant (omega arith) c.if-row-eq0.true

pub slice_bounds-put_record-count : goal.slice_bounds-put_record-count
slice_bounds-put_record-count c =
    let loop = c.loop-k in
    omega (arith, close_within loop.invariant)

pub slice_bounds-put_record-start : goal.slice_bounds-put_record-start
slice_bounds-put_record-start c =
    let loop = c.loop-k in
    omega (arith, close_within loop.invariant)

pub put_record-requires : goal.put_record-requires
put_record-requires c = rw c.key-key.ensures (close_fits c.loop-k.invariant (omega arith) c.if-row-eq0.false)

pub put_text-requires : goal.put_text-requires
put_text-requires c =
    let run = c.loop-k.invariant.run in
    let some = c.if-row-eq0.false in record {
      len_in_bounds = fits_text run (omega arith) some;
      len_in_bounds_2 = fits_source run (omega arith) some;
      off_le_start = stands_ahead run (omega arith) some;
    }

pub loop-k-preserved : goal.loop-k-preserved
loop-k-preserved c =
    close_turn c.loop-k.invariant c.loop-k-test.true c.if-row-eq0.false _ (rw c.key-key.ensures at c.record_size-at.ensures) _ _
    (rw c.key-key.ensures at c.put_record.ensures) c.put_text.ensures

pub overflow_sub-was : goal.overflow_sub-was
overflow_sub-was c =
    let loop = c.loop-k in
    omega (arith, close_later loop.invariant)

pub zero_between-requires : goal.zero_between-requires
zero_between-requires c =
    let loop = c.loop-k in
    (close_within loop.invariant, close_ends loop.invariant)

pub zero_between-requires-2 : goal.zero_between-requires-2
zero_between-requires-2 c =
    let loop = c.loop-k in
    close_off loop.invariant

pub shape_of-part : goal.shape_of-part
shape_of-part c =
    let loop = c.loop-k in
    let zero-between = c.zero_between in
    close_long loop.invariant _ zero-between.ensures

pub returns : goal.returns
returns c =
    let loop = c.loop-k in
    let zero-between = c.zero_between in
    close_end loop.invariant (omega arith) _ _ zero-between.ensures c.zero_between-2.ensures

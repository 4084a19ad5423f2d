-- The row's record is counted as a long one, and the border is then moved on.
use native.Mathlib.Omega.{arith}
use Rattle.store.proofs.MovedLaws.{had_within, had_used, rows_within, near_without, passed_most, row_counted}
use Rattle.store.proofs.border.Standing.with_row.Goals as goal

pub without-requires : goal.without-requires
without-requires c = had_within c.requires.1

pub advance-moved-requires-clause-within : goal.advance-moved-requires-clause-within
advance-moved-requires-clause-within c = rows_within c.requires.1

pub advance-moved-requires-clause-near : goal.advance-moved-requires-clause-near
advance-moved-requires-clause-near c = near_without c.requires.1 _ c.without.ensures

pub overflow_mul-filled : goal.overflow_mul-filled
overflow_mul-filled c =
    omega (
      arith,
      passed_most c.requires.1 _ c.end_with-far.ensures _ c.without.ensures _ c.advance-moved.ensures,
      c.end_with-far.type_inv,
    )

pub overflow_sub-filled : goal.overflow_sub-filled
overflow_sub-filled c =
    passed_most c.requires.1 _ c.end_with-far.ensures _ c.without.ensures _ c.advance-moved.ensures

pub overflow_sub-filled-2 : goal.overflow_sub-filled-2
overflow_sub-filled-2 c = had_used c.requires.1

pub returns : goal.returns
returns c =
    row_counted c.requires.1 _ c.end_with-far.ensures _ c.without.ensures _ c.advance-moved.ensures

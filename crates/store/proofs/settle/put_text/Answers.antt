-- An old line is moved down within the text, a new one copied: either way it is written at `off`.
use native.Mathlib.Omega.{arith}
use Prim.Native.Nat.{◌+◌}
use Rattle.store.proofs.SettleLaws.{from_text, from_lines, moved_line, copied_line}
use Rattle.store.proofs.settle.put_text.Goals as goal

pub overflow_add-start : goal.overflow_add-start
overflow_add-start c =
    omega (arith, from_text c.args.text.now c.args.lines.now _ _ c.if-old.true c.requires.len_in_bounds_2)

pub slice_bounds-move_down-count : goal.slice_bounds-move_down-count
slice_bounds-move_down-count c = omega (arith, c.requires.off_le_start c.if-old.true)

pub slice_bounds-move_down-start : goal.slice_bounds-move_down-start
slice_bounds-move_down-start c = omega (arith, c.requires.off_le_start c.if-old.true)

pub slice_bounds-move_down-end : goal.slice_bounds-move_down-end
slice_bounds-move_down-end c =
    omega (arith, from_text c.args.text.now c.args.lines.now _ _ c.if-old.true c.requires.len_in_bounds_2)

pub overflow_sub-start : goal.overflow_sub-start
overflow_sub-start c = omega (arith, c.requires.off_le_start c.if-old.true)

pub returns-then-old : goal.returns-then-old
returns-then-old c =
    let a = c.args in
    let old = c.if-old.true in
    moved_line a.text.now a.lines.now a.off a.start a.len a.old old (c.requires.off_le_start old)
    (from_text a.text.now a.lines.now a.old (a.start + a.len) old c.requires.len_in_bounds_2) _
    c.move_down.ensures

pub overflow_add-start-2 : goal.overflow_add-start-2
overflow_add-start-2 c =
    omega (arith, from_lines c.args.text.now c.args.lines.now _ _ c.if-old.false c.requires.len_in_bounds_2)

pub slice_bounds-write_bytes-end : goal.slice_bounds-write_bytes-end
slice_bounds-write_bytes-end c =
    omega (arith, from_lines c.args.text.now c.args.lines.now _ _ c.if-old.false c.requires.len_in_bounds_2)

pub returns : goal.returns
returns c =
    let a = c.args in
    let new = c.if-old.false in
    copied_line a.text.now a.lines.now a.off a.start a.len a.old new c.requires.len_in_bounds
    (from_lines a.text.now a.lines.now a.old (a.start + a.len) new c.requires.len_in_bounds_2) _
    c.write_bytes.ensures.1

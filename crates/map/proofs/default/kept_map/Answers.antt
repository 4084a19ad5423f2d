-- One row after the other. Assumes nothing.
use Rattle.std.proofs.Common.{◌<◌, ◌≤◌, length, refl, arith, add-one, ◌∙◌}
use Rattle.std.proofs.Math.Seq.{drop-cons}
use Rattle.std.proofs.Math.ListN.{drop_of_length-le}
use Rattle.map.specs.declared.default.TheConstants.{AXIS_ROWS}
use Rattle.map.specs.Default.{rows, axis_rows}
use Rattle.map.proofs.DefaultLaws.{row_of, fill_axes, fill_turn, fill_end}
use Rattle.map.proofs.default.kept_map.Goals as goal

pub loop-code-init : goal.loop-code-init
loop-code-init c = fill_axes c.args.codes.buttons.now c.args.codes.axes.now _ c.kept_buttons-map.ensures

pub loop-code-preserved : goal.loop-code-preserved
unfolding axis_rows
loop-code-preserved c =
    let b = c.args.codes.buttons.now in
    let a = c.args.codes.axes.now in
    let i = c.loop-code.code-index in
    let h : i < length axis_rows = omega arith in
    let made = c.new.ensures ∙ row_of AXIS_ROWS axis_rows i _ h refl in
    let left = drop-cons axis_rows i _ h in
    rw add-one (fill_turn b a rows _ _ _ _ (rw made at c.put_listed.ensures) (rw left at c.loop-code.invariant))

pub returns : goal.returns
unfolding axis_rows
returns c =
    let h : length axis_rows ≤ c.loop-code.code-index = omega arith in
    fill_end c.args.codes.buttons.now c.args.codes.axes.now rows _
    (rw (drop_of_length-le axis_rows h) at c.loop-code.invariant)

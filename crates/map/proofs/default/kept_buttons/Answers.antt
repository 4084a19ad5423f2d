-- By the number at each place: 0, and no row, or a button's, and its row. Assumes nothing.
use Rattle.std.proofs.Common.{ℕ, ◌≡◌, ◌+◌, ◌<◌, get_or, arith, ap, sym, ◌∙◌}
use Rattle.line.specs.Elements.{code_of}
use Rattle.line.specs.Maps.{entry_of}
use Rattle.line.specs.Tables.{as_button}
use Rattle.map.specs.Keys.{key_first, key_count, key_number}
use Rattle.map.specs.Default.{button_rows}
use Rattle.map.proofs.KeyLaws.{table_number}
use Rattle.map.proofs.DefaultLaws.{key_row, rows_from, rows-first, rows_last, rows_none, rows-some, buttons_many}
use Rattle.map.proofs.DefaultLaws.{fill_none, fill_turn, fill_end, flagged_empty}
use Rattle.map.proofs.default.kept_buttons.Goals as goal
use Rattle.map.proofs.default.kept_buttons.Goals.{then-n-ne0, else-n-ne0}

pub loop-i-init : goal.loop-i-init
loop-i-init c =
    rw rows-first
    (fill_none c.args.codes.buttons.now c.args.codes.axes.now button_rows _ (omega (arith, buttons_many))
    (flagged_empty c.new-map.result c.new-map.ensures))

pub loop-i-preserved : goal.loop-i-preserved
loop-i-preserved c =
    let b = c.args.codes.buttons.now in
    let a = c.args.codes.axes.now in
    let i = c.loop-i.i in
    let h : i < key_count = omega arith in
    let number : get_or c.key_table-table.result.buttons i 0 ≡ key_number (key_first + i) =
    table_number c.key_table-table.result i c.key_table-table.ensures h in
    elim c.if-n-ne0.branch [
      | then-n-ne0 w ↦
          let some = rows-some i h (λ z. w.if-n-ne0.true (number ∙ z)) in
          let made = w.key_row.ensures ∙ ap (λ (n : ℕ). entry_of (code_of (key_first + i)) (as_button n)) number in
          rw w.map-is
          (fill_turn b a button_rows (key_row (key_first + i)) (rows_from (i + 1)) _ _
          (rw made at w.put_listed.ensures) (rw some at c.loop-i.invariant))
      | else-n-ne0 w ↦ rw (w.map-is, sym (rows_none i h (sym number ∙ w.if-n-ne0.false))) c.loop-i.invariant
    ]

pub returns : goal.returns
returns c =
    fill_end c.args.codes.buttons.now c.args.codes.axes.now button_rows _
    (rw (rows_last c.loop-i.i (omega arith)) at c.loop-i.invariant)

-- By what the checks answer, and by the room. Assumes nothing.
use Rattle.std.proofs.Common.{sym, refl, ◌∙◌}
use Rattle.map.proofs.CheckLaws.{passed, refused_build_lem}
use Rattle.map.proofs.BuiltLaws.{built_short, line_fits, built_whole}
use Rattle.map.proofs.from_data.from_data.Goals as goal

pub too_short-requires : goal.too_short-requires
too_short-requires c =
    let a = c.args in
    (passed a.«data» a.buttons.now a.axes.now a.name.now _ (sym c.in-Ok.ensures.0) refl).short

pub returns-then-too_short : goal.returns-then-too_short
returns-then-too_short c =
    let a = c.args in
    rw c.new.ensures
    (built_short a.«data» a.buttons.now a.axes.now a.name.now a.uuid _ c.in-Ok.ensures.1 c.in-Ok.ensures.0 a.out.now
    (sym c.too_short.ensures ∙ c.if-too_short.true))

pub put_line-requires : goal.put_line-requires
put_line-requires c =
    let a = c.args in
    line_fits a.«data» a.buttons.now a.axes.now a.name.now a.uuid _ c.in-Ok.ensures.1 c.in-Ok.ensures.0 a.out.now
    (sym c.too_short.ensures ∙ c.if-too_short.false)

pub returns-in-Err : goal.returns-in-Err
returns-in-Err c =
    let a = c.args in
    rw c.new.ensures
    (refused_build_lem a.«data» a.buttons.now a.axes.now a.name.now a.uuid a.out.now _ (sym c.in-Err.ensures) _ refl)

pub returns-else-too_short : goal.returns-else-too_short
returns-else-too_short c =
    let a = c.args in
    rw c.put_map.ensures
    (built_whole a.«data» a.buttons.now a.axes.now a.name.now a.uuid _ c.in-Ok.ensures.1 c.in-Ok.ensures.0 a.out.now
    (sym c.too_short.ensures ∙ c.if-too_short.false) _ _ c.put_line.ensures)

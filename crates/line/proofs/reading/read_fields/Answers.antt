-- A turn of the walker, and of the map by its view.
use mathlib.Core.Path.{refl, sym, ap, ◌∙◌}
use native.Mathlib.Omega.{arith}
use Rattle.std.specs.Prelude.{Result, ⊤}
use Rattle.line.specs.declared.reading.ParseSdlMappingError.{ParseSdlMappingError}
use Rattle.line.specs.Inner.{draft_map, outcome}
use Rattle.line.proofs.ViewLaws.{empty_padded, empty_viewed}
use Rattle.line.proofs.ReadingLaws.{rest_of, at_first, rest_done, turn_refused, turn_accepted, turn_moves, turn_begun}
use Rattle.line.proofs.TurnLaws.{was_accepted, was_refused, passed_on}
use Rattle.line.proofs.reading.read_fields.Goals as goal

pub loop-pos-init : goal.loop-pos-init
unfolding rest_of
loop-pos-init c = rw (c.requires, empty_viewed) (refl, (empty_padded, at_first))

pub returns-in_err-take_answer : goal.returns-in_err-take_answer
returns-in_err-take_answer c =
    let a = c.args in
    let l = c.loop-pos in
    let x = c.step-next in
    let t = c.take_answer.ensures in
    let was = was_refused _ _ _ t.0 _ c.in_err-take_answer.was in
    let r = turn_refused a.line.now a.buttons.now a.axes.now l.pos l.state _ c.loop-pos-test.true l.invariant.1.1
    x.result x.ensures _ was in (
      sym l.invariant.0 ∙ r
          ∙ ap (λ (o : Result ⊤ ParseSdlMappingError). outcome o (draft_map c.take_answer.new.draft))
          (sym (passed_on c.from_residual.result c.in_err-take_answer.field-0.0 c.from_residual.ensures)),
      t.1,
    )

pub loop-pos-smaller : goal.loop-pos-smaller
loop-pos-smaller c =
    let a = c.args in
    let l = c.loop-pos in
    let x = c.step-next in
    let was = was_accepted _ _ _ c.take_answer.ensures.0 c.in_ok-take_answer.was in
    let h = c.loop-pos-test.true in
    omega (
      arith,
      h,
      turn_moves a.line.now a.buttons.now a.axes.now l.pos l.state _ h l.invariant.1.1 x.result x.ensures _ was,
    )

pub loop-pos-preserved : goal.loop-pos-preserved
loop-pos-preserved c =
    let a = c.args in
    let l = c.loop-pos in
    let x = c.step-next in
    let t = c.take_answer.ensures in
    let was = was_accepted _ _ _ t.0 c.in_ok-take_answer.was in
    let h = c.loop-pos-test.true in
    let b = l.invariant.1.1 in (
      sym (turn_accepted a.line.now a.buttons.now a.axes.now l.pos l.state _ h b x.result x.ensures _ was)
          ∙ l.invariant.0,
      (t.1, turn_begun a.line.now a.buttons.now a.axes.now l.pos l.state _ h b x.result x.ensures _ was),
    )

pub returns : goal.returns
returns c =
    let a = c.args in
    let l = c.loop-pos in
    let i = l.invariant in
    (sym i.0 ∙ rest_done a.line.now l.pos l.state _ a.buttons.now a.axes.now c.loop-pos-test.false i.1.1, i.1.0)

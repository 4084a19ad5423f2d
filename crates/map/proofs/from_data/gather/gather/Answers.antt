-- By the slot: an empty one, one whose code is in the list, and one whose code is missing. Assumes nothing.
use Rattle.std.proofs.Common.{arith, sym, ◌∙◌}
use Rattle.map.proofs.FilledLaws.{none_refused, gather_empty, gather_filled, gather_missing, gather_end}
use Rattle.map.proofs.from_data.gather.gather.Goals as goal
use Rattle.map.proofs.from_data.gather.gather.Goals.{in_default, in-Some+in_ok-place}

pub returns-in_err-place : goal.returns-in_err-place
returns-in_err-place c =
    let a = c.args in
    let away = none_refused _ _ _ c.in_err-place.ensures.value _ c.from_residual.ensures.1 in
    rw away.0
    (λ rest. rw (gather_missing a.list.now a.kind a.slots.now c.loop-i.i (omega arith) _ c.loop-i.invariant _
    c.in-Some.is (sym c.find_code.ensures ∙ away.1)))

pub loop-i-preserved : goal.loop-i-preserved
loop-i-preserved c =
    let a = c.args in
    elim c.match-slot.branch [
      | in_default w ↦
          rw w.filled-is
          (gather_empty a.list.now a.kind a.slots.now c.loop-i.i (omega arith) _ c.loop-i.invariant
          w.in_default.is)
      | in-Some+in_ok-place w ↦
          rw (w.filled-is, w.push.ensures.items)
          (gather_filled a.list.now a.kind a.slots.now c.loop-i.i (omega arith) _ c.loop-i.invariant w.in-Some.code
          w.in-Some.is w.in_ok-place.place (sym w.find_code.ensures ∙ w.in_ok-place.ensures.ok_part) w.new-entry.result
          (rw w.element.ensures at w.new-entry.ensures))
    ]

pub returns : goal.returns
returns c = let a = c.args in gather_end a.list.now a.kind a.slots.now _ _ (omega arith) c.loop-i.invariant

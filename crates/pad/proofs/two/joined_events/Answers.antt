-- One event after the other. Assumes nothing.
use Rattle.std.proofs.Common.{get_or, arith, rules}
use lib.ListN.{length-take}
use mir.Syntax.{w16}
use mir.Val.{SFits}
use mir.ValLaws.{to_z-of_z}
use Rattle.pad.specs.declared.events.Event.{Event}
use Rattle.pad.specs.States.{unused_event}
use Rattle.pad.specs.PadGuarantee.{told_events}
use Rattle.pad.proofs.TwoLaws.{joined_is, refining_passed, refining_taken, refining_all}
use Rattle.pad.proofs.ListLaws.{events_many}
use Rattle.pad.proofs.BiasLaws.{answered_value}
use Rattle.pad.proofs.two.joined_events.Goals as goal
use Rattle.pad.proofs.two.joined_events.Goals.{in-Some, in_default}

pub push-requires : goal.push-requires
push-requires c =
    omega (
      arith,
      c.loop-e.invariant.few,
      events_many _ _ c.loop-e.invariant.are,
      length-take c.args.told.count c.args.told.list,
      c.requires,
    )

pub loop-e-preserved : goal.loop-e-preserved
loop-e-preserved c =
    let es = told_events c.args.told in
    let i = c.loop-e.e-index in
    let e : Event = get_or es i unused_event in
    let b = c.value_of-before in
    let eb = answered_value b.result _ b.type_inv b.ensures in
    let f : SFits w16 e.value = search rules in
    let is = joined_is c.args.which c.args.own.now c.args.beside.now e c.joined_change.result _ _ c.joined_change.ensures
    eb (to_z-of_z w16 e.value f) in
    elim c.match-joined_change.branch [
      | in-Some w ↦
          rw w.events-is
          (refining_taken c.args.which c.args.own.now c.args.beside.now es _ i unused_event
          c.loop-e.invariant (omega arith) c.joined_change.result w.in-Some.joint is w.in-Some.is
          (omega (arith, length-take c.args.told.count c.args.told.list, c.requires)) _ w.push.ensures)
      | in_default w ↦
          rw w.events-is
          (refining_passed c.args.which c.args.own.now c.args.beside.now es _ i unused_event
          c.loop-e.invariant (omega arith) c.joined_change.result is w.in_default.is)
    ]

pub returns : goal.returns
returns c =
    refining_all c.args.which c.args.own.now c.args.beside.now (told_events c.args.told) _ c.loop-e.e-index
    c.loop-e.invariant (omega arith)

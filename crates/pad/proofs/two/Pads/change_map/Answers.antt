-- That pad's answer, told for both. Assumes nothing.
use Rattle.std.proofs.Common.{refl, sym, ap, ◌∙◌}
use Rattle.pad.specs.declared.state.Pad.{Pad}
use Rattle.pad.specs.States.{change_map_of}
use Rattle.pad.specs.TwoPads.{PadsTold, pad_of, pads_told_of, pads_change_map_of}
use Rattle.pad.proofs.TwoLaws.{map_few, map_done, beside_after}
use Rattle.pad.proofs.two.Pads.change_map.Goals as goal

pub joined_events-requires : goal.joined_events-requires
joined_events-requires c =
    rw c.change-told.ensures.told (map_few (pad_of c.args.which c.args.self.now) c.args.map.now _ refl)

pub returns-clause-told : goal.returns-clause-told
unfolding pads_change_map_of
returns-clause-told c =
    let p = c.args.self.now in
    let w = c.args.which in
    let t = change_map_of (pad_of w p) c.args.map.now in
    let told = rw c.change-told.ensures.told at c.joined_events.ensures in
    ap (λ (v : PadsTold). v.events)
    (map_done w p c.pad.result.now c.beside.result.now c.pad.ensures
    (c.beside.ensures ∙ beside_after w p t.pad c.change-told.new.self c.change-told.ensures.left) c.args.map.now t _
    c.joined_events.result (ap (λ (o : Pad). change_map_of o c.args.map.now) (sym c.pad.ensures)) refl told)

pub returns-clause-left : goal.returns-clause-left
unfolding pads_change_map_of pads_told_of
returns-clause-left c = c.change-told.ensures.left

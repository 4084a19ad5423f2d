-- By whether the code was put. Assumes nothing.
use Rattle.std.proofs.Common.{refl, ap, ◌∙◌}
use Rattle.std.specs.Prelude.{Option}
use Rattle.std.proofs.lemmas.Result.{err_from_is_err_and}
use mathlib.Core.List.{[]}
use Rattle.pad.specs.declared.events.Event.{Event}
use Rattle.pad.specs.States.{events_in, caught}
use Rattle.pad.specs.TwoPads.{pad_of, pads_raw_event_of}
use Rattle.pad.proofs.TwoLaws.{raw_done, raw_away, beside_after, same_after}
use Rattle.pad.proofs.two.Pads.raw_event.Goals as goal

pub returns-in_err-change : goal.returns-in_err-change
unfolding pads_raw_event_of
returns-in_err-change c =
    let p = c.args.self.now in
    let w = c.args.which in
    let h = c.in_err-change.ensures in
    let r = err_from_is_err_and c.from_residual.result c.from_residual.ensures.1 in (
      rw (r.1, same_after w p c.put.new.self h.there h.told.1)
          (raw_away w p (pad_of w p) _ refl refl c.args.code c.args.raw r.0 (events_in []) h.told.0 refl),
      h.within,
    )

pub returns : goal.returns
unfolding pads_raw_event_of
returns c =
    let p = c.args.self.now in
    let w = c.args.which in
    let h = c.in_ok-change.ensures in
    let q = c.put.new.self in
    let beside = c.beside.ensures ∙ beside_after w p (pad_of w q) q h.there in (
      raw_done w p (pad_of w p) c.beside.result.now refl beside c.args.code c.args.raw (pad_of w q) q
          c.in_ok-change.change _ h.there h.told.0 h.told.1
          (ap (λ (v : Option Event). events_in (caught v [])) c.joined_change.ensures),
      h.within,
    )

-- Two pads as numbers at the C boundary.
-- The contracts of the exports rest on these definitions; they assume nothing.
use Rattle.std.specs.Prelude.{Bool, map}
use Rattle.text.specs.Bytes.{pick}
use Rattle.pad.specs.declared.two.Which.{Which}
use Rattle.pad.specs.declared.two.Which.TheVariants as Wh
use Rattle.pad.specs.TwoPads.{PadsTold}
use Rattle.pad.specs.Refusals.{pad_outcome}
use Rattle.exports.specs.declared.two_calls.FlatPadsTold.{FlatPadsTold}
use Rattle.exports.specs.Flat.{flat_outcome}
use Rattle.exports.specs.FlatPads.{flat_event}

-- the pad that a call is for, by the flag "second"
abbrev pub which_of : Bool → Which
which_of second = pick second Wh.Second Wh.First

unfoldable pub flat_pads_told : PadsTold → FlatPadsTold
flat_pads_told t =
    record {
      refusal = flat_outcome (pad_outcome t.answer);
      pads = t.pads;
      count = t.events.count;
      events = map flat_event t.events.list;
    }

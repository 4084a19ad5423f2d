-- Two pads for one player: the values of the elements, and what the calls answer (document 02, P14).
-- Public contracts rest on these definitions; they assume nothing.
use Rattle.std.specs.Prelude.{List, [], ltb, ℤ, nat_abs, Option, Result, Ok, Err, ⊤}
use Rattle.text.specs.Bytes.{pick}
use Rattle.line.specs.declared.ev.Code.{Code}
use Rattle.line.specs.declared.ev.AxisOrBtn.{AxisOrBtn}
use Rattle.line.specs.declared.mapping.Mapping.{Mapping}
use Rattle.pad.specs.declared.events.Event.{Event}
use Rattle.pad.specs.declared.events.Events.{Events}
use Rattle.pad.specs.declared.events.Raw.{Raw}
use Rattle.pad.specs.declared.state.Pad.{Pad}
use Rattle.pad.specs.declared.state.TooManyCodes.{TooManyCodes}
use Rattle.pad.specs.declared.two.Pads.{Pads}
use Rattle.pad.specs.declared.two.Which.{Which}
use Rattle.pad.specs.declared.two.Which.TheVariants as Wh
use Rattle.pad.specs.Pads.{element_count, element_at, tabulate, changes}
use Rattle.pad.specs.States.{pad_value, new_pad, events_in, caught, Told, raw_event_of, change_map_of}

-- ---- "Each element takes, of the two pads' values, the one farther from zero, and the first pad's between equals."
-- equals are equal distances
abbrev pub farther : ℤ → ℤ → ℤ
farther a b = pick (ltb (nat_abs a) (nat_abs b)) b a

-- the value of an element; 0 for one that is left out
unfoldable pub pads_value : Pads → AxisOrBtn → ℤ
pads_value p el = farther (pad_value p.first el) (pad_value p.second el)

-- the values of the 27 elements
abbrev pub pads_values : Pads → List ℤ
pads_values p = tabulate (λ k. pads_value p (element_at k)) element_count 0

-- two pads "from a state with no codes" and the empty map
unfoldable pub new_pads : Pads
new_pads = record { first = new_pad; second = new_pad }

-- ---- "A raw event or change of map of either pad"
-- the pad that a call is for
abbrev pub pad_of : Which → Pads → Pad
pad_of Wh.First p = p.first
pad_of Wh.Second p = p.second

-- the two pads with that one changed
abbrev pub with_pad : Which → Pads → Pad → Pads
with_pad Wh.First p q = record { first = q; second = p.second }
with_pad Wh.Second p q = record { first = p.first; second = q }

-- whether the call was refused, the pads after it, and the events
pub record PadsTold : Type 0 where
  pub answer : Result ⊤ TooManyCodes
  pub pads : Pads
  pub events : Events

-- a raw event's call as it is told, as `told_by` of one pad
abbrev pub pads_told_by : Result (Option Event) TooManyCodes → Pads → PadsTold
pads_told_by (Ok event) p = record { answer = Ok tt; pads = p; events = events_in (caught event []) }
pads_told_by (Err e) p = record { answer = Err e; pads = p; events = events_in [] }

-- ".. yields P13's events, now for these values": that pad answers as it does by itself, and the events are those of
-- the values of both; "27 counts that pad's codes alone", since it is that pad's answer
unfoldable pub pads_told_of : Pads → Which → Told → PadsTold
pads_told_of p w t =
    record {
      answer = t.answer;
      pads = with_pad w p t.pad;
      events = events_in (changes 0 (pads_values p) (pads_values (with_pad w p t.pad)));
    }

-- a raw value of a code of one pad
unfoldable pub pads_raw_event_of : Pads → Which → Code → Raw → PadsTold
pads_raw_event_of p w c raw = pads_told_of p w (raw_event_of (pad_of w p) c raw)

-- another map for one pad
unfoldable pub pads_change_map_of : Pads → Which → Mapping → PadsTold
pads_change_map_of p w m = pads_told_of p w (change_map_of (pad_of w p) m)

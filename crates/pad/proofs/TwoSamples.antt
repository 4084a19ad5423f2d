-- Two pads for one player: -5 against 5, and what is farther. All computed. Assumes nothing.
use mathlib.Core.Path.{◌≡◌, refl}
use mathlib.Core.List.{List, [], ◌∷◌}
use lib.IntN.{ℤ, pos}
use Rattle.line.specs.Maps.{entry_at}
use Rattle.line.specs.Numbers.{ranges_number, entry_number, shaped_entry, entry_in}
use Rattle.pad.specs.declared.events.Event.{Event}
use Rattle.pad.specs.declared.two.Which.{Which}
use Rattle.pad.specs.declared.two.Which.TheVariants as Wh
use Rattle.pad.specs.Values.{raw_value}
use Rattle.pad.specs.Pads.{choose, tabulate, changes}
use Rattle.pad.specs.States.{held_in, pad_value, new_pad, events_in, told_of, put_number, refused_of, raw_event_of}
use Rattle.pad.specs.States.{entry_numbers, change_map_of}
use Rattle.pad.specs.PadGuarantee.{PadCall, NewMap, told_events}
use Rattle.pad.specs.TwoPads.{pads_value, new_pads, pads_told_of}
use Rattle.pad.specs.TwoGuarantee.{PadsCall, pads_answered, pads_after}
use Rattle.pad.proofs.PadSamples.{stick, mapped, bound, moves, tells, less}

abbrev of : Which → PadCall → PadsCall
of w c = record { pad = w; call = c }

abbrev told : List PadsCall → PadsCall → List Event
told cs c = told_events (pads_answered (pads_after new_pads cs) c).events

-- each pad's code 7 leans the stick
abbrev ready : List PadsCall
ready =
    of Wh.First (NewMap (mapped (bound 7 stick ∷ []))) ∷ of Wh.Second (NewMap (mapped (bound 7 stick ∷ []))) ∷ []

abbrev leans : Which → ℤ → PadsCall
leans w v = of w (moves 7 v)

abbrev after : PadsCall → List PadsCall
after c =
    of Wh.First (NewMap (mapped (bound 7 stick ∷ []))) ∷ of Wh.Second (NewMap (mapped (bound 7 stick ∷ []))) ∷ c ∷ []

pub record FirstBetweenEquals : Type 0 where
  pub moved : told ready (leans Wh.First (less 5)) ≡ tells stick (less 5) ∷ []
  pub equal : told (after (leans Wh.First (less 5))) (leans Wh.Second (pos 5)) ≡ []
  pub back : told (after (leans Wh.Second (pos 5))) (leans Wh.First (less 5)) ≡ tells stick (less 5) ∷ []
  pub farther : told (after (leans Wh.First (less 5))) (leans Wh.Second (pos 6)) ≡ tells stick (pos 6) ∷ []
  pub value : pads_value (pads_after new_pads (after (leans Wh.Second (pos 5)))) stick ≡ pos 5

pub first_between_equals : FirstBetweenEquals
unfolding pads_after pads_told_of new_pads pads_value pad_value raw_event_of change_map_of told_of refused_of events_in new_pad
    put_number held_in entry_numbers entry_number ranges_number entry_in shaped_entry entry_at raw_value choose tabulate changes
first_between_equals = record { moved = refl; equal = refl; back = refl; farther = refl; value = refl }

-- What document 02, P14, promises of every list of raw events and map changes of two pads.
-- The theorems `ends_alike` and `two_reader_agrees` rest on these definitions; they assume nothing.
use Rattle.std.specs.Prelude.{◌≡◌, List, [], ◌∷◌, map, ℤ}
use Rattle.line.specs.declared.mapping.Mapping.{Mapping}
use Rattle.pad.specs.declared.events.Held.{Held}
use Rattle.pad.specs.declared.two.Pads.{Pads}
use Rattle.pad.specs.declared.two.Which.{Which}
use Rattle.pad.specs.declared.two.Which.TheVariants as Wh
use Rattle.pad.specs.Pads.{hears}
use Rattle.pad.specs.States.{new_pad, with_map}
use Rattle.pad.specs.PadGuarantee.{PadCall, RawEvent, answered, pad_after, told_events, zeros}
use Rattle.pad.specs.TwoPads.{pads_values, new_pads, pad_of, PadsTold, pads_told_of}

-- ---- a list of calls, each for one of the two pads
pub record PadsCall : Type 0 where
  pub pad : Which
  pub call : PadCall

-- what a call answers
abbrev pub pads_answered : Pads → PadsCall → PadsTold
pads_answered p c = pads_told_of p c.pad (answered (pad_of c.pad p) c.call)

-- the state after a list of calls, refused ones among them
unfoldable pub pads_after : Pads → List PadsCall → Pads
pads_after p [] = p
pads_after p (c ∷ cs) = pads_after (pads_answered p c).pads cs

-- ---- "all interleavings that keep each pad's own order"
pub data Interleaved : List PadCall → List PadCall → List PadsCall → Type 0 where
  no_calls : Interleaved [] [] []
  first_next : {c : PadCall} {xs ys : List PadCall} {zs : List PadsCall} → Interleaved xs ys zs
      → Interleaved (c ∷ xs) ys (record { pad = Wh.First; call = c } ∷ zs)
  second_next : {c : PadCall} {xs ys : List PadCall} {zs : List PadsCall} → Interleaved xs ys zs
      → Interleaved xs (c ∷ ys) (record { pad = Wh.Second; call = c } ∷ zs)

-- "each pad from a state with no codes and under a map of its own"
abbrev pub under_maps : Mapping → Mapping → Pads
under_maps m n = record { first = with_map new_pad m; second = with_map new_pad n }

-- "two lists of raw events, one per pad": each is a code with its raw value
abbrev pub reported : Held → PadCall
reported h = RawEvent h.code h.raw

-- "For every two lists of raw events, one per pad, each pad from a state with no codes and under a map of its own that
-- stays, all interleavings that keep each pad's own order end with the same element values."
abbrev pub EndsAlike : Type 0
EndsAlike =
    (m n : Mapping) (xs ys : List Held) (zs ws : List PadsCall)
    → Interleaved (map reported xs) (map reported ys) zs → Interleaved (map reported xs) (map reported ys) ws
    → pads_values (pads_after (under_maps m n) zs) ≡ pads_values (pads_after (under_maps m n) ws)

-- more is so: whatever the pads hold at first, and with changes of map among the calls, each pad ends as it would alone
abbrev pub EndsAlone : Type 0
EndsAlone =
    (p : Pads) (xs ys : List PadCall) (zs : List PadsCall) → Interleaved xs ys zs
    → pads_after p zs ≡ record { first = pad_after p.first xs; second = pad_after p.second ys }

-- ---- an outside reader of the events
-- what he holds after a list of calls
unfoldable pub pads_heard : List ℤ → Pads → List PadsCall → List ℤ
pads_heard vs p [] = vs
pads_heard vs p (c ∷ cs) =
    pads_heard (hears vs (told_events (pads_answered p c).events)) (pads_answered p c).pads cs

-- "A raw event or change of map of either pad yields P13's events, now for these values": he holds them
abbrev pub TwoReaderAgrees : Type 0
TwoReaderAgrees = (cs : List PadsCall) → pads_heard zeros new_pads cs ≡ pads_values (pads_after new_pads cs)

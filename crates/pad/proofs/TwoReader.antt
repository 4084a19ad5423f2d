-- All interleavings end alike, and the reader of two pads holds the values of both. Assumes nothing.
use mathlib.Core.Path.{◌≡◌, refl, sym, ap, ◌∙◌}
use mathlib.Core.List.{List, [], ◌∷◌}
use lib.IntN.{ℤ}
use lib.ListN.{length}
use Rattle.pad.specs.declared.two.Pads.{Pads}
use Rattle.pad.specs.declared.two.Which.TheVariants as Wh
use Rattle.pad.specs.Pads.{element_at, choose, tabulate, changes, hears}
use Rattle.pad.specs.States.{pad_value, new_pad}
use Rattle.pad.specs.PadGuarantee.{PadCall, pad_after, told_events, zeros}
use Rattle.pad.specs.TwoPads.{pads_value, pads_values, new_pads, pads_told_of}
use Rattle.pad.specs.TwoGuarantee.{PadsCall, pads_answered, pads_after, Interleaved, no_calls, first_next}
use Rattle.pad.specs.TwoGuarantee.{second_next, under_maps, EndsAlike, EndsAlone, pads_heard, TwoReaderAgrees}
use Rattle.pad.proofs.ReaderLaws.{hears-changes, tabulated}
use Rattle.pad.proofs.PadLaws.{told_back}

-- ---- each pad ends as it would alone
alone : {xs ys : List PadCall} {zs : List PadsCall} (p : Pads) → Interleaved xs ys zs
    → pads_after p zs ≡ record { first = pad_after p.first xs; second = pad_after p.second ys }
unfolding pads_after pad_after pads_told_of
alone p no_calls = refl
alone p (first_next {c} i) = alone (pads_answered p (record { pad = Wh.First; call = c })).pads i
alone p (second_next {c} i) = alone (pads_answered p (record { pad = Wh.Second; call = c })).pads i

pub ends_alone : EndsAlone
ends_alone p xs ys zs i = alone p i

pub ends_alike : EndsAlike
ends_alike m n xs ys zs ws i j =
    ap (λ (p : Pads). pads_values p) (alone (under_maps m n) i ∙ sym (alone (under_maps m n) j))

-- ---- the reader
values_long : (p : Pads) → length (pads_values p) ≡ 27
values_long p = tabulated (λ k. pads_value p (element_at k)) 27 0

told_next : (p : Pads) (c : PadsCall)
    → hears (pads_values p) (told_events (pads_answered p c).events) ≡ pads_values (pads_answered p c).pads
unfolding pads_told_of
told_next p c =
    let q : Pads = (pads_answered p c).pads in
    ap (λ es. hears (pads_values p) es) (told_back (changes 0 (pads_values p) (pads_values q)))
    ∙ hears-changes (pads_values p) (pads_values q) (values_long p) (values_long q)

agrees_from : (p : Pads) (cs : List PadsCall) → pads_heard (pads_values p) p cs ≡ pads_values (pads_after p cs)
unfolding pads_heard pads_after
agrees_from p [] = refl
agrees_from p (c ∷ cs) =
    ap (λ (vs : List ℤ). pads_heard vs (pads_answered p c).pads cs) (told_next p c)
    ∙ agrees_from (pads_answered p c).pads cs

at_rest : zeros ≡ pads_values new_pads
unfolding new_pads pads_value pad_value new_pad choose tabulate
at_rest = refl

pub two_reader_agrees : TwoReaderAgrees
two_reader_agrees cs = ap (λ (vs : List ℤ). pads_heard vs new_pads cs) at_rest ∙ agrees_from new_pads cs

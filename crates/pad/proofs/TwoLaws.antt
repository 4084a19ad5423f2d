-- What becomes of a pad's events when another one plays along. Assumes nothing.
use Rattle.std.specs.Prelude.{Option, Some, None, Ok, Err}
use Prim.Native.Nat.{ℕ, zero, suc, ◌+◌, ◌<◌, ◌≤◌}
use mathlib.Core.Path.{◌≡◌, refl, sym, ap, subst, ◌∙◌}
use mathlib.Core.Bool.{Bool, true, false}
use mathlib.Core.List.{List, [], ◌∷◌, ◌++◌, append_assoc, append-nil}
use native.Mathlib.Omega.{arith}
use native.Mathlib.Numerals.{add-one}
use lib.ListN.{length, drop, get_or, drop_of_length-le, length-append}
use lib.Seq.{drop-cons}
use lib.Dec.{leb}
use lib.IntN.{ℤ}
use Rattle.text.specs.Bytes.{pick}
use Rattle.line.specs.declared.ev.Code.{Code}
use Rattle.line.specs.declared.mapping.Mapping.{Mapping}
use Rattle.pad.specs.declared.state.TooManyCodes.{TooManyCodes}
use Rattle.pad.specs.declared.events.Raw.{Raw}
use Rattle.pad.specs.declared.events.Event.{Event}
use Rattle.pad.specs.declared.events.Events.{Events}
use Rattle.pad.specs.declared.state.Pad.{Pad}
use Rattle.pad.specs.Pads.{held_max, element_at, tabulate, value_of, sameℤ, changes}
use Rattle.pad.specs.States.{held_of, entries_of, pad_values, pad_value, events_in, told_of, with_held, held_after_event}
use Rattle.pad.specs.States.{Told, caught, refused_of, raw_event_of, change_map_of}
use Rattle.pad.specs.PadGuarantee.{told_events}
use Rattle.pad.specs.declared.telling.Change.{Change}
use Rattle.pad.specs.declared.two.Pads.{Pads}
use Rattle.pad.specs.declared.two.Which.{Which}
use Rattle.pad.specs.declared.two.Which.TheVariants as Wh
use Rattle.pad.specs.Refusals.{too_many}
use Rattle.pad.specs.TwoPads.{pads_value, pads_values, pad_of, with_pad, pads_told_of}
use Rattle.pad.specs.Inner.{one_event, event_by, Before, pad_beside, joined_of, joint_event, joined_by, joined_event}
use Rattle.pad.specs.Inner.{refined, PushesEvent, Refining, TellsItself, two}
use Rattle.pad.proofs.PlaceLaws.{place_element}
use Rattle.pad.proofs.TouchLaws.{same_refl}
use Rattle.pad.proofs.EventLaws.{value_there}
use Rattle.pad.proofs.ReaderLaws.{same_value, tabulated}
use Rattle.pad.proofs.PadLaws.{told_back}

-- ---- what becomes of a change
pub joined_same : (w : Which) (q : Pad) (c : Change) → c.before ≡ c.later → None ≡ joined_by w q (Some c)
joined_same w q c e =
    let o = pad_value q c.element in
    sym
    (ap (λ (t : Bool). pick t None (Some (one_event c.element (joined_of w c.later o))))
    (ap (λ (z : ℤ). sameℤ (joined_of w z o) (joined_of w c.later o)) e ∙ same_refl (joined_of w c.later o)))

-- an event of p, as a change
pub joined_is : (w : Which) (p q : Pad) (e : Event) (r : Option Event) (b l : ℤ)
    → r ≡ joint_event w e.element b l (pad_value q e.element) → b ≡ pad_value p e.element → l ≡ e.value
    → r ≡ joined_event w p q e
unfolding joined_event
joined_is w p q e r b l h eb el =
    h ∙ ap (λ (z : ℤ). joint_event w e.element z l (pad_value q e.element)) eb
    ∙ ap (λ (z : ℤ). joint_event w e.element (pad_value p e.element) z (pad_value q e.element)) el

-- of a change of p, the events are those of the one that p tells
pub joined_refined : (w : Which) (p q : Pad) (change : Option Change) → Before p change
    → caught (joined_by w q change) [] ≡ refined w p q (caught (event_by change) [])
unfolding refined joined_event
joined_refined w p q None b = refl
joined_refined w p q (Some c) b = by (sameℤ c.before c.later) refl
  where
    by : (t : Bool) → sameℤ c.before c.later ≡ t
        → caught (joined_by w q (Some c)) []
        ≡ refined w p q (caught (pick t None (Some (one_event c.element c.later))) [])
    by true e =
        ap (λ (v : Option Event). caught v []) (sym (joined_same w q c (same_value c.before c.later e)))
    by false e =
        ap (λ (z : ℤ). caught (joint_event w c.element z c.later (pad_value q c.element)) []) b

-- ---- the value of an element that has a place
value_at : (p : Pad) (k : ℕ) → k < 27 → pad_value p (element_at k) ≡ value_of (held_of p) (entries_of p) (element_at k)
value_at p k l = sym (value_there p (element_at k) (subst (λ (n : ℕ). n < 27) (sym (place_element k l)) l))

-- ---- one event after the other
refined-pick : (leads : Which) (p q : Pad) (t : Bool) (e : Event) (es : List Event)
    → refined leads p q (pick t es (e ∷ es))
    ≡ pick t (refined leads p q es) (caught (joined_event leads p q e) (refined leads p q es))
unfolding refined
refined-pick leads p q true e es = refl
refined-pick leads p q false e es = refl

caught-pick : (t : Bool) (e : Event) (es : List Event) → caught (pick t None (Some e)) es ≡ pick t es (e ∷ es)
caught-pick true e es = refl
caught-pick false e es = refl

module _ (leads : Which) (p r q : Pad) where
  abbrev own : Pad → ℕ → ℤ
  own s k = value_of (held_of s) (entries_of s) (element_at k)

  abbrev beside : ℕ → ℤ
  beside k = pad_value q (element_at k)

  abbrev joint : Pad → ℕ → ℤ
  joint s k = joined_of leads (pad_value s (element_at k)) (beside k)

  abbrev event : ℕ → Event
  event k = one_event (element_at k) (joint r k)

  event_is : (k : ℕ) → k < 27
      → joined_event leads p q (one_event (element_at k) (own r k))
      ≡ pick (sameℤ (joint p k) (joint r k)) None (Some (event k))
  unfolding joined_event
  event_is k l =
      ap
      (λ (z : ℤ). pick (sameℤ (joint p k) (joined_of leads z (beside k))) None
      (Some (one_event (element_at k) (joined_of leads z (beside k)))))
      (sym (value_at r k l))

  step : (k : ℕ) (es : List Event) → k < 27
      → pick (sameℤ (own p k) (own r k)) es (caught (joined_event leads p q (one_event (element_at k) (own r k))) es)
      ≡ pick (sameℤ (joint p k) (joint r k)) es (event k ∷ es)
  step k es l = by (sameℤ (own p k) (own r k)) refl
    where
      by : (t : Bool) → sameℤ (own p k) (own r k) ≡ t
          → pick t es (caught (joined_event leads p q (one_event (element_at k) (own r k))) es)
          ≡ pick (sameℤ (joint p k) (joint r k)) es (event k ∷ es)
      by true e =
          let j : joint p k ≡ joint r k =
          ap (λ (z : ℤ). joined_of leads z (beside k))
          (value_at p k l ∙ same_value (own p k) (own r k) e ∙ sym (value_at r k l)) in
          sym
          (ap (λ (t : Bool). pick t es (event k ∷ es))
          (ap (λ (z : ℤ). sameℤ z (joint r k)) j ∙ same_refl (joint r k)))
      by false e =
          ap (λ (w : Option Event). caught w es) (event_is k l)
          ∙ caught-pick (sameℤ (joint p k) (joint r k)) (event k) es

  refined-from : (n k : ℕ) → k + n ≤ 27
      → refined leads p q (changes k (tabulate (own p) n k) (tabulate (own r) n k))
      ≡ changes k (tabulate (joint p) n k) (tabulate (joint r) n k)
  unfolding refined changes tabulate
  refined-from zero k l = refl
  refined-from (suc n) k l =
      let es : List Event = changes (suc k) (tabulate (own p) n (suc k)) (tabulate (own r) n (suc k)) in
      let t : Bool = sameℤ (own p k) (own r k) in
      let e : Event = one_event (element_at k) (own r k) in
      refined-pick leads p q t e es
      ∙ ap (λ (l : List Event). pick t l (caught (joined_event leads p q e) l)) (refined-from n (suc k) (omega arith))
      ∙ step k (changes (suc k) (tabulate (joint p) n (suc k)) (tabulate (joint r) n (suc k))) (omega arith)

  refined_all : refined leads p q (changes 0 (pad_values p) (pad_values r))
      ≡ changes 0 (tabulate (joint p) 27 0) (tabulate (joint r) 27 0)
  refined_all = refined-from 27 0 (omega arith)

first_events : (p r q : Pad) → refined Wh.First p q (changes 0 (pad_values p) (pad_values r))
    ≡ changes 0 (pads_values (two p q)) (pads_values (two r q))
unfolding pads_value
first_events p r q = refined_all Wh.First p r q

second_events : (p r q : Pad) → refined Wh.Second p q (changes 0 (pad_values p) (pad_values r))
    ≡ changes 0 (pads_values (two q p)) (pads_values (two q r))
unfolding pads_value
second_events p r q = refined_all Wh.Second p r q

-- ---- a pad's own answers
changes-none : (k : ℕ) (xs : List ℤ) → changes k xs xs ≡ []
unfolding changes
changes-none k [] = refl
changes-none k (x ∷ xs) = rw (same_refl x) (changes-none (suc k) xs)

tells_picked : (p r : Pad) (t : Bool) → TellsItself p (pick t (told_of p r) (refused_of p))
unfolding told_of refused_of
tells_picked p r true = refl
tells_picked p r false = ap (λ (es : List Event). events_in es) (sym (changes-none 0 (pad_values p)))

pub raw_tells : (p : Pad) (c : Code) (raw : Raw) → TellsItself p (raw_event_of p c raw)
unfolding raw_event_of
raw_tells p c raw =
    tells_picked p (with_held p (held_after_event p c raw)) (leb (length (held_after_event p c raw)) held_max)

pub map_tells : (p : Pad) (m : Mapping) → TellsItself p (change_map_of p m)
unfolding change_map_of told_of
map_tells p m = refl

changes_few : (k : ℕ) (xs ys : List ℤ) → length (changes k xs ys) ≤ length xs
unfolding changes
changes_few k [] ys = omega arith
changes_few k (x ∷ xs) [] = omega arith
changes_few k (x ∷ xs) (y ∷ ys) = by (sameℤ x y) (changes_few (suc k) xs ys)
  where
    by : (t : Bool) → length (changes (suc k) xs ys) ≤ length xs
        → length (pick t (changes (suc k) xs ys) (one_event (element_at k) y ∷ changes (suc k) xs ys)) ≤ suc (length xs)
    by true h = omega arith
    by false h = omega arith

pub tells_few : (p : Pad) (t : Told) → TellsItself p t → t.events.count ≤ 27
unfolding events_in
tells_few p t h =
    let e : t.events.count ≡ length (changes 0 (pad_values p) (pad_values t.pad)) =
    ap (λ (w : Events). w.count) h in
    let l = changes_few 0 (pad_values p) (pad_values t.pad) in
    let n : length (pad_values p) ≡ 27 = tabulated (λ k. value_of (held_of p) (entries_of p) (element_at k)) 27 0 in
    omega (arith, e, l, n)

told_is : (p : Pad) (t : Told) → TellsItself p t → told_events t.events ≡ changes 0 (pad_values p) (pad_values t.pad)
told_is p t h =
    ap (λ (w : Events). told_events w) h ∙ told_back (changes 0 (pad_values p) (pad_values t.pad))

-- ---- told for both
joint_all : (w : Which) (p : Pads) (r : Pad)
    → refined w (pad_of w p) (pad_beside w p) (changes 0 (pad_values (pad_of w p)) (pad_values r))
    ≡ changes 0 (pads_values p) (pads_values (with_pad w p r))
joint_all Wh.First p r = first_events p.first r p.second
joint_all Wh.Second p r = second_events p.second r p.first

pub told_lem : (w : Which) (p : Pads) (t : Told) (e : Events) → TellsItself (pad_of w p) t
    → e ≡ events_in (refined w (pad_of w p) (pad_beside w p) (told_events t.events))
    → record { answer = t.answer; pads = with_pad w p t.pad; events = e } ≡ pads_told_of p w t
unfolding pads_told_of
told_lem w p t e h k =
    ap (λ (v : Events). record { answer = t.answer; pads = with_pad w p t.pad; events = v })
    (k
    ∙ ap (λ (es : List Event). events_in (refined w (pad_of w p) (pad_beside w p) es)) (told_is (pad_of w p) t h)
    ∙ ap (λ (es : List Event). events_in es) (joint_all w p t.pad))

-- a raw value that was put
pub put_lem : (w : Which) (p : Pads) (t : Told) (q : Pad) (change : Option Change) (e : Events)
    → TellsItself (pad_of w p) t
    → t ≡ record { answer = Ok tt; pad = q; events = events_in (caught (event_by change) []) }
    → Before (pad_of w p) change → e ≡ events_in (caught (joined_by w (pad_beside w p) change) [])
    → record { answer = Ok tt; pads = with_pad w p q; events = e } ≡ pads_told_of p w t
put_lem w p t q change e h k b ee =
    let own = pad_of w p in
    let beside = pad_beside w p in
    let one : told_events t.events ≡ caught (event_by change) [] =
    ap (λ (u : Told). told_events u.events) k ∙ told_back (caught (event_by change) []) in
    sym (ap (λ (u : Told). record { answer = u.answer; pads = with_pad w p u.pad; events = e }) k)
    ∙ told_lem w p t e h
    (ee ∙ ap (λ (l : List Event). events_in l) (joined_refined w own beside change b)
    ∙ ap (λ (l : List Event). events_in (refined w own beside l)) (sym one))

pub away_lem : (w : Which) (p : Pads) (t : Told) → TellsItself (pad_of w p) t → t ≡ refused_of (pad_of w p)
    → record { answer = Err too_many; pads = p; events = events_in [] } ≡ pads_told_of p w t
unfolding refused_of refined
away_lem w p t h k =
    let own = pad_of w p in
    let one : told_events t.events ≡ [] =
    ap (λ (u : Told). told_events u.events) k ∙ told_back [] in
    let back : (v : Which) → with_pad v p (pad_of v p) ≡ p =
    λ v. elim v as (λ (v : Which). with_pad v p (pad_of v p) ≡ p) [ Wh.First ↦ refl | Wh.Second ↦ refl ] in
    ap (λ (z : Pads). record { answer = Err too_many; pads = z; events = events_in [] }) (sym (back w))
    ∙ sym (ap (λ (u : Told). record { answer = u.answer; pads = with_pad w p u.pad; events = events_in [] }) k)
    ∙ told_lem w p t (events_in []) h
    (ap (λ (l : List Event). events_in (refined w own (pad_beside w p) l)) (sym one))

-- ---- the pads after a raw value was put into one of them
pub beside_after : (w : Which) (p : Pads) (q : Pad) (r : Pads) → r ≡ with_pad w p q → pad_beside w r ≡ pad_beside w p
beside_after Wh.First p q r e = ap (λ (x : Pads). x.second) e
beside_after Wh.Second p q r e = ap (λ (x : Pads). x.first) e

pub same_after : (w : Which) (p r : Pads) → r ≡ with_pad w p (pad_of w r) → pad_of w r ≡ pad_of w p → r ≡ p
same_after Wh.First p r e q = e ∙ ap (λ (x : Pad). with_pad Wh.First p x) q
same_after Wh.Second p r e q = e ∙ ap (λ (x : Pad). with_pad Wh.Second p x) q

-- ---- the calls, with the two pads as the program took them
module _ (w : Which) (p : Pads) (own beside : Pad) (o : own ≡ pad_of w p) (s : beside ≡ pad_beside w p) where
  pub raw_done : (c : Code) (raw : Raw) (q : Pad) (ps : Pads) (change : Option Change) (e : Events)
      → ps ≡ with_pad w p q
      → raw_event_of own c raw ≡ record { answer = Ok tt; pad = q; events = events_in (caught (event_by change) []) }
      → Before own change → e ≡ events_in (caught (joined_by w beside change) [])
      → record { answer = Ok tt; pads = ps; events = e } ≡ pads_told_of p w (raw_event_of (pad_of w p) c raw)
  raw_done c raw q ps change e t k b ee =
      rw t
      (put_lem w p (raw_event_of (pad_of w p) c raw) q change e (raw_tells (pad_of w p) c raw) (rw o at k) (rw o at b)
      (rw s at ee))

  pub raw_away : (c : Code) (raw : Raw) (x : TooManyCodes) (e : Events) → raw_event_of own c raw ≡ refused_of own
      → e ≡ events_in []
      → record { answer = Err x; pads = p; events = e } ≡ pads_told_of p w (raw_event_of (pad_of w p) c raw)
  raw_away c raw x e k ee =
      rw ee (away_lem w p (raw_event_of (pad_of w p) c raw) (raw_tells (pad_of w p) c raw) (rw o at k))

  pub map_done : (m : Mapping) (t : Told) (ps : Pads) (e : Events) → t ≡ change_map_of own m → ps ≡ with_pad w p t.pad
      → e ≡ events_in (refined w own beside (told_events t.events))
      → record { answer = t.answer; pads = ps; events = e } ≡ pads_told_of p w (change_map_of (pad_of w p) m)
  map_done m t ps e k q ee =
      let f : t ≡ change_map_of (pad_of w p) m = rw o at k in
      let h : TellsItself (pad_of w p) t = rw f (map_tells (pad_of w p) m) in
      rw (q, sym f) (told_lem w p t e h (rw (o, s) at ee))

pub map_few : (p : Pad) (m : Mapping) (t : Told) → t ≡ change_map_of p m → t.events.count ≤ 27
map_few p m t e = tells_few p t (rw e (map_tells p m))

-- ---- the loop over a pad's events
module _ (leads : Which) (p q : Pad) (es : List Event) (events : Events) (i : ℕ) (d : Event)
    (h : Refining leads p q es events i) (lt : i < length es) where
  next : refined leads p q (drop i es)
      ≡ caught (joined_event leads p q (get_or es i d)) (refined leads p q (drop (i + 1) es))
  unfolding refined
  next = rw (add-one i) (ap (λ (l : List Event). refined leads p q l) (drop-cons es i d lt))

  pub refining_passed : (w : Option Event) → w ≡ joined_event leads p q (get_or es i d) → w ≡ None
      → Refining leads p q es events (i + 1)
  refining_passed w e n =
      record {
        within = omega arith;
        out = h.out;
        are = h.are;
        few = omega (arith, h.few);
        told =
            ap (λ (l : List Event). h.out ++ l)
            (sym (next ∙ ap (λ (v : Option Event). caught v (refined leads p q (drop (i + 1) es))) (sym e ∙ n)))
            ∙ h.told;
      }

  pub refining_taken : (w : Option Event) (v : Event) → w ≡ joined_event leads p q (get_or es i d) → w ≡ Some v
      → length es ≤ 27 → (more : Events) → PushesEvent events v more → Refining leads p q es more (i + 1)
  refining_taken w v e n room more push =
      let rest : List Event = refined leads p q (drop (i + 1) es) in
      record {
        within = omega arith;
        out = h.out ++ v ∷ [];
        are = push h.out h.are (omega (arith, h.few));
        few = simp length-append (omega (arith, h.few));
        told =
            append_assoc h.out (v ∷ []) rest
            ∙ ap (λ (l : List Event). h.out ++ l)
            (sym (next ∙ ap (λ (u : Option Event). caught u rest) (sym e ∙ n)))
            ∙ h.told;
      }

pub refining_all : (leads : Which) (p q : Pad) (es : List Event) (events : Events) (i : ℕ)
    → Refining leads p q es events i → length es ≤ i → events ≡ events_in (refined leads p q es)
unfolding refined
refining_all leads p q es events i h l =
    h.are
    ∙ ap (λ (l : List Event). events_in l)
    (sym (append-nil h.out)
    ∙ ap (λ (l : List Event). h.out ++ refined leads p q l) (sym (drop_of_length-le es l))
    ∙ h.told)

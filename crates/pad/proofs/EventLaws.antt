-- The events of a raw value that was put: at most one, of the element of its code. Assumes nothing.
use Rattle.text.proofs.ListLaws.{lt_or_le}
use Rattle.std.specs.Prelude.{Option, Some, None}
use Prim.Native.Nat.{ℕ, ◌<◌, ◌≤◌}
use mathlib.Core.Path.{◌≡◌, refl, sym, ap, subst, ◌∙◌}
use mathlib.Core.Bool.{Bool, true, false}
use mathlib.Core.List.{List, [], ◌∷◌}
use mathlib.Core.Logic.{⊎_elim}
use native.Mathlib.Omega.{arith}
use borrow.Author.Tests.{lt-ltb, le-ltb}
use lib.IntN.{ℤ, pos}
use lib.ListN.{length}
use Rattle.text.specs.Bytes.{pick}
use Rattle.line.specs.declared.ev.Code.{Code}
use Rattle.line.specs.declared.ev.AxisOrBtn.{AxisOrBtn}
use Rattle.line.specs.declared.mapping.Entry.{Entry}
use Rattle.line.specs.Maps.{entry_at}
use Rattle.pad.specs.declared.events.Held.{Held}
use Rattle.pad.specs.declared.events.Event.{Event}
use Rattle.pad.specs.Pads.{put_held, choose, value_in, value_of, values_of, element_at, place_of, sameℤ}
use Rattle.pad.specs.Pads.{changes}
use Rattle.pad.specs.declared.state.Pad.{Pad}
use Rattle.pad.specs.States.{caught, held_of, entries_of, pad_values, pad_value}
use Rattle.pad.specs.Inner.{one_event, OnlyOf, Touched, event_by}
use Rattle.pad.proofs.PlaceLaws.{element_place, other_element, place_most}
use Rattle.pad.proofs.TouchLaws.{is_of, untouched, none-changed, one_changed}

-- ---- a code that was put changes its element alone, or none
put_only : (hs : List Held) (es : List Entry) (h : Held) (el : AxisOrBtn) (w : Option Entry) → entry_at es h.code ≡ w
    → is_of w el ≡ false → choose (put_held h hs) es el ≡ choose hs es el
put_only hs es h el w e q = untouched hs es h el (ap (λ (x : Option Entry). is_of x el) e ∙ q)

module _ (hs ks : List Held) (es : List Entry) (c : Code) (t : Touched hs ks c) where
  entry_is : (w : Option Entry) → w ≡ entry_at es c → entry_at es t.put.code ≡ w
  entry_is w e = ap (λ (x : Code). entry_at es x) t.of ∙ sym e

  pub only_of : (w : Option Entry) → w ≡ entry_at es c → (other : AxisOrBtn) → is_of w other ≡ false
      → choose ks es other ≡ choose hs es other
  only_of w e other q =
      ap (λ (l : List Held). choose l es other) t.is ∙ put_only hs es t.put other w (entry_is w e) q

-- ---- the events
-- the event of an element, if its value changed
abbrev pub change_of : AxisOrBtn → ℤ → ℤ → List Event
change_of el v w = pick (sameℤ v w) [] (one_event el w ∷ [])

module _ (hs ks : List Held) (es : List Entry) where
  abbrev older : ℕ → ℤ
  older k = value_of hs es (element_at k)

  abbrev newer : ℕ → ℤ
  newer k = value_of ks es (element_at k)

  -- no element changed
  pub no_change : ((other : AxisOrBtn) → choose ks es other ≡ choose hs es other)
      → changes 0 (values_of hs es) (values_of ks es) ≡ []
  no_change h = none-changed older newer 27 0 (λ j l m. ap value_in (sym (h (element_at j))))

  module _ (el : AxisOrBtn) (only : OnlyOf hs ks es el) where
    same_at : (j : ℕ) → (j ≡ place_of el → ⊥) → j < 27 → older j ≡ newer j
    same_at j d h = ap value_in (sym (only (element_at j) (other_element el j h d)))

    -- an element that is left out
    pub left_out : place_of el ≡ 27 → changes 0 (values_of hs es) (values_of ks es) ≡ []
    left_out e = none-changed older newer 27 0 (λ j l m. same_at j (λ q. omega (arith, e)) (omega arith))

    pub at_place : place_of el < 27
        → changes 0 (values_of hs es) (values_of ks es) ≡ change_of el (value_of hs es el) (value_of ks es el)
    at_place h =
        one_changed older newer 27 0 (place_of el) (λ j d m. same_at j d (omega arith)) (omega arith) (omega arith)
        ∙ ap (λ (x : AxisOrBtn). change_of x (value_of hs es x) (value_of ks es x)) (element_place el h)

-- ---- at most one
one_or_none : (t : Bool) (e : Event) → length (pick t [] (e ∷ [])) ≤ 1
one_or_none true e = omega arith
one_or_none false e = omega arith

none_at_all : (l : List Event) → l ≡ [] → length l ≤ 1
none_at_all l e = subst (λ (x : List Event). length x ≤ 1) (sym e) (omega arith)

module _ (hs ks : List Held) (es : List Entry) (c : Code) (t : Touched hs ks c) where
  abbrev events : List Event
  events = changes 0 (values_of hs es) (values_of ks es)

  of_element : (el : AxisOrBtn) → OnlyOf hs ks es el → length events ≤ 1
  of_element el only =
      ⊎_elim
      (λ l. subst (λ (x : List Event). length x ≤ 1) (sym (at_place hs ks es el only l))
      (one_or_none (sameℤ (value_of hs es el) (value_of ks es el)) (one_event el (value_of ks es el))))
      (λ l. none_at_all events (left_out hs ks es el only (omega (arith, place_most el))))
      (lt_or_le (place_of el) 27)

  pub few_changes : length events ≤ 1
  few_changes = by (entry_at es c) refl
    where
      by : (w : Option Entry) → w ≡ entry_at es c → length events ≤ 1
      by (Some e) q = of_element e.element (λ other r. only_of hs ks es c t (Some e) q other r)
      by None q =
          none_at_all events (no_change hs ks es (λ other. only_of hs ks es c t None q other refl))

-- ---- the change of a pad, told by the element's values before and after
caught-pick : (t : Bool) (e : Event) → pick t [] (e ∷ []) ≡ caught (pick t None (Some e)) []
caught-pick true e = refl
caught-pick false e = refl

pub value_away : (p : Pad) (el : AxisOrBtn) → place_of el ≡ 27 → pad_value p el ≡ pos 0
unfolding pad_value
value_away p el e = let l : 27 ≤ place_of el = omega (arith, e) in rw (le-ltb (place_of el) 27 l)

pub value_there : (p : Pad) (el : AxisOrBtn) → place_of el < 27 → value_of (held_of p) (entries_of p) el ≡ pad_value p el
unfolding pad_value
value_there p el l = rw (lt-ltb (place_of el) 27 l)

module _ (p q : Pad) (c : Code) (t : Touched (held_of p) (held_of q) c) (same : entries_of q ≡ entries_of p) where
  abbrev told : List Event
  told = changes 0 (pad_values p) (pad_values q)

  told_is : told ≡ changes 0 (values_of (held_of p) (entries_of p)) (values_of (held_of q) (entries_of p))
  told_is = rw same

  value_q : (el : AxisOrBtn) → place_of el < 27 → value_of (held_of q) (entries_of p) el ≡ pad_value q el
  value_q el l = rw (sym same) (value_there q el l)

  pub none_told : None ≡ entry_at (entries_of p) c → told ≡ []
  none_told w =
      told_is
      ∙ no_change (held_of p) (held_of q) (entries_of p)
      (λ other. only_of (held_of p) (held_of q) (entries_of p) c t None w other refl)

  pub some_told : (e : Entry) → Some e ≡ entry_at (entries_of p) c → (b l : ℤ) → b ≡ pad_value p e.element
      → l ≡ pad_value q e.element
      → told ≡ caught (event_by (Some (record { element = e.element; before = b; later = l }))) []
  some_told e w b l eb el =
      let el' = e.element in
      let only : OnlyOf (held_of p) (held_of q) (entries_of p) el' =
      λ other r. only_of (held_of p) (held_of q) (entries_of p) c t (Some e) w other r in
      ⊎_elim
      (λ h.
      told_is ∙ at_place (held_of p) (held_of q) (entries_of p) el' only h
      ∙ rw (value_there p el' h ∙ sym eb, value_q el' h ∙ sym el)
      (caught-pick (sameℤ b l) (one_event el' l)))
      (λ h.
      let at : place_of el' ≡ 27 = omega (arith, place_most el') in
      let z : sameℤ b l ≡ true = rw (eb, el, value_away p el' at, value_away q el' at) in
      told_is ∙ left_out (held_of p) (held_of q) (entries_of p) el' only at ∙ rw z)
      (lt_or_le (place_of el') 27)

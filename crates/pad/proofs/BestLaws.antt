-- The code and the value of each element, one held code after the other. Assumes nothing.
use Rattle.std.specs.Prelude.{Option, Some, None}
use Rattle.std.specs.Borrow.{Bor}
use Prim.Native.Nat.{ℕ}
use mathlib.Core.Path.{◌≡◌, refl, sym, ap, ◌∙◌}
use mathlib.Core.Bool.{Bool, true, false}
use mathlib.Core.List.{List, [], ◌∷◌, ◌++◌, map}
use lib.IntN.{ℤ}
use lib.ListN.{replicate}
use Rattle.std.proofs.lemmas.List.{get_or-replicate}
use Rattle.text.specs.Bytes.{pick}
use Rattle.line.specs.declared.ev.AxisOrBtn.{AxisOrBtn}
use Rattle.line.specs.declared.mapping.Entry.{Entry}
use Rattle.line.specs.Elements.{same_element}
use Rattle.line.specs.Maps.{entry_at}
use Rattle.pad.specs.declared.choice.Best.{Best}
use Rattle.pad.specs.declared.events.Raw.{Raw}
use Rattle.pad.specs.declared.events.Held.{Held}
use Rattle.pad.specs.declared.events.Event.{Event}
use Rattle.pad.specs.Values.{entry_value, emitted_of, emitted_in, event_of}
use Rattle.pad.specs.Pads.{given_by, Chosen, preferred, prefer, choose, element_at}
use Rattle.pad.specs.States.{held_in}
use Rattle.pad.specs.Inner.{chosen_by, AllChosen, event_counted, CountsIn}
use Rattle.pad.proofs.BackLaws.{met, met-more}

-- ---- the event of a held code, and what it gives to an element
abbrev given_in : Option Event → AxisOrBtn → Option ℤ
given_in (Some e) el = pick (same_element e.element el) (Some e.value) None
given_in None el = None

none-both : {A : Type 0} (t : Bool) → ◌≡◌ {A = Option A} (pick t None None) None
none-both true = refl
none-both false = refl

given-emitted : (y : Option Entry) (raw : Raw) (el : AxisOrBtn) → given_by y raw el ≡ given_in (emitted_in y raw) el
given-emitted None raw el = refl
given-emitted (Some e) raw el = by (entry_value e raw)
  where
    by : (v : Option ℤ) → pick (same_element e.element el) v None ≡ given_in (emitted_of e.element v) el
    by (Some v) = refl
    by None = none-both (same_element e.element el)

-- ---- one held code more
module _ (es : List Entry) (hs : List Held) (h : Held) (el : AxisOrBtn) (r : Chosen) (rest : r ≡ choose hs es el) where
  counts : (o : Option Event) → o ≡ event_of es h.code h.raw
      → choose (h ∷ hs) es el ≡ prefer h.code.0 (given_in o el) r
  unfolding choose event_of
  counts o e = rw (given-emitted (entry_at es h.code) h.raw el, sym e, sym rest)

  counts_event : (e : Event) → Some e ≡ event_of es h.code h.raw
      → choose (h ∷ hs) es el ≡ event_counted h.code.0 e el r
  counts_event e q = counts (Some e) q ∙ by (same_element e.element el)
    where
      by : (t : Bool) → prefer h.code.0 (pick t (Some e.value) None) r ≡ pick t (preferred h.code.0 e.value r) r
      by true = refl
      by false = refl

-- ---- of all elements, after those that are met
module _ (seen : List (Bor ℕ)) (x : Bor ℕ) (es : List Entry) (h : Held) (is : h ≡ held_in x.now)
    (bests : List (Option Best)) (all : AllChosen (map held_in (met seen)) es bests) where
  next : (el : AxisOrBtn)
      → choose (map held_in (met (seen ++ x ∷ []))) es el ≡ choose (h ∷ map held_in (met seen)) es el
  next el = rw (met-more seen x, is)

  pub all_more : (e : Event) (more : List (Option Best)) → Some e ≡ event_of es h.code h.raw
      → CountsIn h.code.0 e bests more → AllChosen (map held_in (met (seen ++ x ∷ []))) es more
  all_more e more q c j lt =
      c j lt ∙ sym (next (element_at j) ∙ counts_event es (map held_in (met seen)) h (element_at j) _ (all j lt) e q)

  pub all_passed : None ≡ event_of es h.code h.raw → AllChosen (map held_in (met (seen ++ x ∷ []))) es bests
  all_passed q j lt =
      sym (next (element_at j) ∙ counts es (map held_in (met seen)) h (element_at j) _ (all j lt) None q)

pub none_chosen : (es : List Entry) → AllChosen [] es (replicate 27 None)
unfolding choose
none_chosen es k l = ap chosen_by (get_or-replicate 27 k None None l)

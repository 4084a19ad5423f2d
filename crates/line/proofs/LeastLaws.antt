-- The reverse look-up gives the least code of an element: entry by entry, the lesser of the first one's and the rest's.
-- Assumes nothing.
use Rattle.std.specs.Prelude.{Option, Some, None}
use Prim.Native.Nat.{ℕ, ◌≤◌, ◌<◌}
use mathlib.Core.Path.{◌≡◌, refl, sym, ◌∙◌}
use mathlib.Core.Bool.{Bool, true, false}
use mathlib.Core.List.{List, [], ◌∷◌}
use native.Mathlib.Omega.{arith}
use borrow.Author.Tests.{ltb-true, ltb-false}
use lib.Dec.{ltb}
use lib.ListN.{length}
use Rattle.text.specs.Bytes.{pick}
use Rattle.text.proofs.ListLaws.{off}
use Rattle.line.specs.declared.ev.Code.{Code}
use Rattle.line.specs.declared.ev.AxisOrBtn.{AxisOrBtn}
use Rattle.line.specs.declared.mapping.Entry.{Entry}
use Rattle.line.specs.Elements.{same_element}
use Rattle.line.specs.Maps.{map_rev_of, lesser}
use Rattle.line.specs.Regrouping.{In, here, there}
use Rattle.line.specs.Least.{Leads, Least, LeastOrNone}

some : {e : Entry} {xs : List Entry} → In e xs → 0 < length xs
some here = omega arith
some (there i) = omega arith

module _ (el : AxisOrBtn) where
  abbrev Of : Entry → Type 0
  Of e = same_element e.element el ≡ true

  -- what holds of the first entry and of the rest holds of all
  first_or_later : {x : Entry} {xs : List Entry} (n : ℕ) → (Of x → n ≤ x.code.0)
      → ((e : Entry) → Leads xs el e → n ≤ e.code.0) → (e : Entry) → In e (x ∷ xs) → Of e → n ≤ e.code.0
  first_or_later n f h e here y = f y
  first_or_later n f h e (there i) y = h e (i, y)

  neither : {x : Entry} {xs : List Entry} → (Of x → ⊥) → ((e : Entry) → Leads xs el e → ⊥) → (e : Entry)
      → In e (x ∷ xs) → Of e → ⊥
  neither f h e here y = f y
  neither f h e (there i) y = h e (i, y)

  module _ (x : Entry) (xs : List Entry) where
    -- the first entry is of another element
    passed_over : (r : Option Code) → same_element x.element el ≡ false → LeastOrNone xs el r
        → LeastOrNone (x ∷ xs) el r
    passed_over None n h = λ e l. neither (λ y. off (sym n ∙ y)) h e l.0 l.1
    passed_over (Some c) n h =
        record {
          entry = h.entry;
          leads = (there h.leads.0, h.leads.1);
          code = h.code;
          least = λ e l. first_or_later c.0 (λ y. absurd (off (sym n ∙ y))) h.least e l.0 l.1;
        }

    -- it is of that element, and the only one so far
    alone : Of x → LeastOrNone xs el None → Least (x ∷ xs) el x.code
    alone y h =
        record {
          entry = x;
          leads = (here, y);
          code = refl;
          least = λ e l. first_or_later x.code.0 (λ z. omega arith) (λ f k. absurd (h f k)) e l.0 l.1;
        }

    -- it is of that element, as one of code d is
    module _ (d : Code) (y : Of x) (h : Least xs el d) where
      later_less : d.0 < x.code.0 → Least (x ∷ xs) el d
      later_less k =
          record {
            entry = h.entry;
            leads = (there h.leads.0, h.leads.1);
            code = h.code;
            least = λ e l. first_or_later d.0 (λ z. omega (arith, k)) h.least e l.0 l.1;
          }

      at_least : x.code.0 ≤ d.0 → (e : Entry) → Leads xs el e → x.code.0 ≤ e.code.0
      at_least k e l = omega (arith, k, h.least e l)

      first_less : x.code.0 ≤ d.0 → Least (x ∷ xs) el x.code
      first_less k =
          record {
            entry = x;
            leads = (here, y);
            code = refl;
            least = λ e l. first_or_later x.code.0 (λ z. omega arith) (at_least k) e l.0 l.1;
          }

      lesser_of : LeastOrNone (x ∷ xs) el (lesser x.code (Some d))
      lesser_of = by (ltb d.0 x.code.0) refl
        where
          by : (t : Bool) → ltb d.0 x.code.0 ≡ t → LeastOrNone (x ∷ xs) el (pick t (Some d) (Some x.code))
          by true e = later_less (ltb-true d.0 x.code.0 e)
          by false e = first_less (ltb-false d.0 x.code.0 e)

    with_first : (r : Option Code) → Of x → LeastOrNone xs el r → LeastOrNone (x ∷ xs) el (lesser x.code r)
    with_first None y h = alone y h
    with_first (Some d) y h = lesser_of d y h

pub least_code : (xs : List Entry) (el : AxisOrBtn) → LeastOrNone xs el (map_rev_of xs el)
unfolding map_rev_of
least_code [] el = λ e l. absurd (omega (arith, some l.0))
least_code (x ∷ xs) el = by (same_element x.element el) refl (least_code xs el)
  where
    by : (t : Bool) → same_element x.element el ≡ t → LeastOrNone xs el (map_rev_of xs el)
        → LeastOrNone (x ∷ xs) el (pick t (lesser x.code (map_rev_of xs el)) (map_rev_of xs el))
    by true y h = with_first el x xs (map_rev_of xs el) y h
    by false y h = passed_over el x xs (map_rev_of xs el) y h

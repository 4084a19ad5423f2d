-- Lists that the program writes one place after the other: the values, the events, the numbers of entries. Assumes
-- nothing.
use Prim.Native.Nat.{ℕ, zero, suc, ◌+◌, ◌-◌, ◌<◌}
use mathlib.Core.Path.{◌≡◌, refl, sym, ap, ◌∙◌}
use mathlib.Core.Bool.{Bool, true, false}
use mathlib.Core.List.{List, [], ◌∷◌, ◌++◌, map, append_assoc, append-nil}
use native.Mathlib.Omega.{arith}
use native.Mathlib.Numerals.{add-one}
use lib.ListN.{length, take, drop, get_or, set, replicate, length-map, length-append, get_or-map}
use lib.ListN.{length-replicate}
use mathlib.Core.Logic.{◌⊎◌, inl, inr}
use lib.IntN.{ℤ, pos}
use Rattle.line.specs.declared.mapping.Entry.{Entry}
use Rattle.line.specs.Numbers.{entry_number}
use Rattle.line.proofs.PlaceLaws.{copied_more}
use Rattle.pad.specs.declared.events.Event.{Event}
use Rattle.pad.specs.declared.events.Events.{Events}
use Rattle.pad.specs.Pads.{element_at, sameℤ, changes, tabulate}
use Rattle.pad.specs.States.{unused_event, events_in, entry_numbers}
use Rattle.pad.specs.Inner.{one_event, PushesEvent, Listed}
use Rattle.pad.proofs.ReaderLaws.{same_value}
use Rattle.pad.proofs.TouchLaws.{same_refl}

-- ---- the values
pub all_tabulated : (f : ℕ → ℤ) (n k : ℕ) (out : List ℤ) → length out ≡ n
    → ((i : ℕ) → i < n → get_or out i (pos 0) ≡ f (k + i)) → out ≡ tabulate f n k
unfolding tabulate
all_tabulated f zero k [] e h = refl
all_tabulated f zero k (x ∷ xs) e h = absurd (omega arith)
all_tabulated f (suc n) k [] e h = absurd (omega arith)
all_tabulated f (suc n) k (x ∷ xs) e h =
    let first : x ≡ f k = h 0 (omega arith) ∙ ap f (omega arith) in
    let rest : xs ≡ tabulate f n (suc k) =
    all_tabulated f n (suc k) xs (omega arith) (λ i l. h (suc i) (omega arith) ∙ ap f (omega arith)) in
    ap (λ (v : ℤ). v ∷ xs) first ∙ ap (λ (l : List ℤ). f k ∷ l) rest

-- ---- events, one after the other
pub events_many : (es : List Event) (e : Events) → e ≡ events_in es → e.count ≡ length es
unfolding events_in
events_many es e h = ap (λ (y : Events). y.count) h

-- an event in the place of the first unused one
set_next : (es : List Event) (v : Event) (n : ℕ)
    → set (es ++ replicate (suc n) unused_event) (length es) v ≡ (es ++ v ∷ []) ++ replicate n unused_event
set_next [] v n = refl
set_next (e ∷ es) v n = ap (λ (l : List Event). e ∷ l) (set_next es v n)

pub event_pushed : (es : List Event) (v : Event) (old : Events) → old ≡ events_in es → length es < 27
    → record { count = old.count + 1; list = set old.list old.count v } ≡ events_in (es ++ v ∷ [])
unfolding events_in
event_pushed es v old h few =
    let n : length (es ++ v ∷ []) ≡ length es + 1 = length-append es (v ∷ []) in
    let m : 27 - length es ≡ suc (27 - (length es + 1)) = omega arith in
    rw (h, n, m, set_next es v (27 - (length es + 1)))

-- ---- the events between values
module _ (bs cs xs ys : List ℤ) (x y : ℤ) (k : ℕ) where
  abbrev rest : List Event
  rest = changes (k + 1) xs ys

  -- the same value
  changes_same : x ≡ y → changes k (x ∷ xs) (y ∷ ys) ≡ rest
  unfolding changes
  changes_same e =
      let s : sameℤ x y ≡ true = ap (λ (z : ℤ). sameℤ z y) e ∙ same_refl y in
      rw (s, add-one)

  -- another value
  changes_other : (x ≡ y → ⊥) → changes k (x ∷ xs) (y ∷ ys) ≡ one_event (element_at k) y ∷ rest
  unfolding changes
  changes_other d = by (sameℤ x y) refl
    where
      by : (t : Bool) → sameℤ x y ≡ t → changes k (x ∷ xs) (y ∷ ys) ≡ one_event (element_at k) y ∷ rest
      by true e = absurd (d (same_value x y e))
      by false e = rw (e, add-one)

  pub listed_same : (events : Events) → Listed bs cs (x ∷ xs) (y ∷ ys) events k → x ≡ y
      → Listed bs cs xs ys events (k + 1)
  listed_same events h e =
      record {
        es = h.es;
        are = h.are;
        few = omega (arith, h.few);
        all = omega (arith, h.all);
        told = ap (λ (l : List Event). h.es ++ l) (sym (changes_same e)) ∙ h.told;
      }

  pub listed_other : (events more : Events) (v : Event) (h : Listed bs cs (x ∷ xs) (y ∷ ys) events k) → (x ≡ y → ⊥)
      → v ≡ one_event (element_at k) y → PushesEvent events v more → Listed bs cs xs ys more (k + 1)
  listed_other events more v h n ev p =
      record {
        es = h.es ++ v ∷ [];
        are = p h.es h.are (omega (arith, h.few, h.all));
        few = simp length-append (omega (arith, h.few));
        all = omega (arith, h.all);
        told =
            append_assoc h.es (v ∷ []) rest
            ∙ ap (λ (w : Event). h.es ++ w ∷ rest) ev
            ∙ ap (λ (l : List Event). h.es ++ l) (sym (changes_other n)) ∙ h.told;
      }

nothing_left : (xs ys : List ℤ) (k : ℕ) → (length xs ≡ 0) ⊎ (length ys ≡ 0) → changes k xs ys ≡ []
unfolding changes
nothing_left [] ys k h = refl
nothing_left (x ∷ xs) [] k h = refl
nothing_left (x ∷ xs) (y ∷ ys) k (inl e) = absurd (omega arith)
nothing_left (x ∷ xs) (y ∷ ys) k (inr e) = absurd (omega arith)

pub all_listed : (bs cs xs ys : List ℤ) (events : Events) (k : ℕ) → (length xs ≡ 0) ⊎ (length ys ≡ 0)
    → Listed bs cs xs ys events k → events ≡ events_in (changes 0 bs cs)
all_listed bs cs xs ys events k e h =
    let all : h.es ≡ changes 0 bs cs =
    sym (append-nil h.es) ∙ ap (λ (l : List Event). h.es ++ l) (sym (nothing_left xs ys k e)) ∙ h.told in
    h.are ∙ ap (λ (l : List Event). events_in l) all

-- ---- the numbers of entries
abbrev zeros : ℕ → List ℕ
zeros n = replicate n 0

drop-zeros : (n k : ℕ) → drop k (zeros n) ≡ zeros (n - k)
drop-zeros zero zero = refl
drop-zeros zero (suc k) = let e : 0 ≡ 0 - suc k = omega arith in ap (λ (j : ℕ). zeros j) e
drop-zeros (suc n) zero = let e : suc n ≡ suc n - 0 = omega arith in ap (λ (j : ℕ). zeros j) e
drop-zeros (suc n) (suc k) =
    let e : n - k ≡ suc n - suc k = omega arith in
    drop-zeros n k ∙ ap (λ (j : ℕ). zeros j) e

pub numbers_more : (es : List Entry) (i x : ℕ) (d : Entry) → i < 256 → length es ≡ 256 → x ≡ entry_number (get_or es i d)
    → set (take i (map entry_number es) ++ drop i (zeros 256)) i x
    ≡ take (i + 1) (map entry_number es) ++ drop (i + 1) (zeros 256)
numbers_more es i x d h l e =
    let q : x ≡ get_or (map entry_number es) i (entry_number d) = e ∙ sym (get_or-map entry_number es i d) in
    ap (λ (y : ℕ). set (take i (map entry_number es) ++ drop i (zeros 256)) i y) q
    ∙ copied_more (zeros 256) (map entry_number es) i (entry_number d) (omega (arith, length-replicate {A = ℕ} 256 0))
    (omega (arith, l, length-map es entry_number))

pub numbers_done : (es : List Entry) (n i : ℕ) (out : List ℕ) → i ≡ n → length (take n es) ≡ n
    → out ≡ take i (map entry_number es) ++ drop i (zeros 256) → out ≡ entry_numbers (take n es)
unfolding entry_numbers
numbers_done es n i out e l h =
    h ∙ ap (λ (j : ℕ). take j (map entry_number es) ++ drop j (zeros 256)) e
    ∙ ap (λ (xs : List ℕ). xs ++ drop n (zeros 256)) (sym (map_first n es))
    ∙ ap (λ (xs : List ℕ). map entry_number (take n es) ++ xs)
    (drop-zeros 256 n ∙ ap (λ (j : ℕ). zeros (256 - j)) (sym l))
  where
    map_first : (n : ℕ) (es : List Entry) → map entry_number (take n es) ≡ take n (map entry_number es)
    map_first zero es = refl
    map_first (suc n) [] = refl
    map_first (suc n) (e ∷ es) = ap (λ (l : List ℕ). entry_number e ∷ l) (map_first n es)

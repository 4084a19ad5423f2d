-- The place of an element among the 27, and of a number among the held ones. Assumes nothing.
use Rattle.text.proofs.ListLaws.{lt_or_le}
use Rattle.std.specs.Prelude.{Option, Some, None}
use Rattle.std.specs.Option.{is_some}
use Prim.Native.Nat.{ℕ, zero, suc, ◌+◌, ◌-◌, ◌/◌, ◌<◌, ◌≤◌}
use mathlib.Core.Path.{◌≡◌, refl, sym, ap, ◌∙◌}
use mathlib.Core.Logic.{⊎_elim}
use mathlib.Core.Bool.{Bool, true, false}
use mathlib.Core.List.{List, [], ◌∷◌, ◌++◌, map}
use native.Mathlib.Omega.{arith}
use borrow.Author.Tests.{eqb-true, ltb-true, ltb-false, lt-ltb, le-ltb, le-leb, leb-true}
use lib.Dec.{eqb, ltb, leb}
use lib.ListN.{length, take, drop, set, length-append, length-drop, take-append-drop}
use lib.Seq.{length-take-le}
use Rattle.line.specs.declared.ev.AxisOrBtn.{AxisOrBtn}
use Rattle.line.specs.declared.ev.AxisOrBtn.TheVariants as El
use Rattle.line.specs.Elements.{same_element}
use Rattle.pad.specs.declared.events.Held.{Held}
use Rattle.pad.specs.Pads.{put_held, element_at, counts, place_from, place_of}
use Rattle.line.specs.Numbers.{code_unit}
use Rattle.pad.specs.States.{held_in, put_number}
use Rattle.pad.specs.Inner.{place_in, IsPlace}

-- ---- elements
counts-yes : (last n : ℕ) → 1 ≤ n → n ≤ last → counts last n ≡ true
counts-yes last n a b = rw (le-leb 1 n a, le-leb n last b)

pub place_element : (k : ℕ) → k < 27 → place_of (element_at k) ≡ k
place_element k h = by (ltb k 19) refl
  where
    by : (t : Bool) → ltb k 19 ≡ t → place_of (element_at k) ≡ k
    by true e =
        let l = ltb-true k 19 e in
        let c = counts-yes 19 (k + 1) (omega arith) (omega arith) in
        let q : 0 + (k + 1 - 1) ≡ k = omega arith in
        rw (e, c) q
    by false e =
        let l = ltb-false k 19 e in
        let c = counts-yes 8 (k - 19 + 1) (omega arith) (omega arith) in
        let q : 19 + (k - 19 + 1 - 1) ≡ k = omega arith in
        rw (e, c) q

-- an element that has a place stands there
button_at : (b k : ℕ) → k + 1 ≡ b → k < 19 → element_at k ≡ El.Btn (record { 0 = b })
button_at b k e l = rw (lt-ltb k 19 l, e)

axis_at : (a k : ℕ) → 19 ≤ k → k - 19 + 1 ≡ a → element_at k ≡ El.Axis (record { 0 = a })
axis_at a k l e = rw (le-ltb k 19 l, e)

from_counted : (first last n : ℕ) → place_from first last n < 27
    → (1 ≤ n) × (n ≤ last) × (place_from first last n ≡ first + (n - 1))
from_counted first last n h = by (leb 1 n) (leb n last) refl refl
  where
    by : (s t : Bool) → leb 1 n ≡ s → leb n last ≡ t
        → (1 ≤ n) × (n ≤ last) × (place_from first last n ≡ first + (n - 1))
    by true true p q = (leb-true 1 n p, leb-true n last q, rw (p, q))
    by true false p q = let z : 27 < 27 = rw (p, q) at h in absurd (omega arith)
    by false t p q = let z : 27 < 27 = rw p at h in absurd (omega arith)

pub element_place : (el : AxisOrBtn) → place_of el < 27 → element_at (place_of el) ≡ el
element_place (El.Btn b) h =
    let w = from_counted 0 19 b.0 h in
    rw w.2 (button_at b.0 (0 + (b.0 - 1)) (omega (arith, w.0)) (omega (arith, w.0, w.1)))
element_place (El.Axis a) h =
    let w = from_counted 19 8 a.0 h in
    rw w.2 (axis_at a.0 (19 + (a.0 - 1)) (omega arith) (omega (arith, w.0)))

from_most : (first last n : ℕ) → first + last ≤ 27 → place_from first last n ≤ 27
from_most first last n h = by (leb 1 n) (leb n last) refl refl
  where
    by : (s t : Bool) → leb 1 n ≡ s → leb n last ≡ t → place_from first last n ≤ 27
    by true true p q =
        let l = leb-true 1 n p in
        let m = leb-true n last q in
        rw (p, q) (omega arith)
    by true false p q = rw (p, q) (omega arith)
    by false t p q = rw p (omega arith)

pub place_most : (el : AxisOrBtn) → place_of el ≤ 27
place_most (El.Btn b) = from_most 0 19 b.0 (omega arith)
place_most (El.Axis a) = from_most 19 8 a.0 (omega arith)

pub has_place_lem : (el : AxisOrBtn) (k : ℕ) → k ≡ place_of el → (k ≡ 27 → ⊥) → place_of el < 27
has_place_lem el k e d =
    ⊎_elim (λ l. l) (λ l. absurd (d (omega (arith, e, place_most el)))) (lt_or_le (place_of el) 27)

-- whether an element has a place
pub no_place : (k : ℕ) (o : Option ℕ) → IsPlace k o → is_some o ≡ false → k ≡ 27
no_place k None p e = p
no_place k (Some j) p e = absurd cc

pub has_place : (k : ℕ) (o : Option ℕ) → IsPlace k o → is_some o ≡ true → k < 27
has_place k None p e = absurd cc
has_place k (Some j) p e = omega (arith, p.0, p.1)

-- the same element is the same
pub same_is : (a b : AxisOrBtn) → same_element a b ≡ true → a ≡ b
same_is (El.Axis a) (El.Axis b) e = ap (λ (n : ℕ). El.Axis (record { 0 = n })) (eqb-true a.0 b.0 e)
same_is (El.Axis a) (El.Btn b) e = let z : ◌≡◌ {A = ℕ} 0 1 = cc in absurd (omega arith)
same_is (El.Btn a) (El.Axis b) e = let z : ◌≡◌ {A = ℕ} 0 1 = cc in absurd (omega arith)
same_is (El.Btn a) (El.Btn b) e = ap (λ (n : ℕ). El.Btn (record { 0 = n })) (eqb-true a.0 b.0 e)

pub other_element : (el : AxisOrBtn) (j : ℕ) → j < 27 → (j ≡ place_of el → ⊥) → same_element el (element_at j) ≡ false
other_element el j h d = by (same_element el (element_at j)) refl
  where
    by : (t : Bool) → same_element el (element_at j) ≡ t → same_element el (element_at j) ≡ false
    by true e =
        absurd (d (sym (ap (λ (x : AxisOrBtn). place_of x) (same_is el (element_at j) e) ∙ place_element j h)))
    by false e = e

-- ---- numbers
pub placed : (x : ℕ) (ys : List ℕ) → put_number x ys
    ≡ take (place_in (x / code_unit) ys) ys ++ x ∷ drop (suc (place_in (x / code_unit) ys)) ys
unfolding put_number place_in
placed x [] = refl
placed x (y ∷ ys) = by (eqb (y / code_unit) (x / code_unit)) refl (placed x ys)
  where
    by : (t : Bool) → eqb (y / code_unit) (x / code_unit) ≡ t
        → put_number x ys ≡ take (place_in (x / code_unit) ys) ys ++ x ∷ drop (suc (place_in (x / code_unit) ys)) ys
        → put_number x (y ∷ ys)
        ≡ take (place_in (x / code_unit) (y ∷ ys)) (y ∷ ys) ++ x ∷ drop (suc (place_in (x / code_unit) (y ∷ ys))) (y ∷ ys)
    by true e ih = rw e
    by false e ih = rw e (ap (λ (l : List ℕ). y ∷ l) ih)

pub place_within : (c : ℕ) (ys : List ℕ) → place_in c ys ≤ length ys
unfolding place_in
place_within c [] = omega arith
place_within c (y ∷ ys) = by (eqb (y / code_unit) c) refl (place_within c ys)
  where
    by : (t : Bool) → eqb (y / code_unit) c ≡ t → place_in c ys ≤ length ys → place_in c (y ∷ ys) ≤ suc (length ys)
    by true e ih = rw e (omega arith)
    by false e ih = rw e (omega arith)

-- a number put in its place, the later ones as they were
pub stored : (xs : List ℕ) (n i x : ℕ) → n ≤ length xs → i ≤ n → i < length xs
    → (take i (take n xs) ++ x ∷ drop (suc i) (take n xs))
    ++ drop (length (take i (take n xs) ++ x ∷ drop (suc i) (take n xs))) xs ≡ set xs i x
stored [] n i x h l k = absurd (omega arith)
stored (y ∷ xs) zero zero x h l k = refl
stored (y ∷ xs) zero (suc i) x h l k = absurd (omega arith)
stored (y ∷ xs) (suc n) zero x h l k =
    let e : length (take n xs) ≡ n = length-take-le n xs (omega arith) in
    ap (λ (r : List ℕ). x ∷ r) (rw e (take-append-drop n xs))
stored (y ∷ xs) (suc n) (suc i) x h l k =
    ap (λ (r : List ℕ). y ∷ r) (stored xs n i x (omega arith) (omega arith) (omega arith))

-- how many there are then
pub put_onto : (xs : List ℕ) (n i x : ℕ) → n ≤ length xs → i < n
    → length (take i (take n xs) ++ x ∷ drop (suc i) (take n xs)) ≡ n
put_onto xs n i x h l =
    let e : length (take n xs) ≡ n = length-take-le n xs h in
    let f : length (take i (take n xs)) ≡ i = length-take-le i (take n xs) (omega arith) in
    simp (length-append, length-drop) (omega arith)

pub put_after : (xs : List ℕ) (n x : ℕ) → n ≤ length xs
    → length (take n (take n xs) ++ x ∷ drop (suc n) (take n xs)) ≡ n + 1
put_after xs n x h =
    let e : length (take n xs) ≡ n = length-take-le n xs h in
    let f : length (take n (take n xs)) ≡ n = length-take-le n (take n xs) (omega arith) in
    simp (length-append, length-drop) (omega arith)

-- the held codes of the numbers
pub held_put : (x : ℕ) (ys : List ℕ) → map held_in (put_number x ys) ≡ put_held (held_in x) (map held_in ys)
unfolding put_number put_held held_in
held_put x [] = refl
held_put x (y ∷ ys) = by (eqb (y / code_unit) (x / code_unit)) refl (held_put x ys)
  where
    by : (t : Bool) → eqb (y / code_unit) (x / code_unit) ≡ t
        → map held_in (put_number x ys) ≡ put_held (held_in x) (map held_in ys)
        → map held_in (put_number x (y ∷ ys)) ≡ put_held (held_in x) (map held_in (y ∷ ys))
    by true e ih = rw e
    by false e ih = rw e (ap (λ (l : List Held). held_in y ∷ l) ih)

-- Puts in another order, and puts of one code. No order of the entries is assumed. Assumes nothing.
use Rattle.std.specs.Prelude.{Option, Some}
use Prim.Native.Nat.{ℕ, ◌<◌}
use mathlib.Core.Path.{◌≡◌, refl, sym, subst, ◌∙◌}
use mathlib.Core.Logic.{◌⊎◌, inl, inr, ⊎_elim}
use mathlib.Core.Bool.{Bool, true, false}
use mathlib.Core.List.{List, [], ◌∷◌}
use native.Mathlib.Omega.{arith}
use native.Mathlib.Nat.{eq-or-lt_of_le}
use lib.Dec.{ltb, eqb}
use borrow.Author.Tests.{ltb-true, ltb-false, eqb-true, eqb-false, lt-ltb, le-ltb, eq-eqb, ne_eqb}
use Rattle.line.specs.declared.ev.AxisOrBtn.{AxisOrBtn}
use Rattle.line.specs.declared.mapping.Entry.{Entry}
use Rattle.line.specs.declared.ev.Code.{Code}
use Rattle.text.specs.Bytes.{pick}
use Rattle.line.specs.Maps.{put_entry, map_of, Below, Ascending}

-- ---- the three cases of a put before an entry
module _ (e x : Entry) (xs : List Entry) where
  pub put_less : e.code.0 < x.code.0 → put_entry e (x ∷ xs) ≡ e ∷ x ∷ xs
  unfolding put_entry
  put_less h = rw (lt-ltb _ _ h)

  pub put_same : x.code.0 ≡ e.code.0 → put_entry e (x ∷ xs) ≡ e ∷ xs
  unfolding put_entry
  put_same h =
      let n = le-ltb e.code.0 x.code.0 (omega arith) in
      rw (n, eq-eqb _ _ h)

  pub put_more : x.code.0 < e.code.0 → put_entry e (x ∷ xs) ≡ x ∷ put_entry e xs
  unfolding put_entry
  put_more h =
      let n = le-ltb e.code.0 x.code.0 (omega arith) in
      let m = ne_eqb x.code.0 e.code.0 (λ p. omega arith) in
      rw (n, m)

-- ---- less, same or more
order : (a b : ℕ) (t : Bool) → ltb a b ≡ t → (a < b) ⊎ ((b ≡ a) ⊎ (b < a))
order a b true p = inl (ltb-true a b p)
order a b false p = inr (eq-or-lt_of_le (ltb-false a b p))

abbrev Cases : Entry → Entry → Type 0
Cases e x = (e.code.0 < x.code.0) ⊎ ((x.code.0 ≡ e.code.0) ⊎ (x.code.0 < e.code.0))

pub cases : (e x : Entry) → Cases e x
cases e x = order e.code.0 x.code.0 _ refl

-- ---- a later put replaces an earlier one of its code
module _ (e f : Entry) (p : f.code.0 ≡ e.code.0) where
  again_by : (x : Entry) (xs : List Entry) → Cases f x → put_entry e (put_entry f xs) ≡ put_entry e xs
      → put_entry e (put_entry f (x ∷ xs)) ≡ put_entry e (x ∷ xs)
  again_by x xs (inl h) ih =
      let g : e.code.0 < x.code.0 = omega arith in
      rw (put_less f x xs h, put_same e f (x ∷ xs) p, put_less e x xs g)
  again_by x xs (inr (inl h)) ih =
      let g : x.code.0 ≡ e.code.0 = omega arith in
      rw (put_same f x xs h, put_same e f xs p, put_same e x xs g)
  again_by x xs (inr (inr h)) ih =
      let g : x.code.0 < e.code.0 = omega arith in
      rw (put_more f x xs h, put_more e x (put_entry f xs) g, put_more e x xs g, ih)

  pub put_again : (xs : List Entry) → put_entry e (put_entry f xs) ≡ put_entry e xs
  unfolding put_entry
  put_again [] = put_same e f [] p
  put_again (x ∷ xs) = again_by x xs (cases f x) (put_again xs)

-- ---- puts of two codes commute
module _ (e f : Entry) (p : e.code.0 < f.code.0) where
  abbrev Commute : List Entry → Type 0
  Commute xs = put_entry e (put_entry f xs) ≡ put_entry f (put_entry e xs)

  below : (x : Entry) (xs : List Entry) → x.code.0 < f.code.0 → Cases e x → Commute xs → Commute (x ∷ xs)
  below x xs q (inl h) ih =
      rw (
        put_more f x xs q,
        put_less e x (put_entry f xs) h,
        put_less e x xs h,
        put_more f e (x ∷ xs) p,
        put_more f x xs q,
      )
  below x xs q (inr (inl h)) ih =
      rw (put_more f x xs q, put_same e x (put_entry f xs) h, put_same e x xs h, put_more f e xs p)
  below x xs q (inr (inr h)) ih =
      rw (put_more f x xs q, put_more e x (put_entry f xs) h, put_more e x xs h, put_more f x (put_entry e xs) q, ih)

  by_cases : (x : Entry) (xs : List Entry) → Cases f x → Commute xs → Commute (x ∷ xs)
  by_cases x xs (inl h) ih =
      let g : e.code.0 < x.code.0 = omega arith in
      rw (put_less f x xs h, put_less e f (x ∷ xs) p, put_less e x xs g, put_more f e (x ∷ xs) p, put_less f x xs h)
  by_cases x xs (inr (inl h)) ih =
      let g : e.code.0 < x.code.0 = omega arith in
      rw (put_same f x xs h, put_less e f xs p, put_less e x xs g, put_more f e (x ∷ xs) p, put_same f x xs h)
  by_cases x xs (inr (inr h)) ih = below x xs h (cases e x) ih

  commute_lt : (xs : List Entry) → Commute xs
  unfolding put_entry
  commute_lt [] = put_less e f [] p ∙ sym (put_more f e [] p)
  commute_lt (x ∷ xs) = by_cases x xs (cases f x) (commute_lt xs)

pub put_commute : (e f : Entry) (xs : List Entry) → (e.code.0 ≡ f.code.0 → ⊥) → put_entry e (put_entry f xs)
    ≡ put_entry f (put_entry e xs)
put_commute e f xs n =
    ⊎_elim (λ h. commute_lt e f h xs) (λ w. sym (commute_lt f e (⊎_elim (λ h. absurd (n (sym h))) (λ h. h) w) xs))
    (cases e f)

-- ---- a put keeps the order
module _ (e : Entry) where
  below_by : (c : ℕ) (x : Entry) (xs : List Entry) → c < e.code.0 → c < x.code.0 → Cases e x
      → Below c (put_entry e (x ∷ xs))
  unfolding Below
  below_by c x xs p q (inl h) = rw (put_less e x xs h) p
  below_by c x xs p q (inr (inl h)) = rw (put_same e x xs h) p
  below_by c x xs p q (inr (inr h)) = rw (put_more e x xs h) q

  put_below : (c : ℕ) (xs : List Entry) → c < e.code.0 → Below c xs → Below c (put_entry e xs)
  unfolding Below put_entry
  put_below c [] p q = p
  put_below c (x ∷ xs) p q = below_by c x xs p q (cases e x)

  ascending_by : (x : Entry) (xs : List Entry) → Below x.code.0 xs → Ascending xs → Ascending (put_entry e xs)
      → Cases e x → Ascending (put_entry e (x ∷ xs))
  unfolding Ascending Below
  ascending_by x xs b a ih (inl h) = rw (put_less e x xs h) (h, (b, a))
  ascending_by x xs b a ih (inr (inl h)) = rw (put_same e x xs h) (subst (λ (c : ℕ). Below c xs) h b, a)
  ascending_by x xs b a ih (inr (inr h)) = rw (put_more e x xs h) (put_below x.code.0 xs h b, ih)

  pub put_ascending : (xs : List Entry) → Ascending xs → Ascending (put_entry e xs)
  unfolding Ascending Below put_entry
  put_ascending [] a = (tt, tt)
  put_ascending (x ∷ xs) a = ascending_by x xs a.0 a.1 (put_ascending xs a.1) (cases e x)

-- ---- a look-up after a put
module _ (a b : ℕ) (c : ℕ) (M : Option AxisOrBtn) where
  pick_same : (X Y : Option AxisOrBtn) (t : Bool) → eqb b c ≡ t → a ≡ b → pick (eqb b c) X M
      ≡ pick (eqb b c) X (pick (eqb a c) Y M)
  pick_same X Y true p q = rw p
  pick_same X Y false p q = let n = ne_eqb a c (λ r. eqb-false b c p (sym q ∙ r)) in rw (p, n)

  pick_swap : (X Y : Option AxisOrBtn) (t : Bool) → eqb a c ≡ t → a < b → pick (eqb a c) X (pick (eqb b c) Y M)
      ≡ pick (eqb b c) Y (pick (eqb a c) X M)
  pick_swap X Y true p q =
      let r = eqb-true a c p in
      let n = ne_eqb b c (λ s. omega arith) in
      rw (p, n)
  pick_swap X Y false p q = rw p

module _ (e : Entry) (c : Code) where
  map-by : (x : Entry) (xs : List Entry) → map_of (put_entry e xs) c ≡ pick (eqb e.code.0 c.0) (Some e.element)
      (map_of xs c) → Cases e x → map_of (put_entry e (x ∷ xs)) c ≡ pick (eqb e.code.0 c.0) (Some e.element)
      (map_of (x ∷ xs) c)
  unfolding map_of
  map-by x xs ih (inl h) = rw (put_less e x xs h)
  map-by x xs ih (inr (inl h)) =
      rw (put_same e x xs h) (pick_same x.code.0 e.code.0 c.0 (map_of xs c) _ _ _ refl h)
  map-by x xs ih (inr (inr h)) =
      rw (put_more e x xs h, ih) (pick_swap x.code.0 e.code.0 c.0 (map_of xs c) _ _ _ refl h)

  pub map_put : (xs : List Entry) → map_of (put_entry e xs) c ≡ pick (eqb e.code.0 c.0) (Some e.element)
      (map_of xs c)
  unfolding map_of put_entry
  map_put [] = refl
  map_put (x ∷ xs) = map-by x xs (map_put xs) (cases e x)

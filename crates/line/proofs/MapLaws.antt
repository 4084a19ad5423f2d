-- Laws of maps that several proofs cite. Assumes nothing.
use Rattle.std.specs.List.{find, filter, fold, reduce, position_or_len, copy_within}
use Rattle.std.specs.Ordering.{nat_cmp, min_by_ordering}
use Rattle.std.specs.Prelude.{Bool, true, false, not, cond, ltb, leb, eqb, Option, Some, None, Ok, Err, option_map, unwrap_or}
use Prim.Native.Nat.{min, ℕ, zero, suc, ◌+◌, ◌-◌, ◌<◌, ◌≤◌}
use mathlib.Core.Path.{◌≡◌, refl, sym, ap, ◌∙◌}
use mathlib.Core.List.{List, [], ◌∷◌, ◌++◌, append_assoc, map}
use native.Mathlib.Omega.{arith}
use lib.ListN.{length, take, drop, get_or, set, length-map, length-set}
use borrow.Author.Tests.{eq-eqb, ne_eqb, lt-ltb, le-ltb, le-leb, lt-leb, leb-true, leb-false, ltb-true, ltb-false}
use Rattle.line.specs.declared.mapping.Entry.{Entry}
use Rattle.line.specs.declared.mapping.Mapping.{Mapping}
use Rattle.line.specs.declared.ev.Code.{Code}
use Rattle.line.specs.Maps.{PutAnswer}
use Rattle.line.specs.declared.ev.AxisOrBtn.{AxisOrBtn}
use Rattle.text.specs.Bytes.{pick}
use Rattle.line.specs.Elements.{same_element}
use Rattle.line.specs.Maps.{codes_max, unused_entry, held, map_of, entry_at, put_entry, put_of, map_rev_of, lesser}
use Rattle.line.specs.Inner.{insert_at}
use Rattle.line.specs.contracts.mapping.Entry.{the_field}
use Rattle.line.proofs.PlaceLaws.{set_prefix, insert_prefix, length_inserted}

-- an array field of entries has as many as its type says: what owning a map tells, for `search (needs, entries_long)`
pub entries_long : (l : List Entry) (n : ℕ) → length (map the_field.into l) ≡ n → length l ≡ n
entries_long l n p = sym (length-map l the_field.into) ∙ p

-- what a read past an array's end is taken to give, in a need
abbrev pub past : Entry
past = unused_entry

-- ---- the look-up
pub entry_found : (xs : List Entry) (c : Code) → find (λ x. eqb x.code.0 c.0) xs ≡ entry_at xs c
unfolding entry_at
entry_found [] c = refl
entry_found (x ∷ xs) c = go (eqb x.code.0 c.0) (entry_found xs c)
  where
    go : (t : Bool) → find (λ y. eqb y.code.0 c.0) xs ≡ entry_at xs c
        → cond t (Some x) (find (λ y. eqb y.code.0 c.0) xs) ≡ pick t (Some x) (entry_at xs c)
    go true e = refl
    go false e = e

pub map_entry : (xs : List Entry) (c : Code) → map_of xs c ≡ option_map (λ (e : Entry). e.element) (entry_at xs c)
unfolding map_of entry_at
map_entry [] c = refl
map_entry (x ∷ xs) c = go (eqb x.code.0 c.0) (map_entry xs c)
  where
    go : (t : Bool) → map_of xs c ≡ option_map (λ (e : Entry). e.element) (entry_at xs c)
        → pick t (Some x.element) (map_of xs c) ≡ option_map (λ (e : Entry). e.element) (pick t (Some x) (entry_at xs c))
    go true e = refl
    go false e = e

-- ---- the place of a put: that of the first entry whose code is not lower
module _ (e : Entry) where
  abbrev pub place_in : List Entry → ℕ
  place_in xs = position_or_len (λ x. leb e.code.0 x.code.0) xs

  pub place_le : (xs : List Entry) → place_in xs ≤ length xs
  place_le [] = omega arith
  place_le (x ∷ xs) = go (leb e.code.0 x.code.0) (place_le xs)
    where
      go : (t : Bool) → place_in xs ≤ length xs → cond (not t) (1 + place_in xs) 0 ≤ suc (length xs)
      go true h = omega arith
      go false h = omega arith

  pub place_onto : (xs : List Entry) (d : Entry) → place_in xs < length xs → (get_or xs (place_in xs) d).code.0 ≡ e.code.0
      → put_entry e xs ≡ set xs (place_in xs) e
  unfolding put_entry
  place_onto [] d h q = absurd (omega arith)
  place_onto (x ∷ xs) d h q = go (leb e.code.0 x.code.0) refl (place_onto xs d) h q
    where
      at : Bool → ℕ
      at t = cond (not t) (1 + place_in xs) 0

      go : (t : Bool) → leb e.code.0 x.code.0 ≡ t
          → (place_in xs < length xs → (get_or xs (place_in xs) d).code.0 ≡ e.code.0 → put_entry e xs ≡ set xs (place_in xs) e)
          → at t < suc (length xs) → (get_or (x ∷ xs) (at t) d).code.0 ≡ e.code.0
          → pick (ltb e.code.0 x.code.0) (e ∷ x ∷ xs) (pick (eqb x.code.0 e.code.0) (e ∷ xs) (x ∷ put_entry e xs))
          ≡ set (x ∷ xs) (at t) e
      go true p f h q = rw (le-ltb e.code.0 x.code.0 (omega arith), eq-eqb x.code.0 e.code.0 q) refl
      go false p f h q =
          let l = leb-false e.code.0 x.code.0 p in
          let z : 1 + place_in xs ≡ suc (place_in xs) = omega arith in
          rw z (rw (le-ltb e.code.0 x.code.0 (omega arith), ne_eqb x.code.0 e.code.0 (λ r. omega arith))
          (ap (λ (l : List Entry). x ∷ l) (f (omega arith) (rw z at q))))

  pub place_before : (xs : List Entry) (d : Entry)
      → (place_in xs < length xs → (get_or xs (place_in xs) d).code.0 ≡ e.code.0 → ⊥)
      → put_entry e xs ≡ insert_at (place_in xs) e xs
  unfolding put_entry
  place_before [] d h = refl
  place_before (x ∷ xs) d h = go (leb e.code.0 x.code.0) refl (place_before xs d) h
    where
      at : Bool → ℕ
      at t = cond (not t) (1 + place_in xs) 0

      go : (t : Bool) → leb e.code.0 x.code.0 ≡ t
          → ((place_in xs < length xs → (get_or xs (place_in xs) d).code.0 ≡ e.code.0 → ⊥)
          → put_entry e xs ≡ insert_at (place_in xs) e xs)
          → (at t < suc (length xs) → (get_or (x ∷ xs) (at t) d).code.0 ≡ e.code.0 → ⊥)
          → pick (ltb e.code.0 x.code.0) (e ∷ x ∷ xs) (pick (eqb x.code.0 e.code.0) (e ∷ xs) (x ∷ put_entry e xs))
          ≡ insert_at (at t) e (x ∷ xs)
      go true p f h =
          let n = h (omega arith) in
          let l = leb-true e.code.0 x.code.0 p in
          rw (lt-ltb e.code.0 x.code.0 (omega (arith, n))) refl
      go false p f h =
          let l = leb-false e.code.0 x.code.0 p in
          let z : 1 + place_in xs ≡ suc (place_in xs) = omega arith in
          rw z (rw (le-ltb e.code.0 x.code.0 (omega arith), ne_eqb x.code.0 e.code.0 (λ r. omega arith))
          (ap (λ (l : List Entry). x ∷ l) (f (λ k q. h (omega arith) (rw z q)))))

  -- what `position` says, or else the length
  pub place_told : (xs : List Entry) (r : Option ℕ)
      → r ≡ cond (ltb (place_in xs) (length xs)) (Some (place_in xs)) None → unwrap_or r (length xs) ≡ place_in xs
  place_told xs r p = rw p (go (ltb (place_in xs) (length xs)) refl)
    where
      go : (t : Bool) → ltb (place_in xs) (length xs) ≡ t
          → unwrap_or (cond t (Some (place_in xs)) None) (length xs) ≡ place_in xs
      go true q = refl
      go false q = omega (arith, ltb-false (place_in xs) (length xs) q, place_le xs)

-- the entries from i up to n moved up by one, and e at i
opened : {A : Type 0} (i n : ℕ) (xs : List A) (e : A) → i ≤ n → n < length xs
    → set (take (suc i) xs ++ (take (n - i) (drop i xs) ++ drop (suc n) xs)) i e
    ≡ take (suc n) (take i xs ++ e ∷ drop i xs) ++ drop (suc n) xs
opened i n [] e h l = absurd (omega arith)
opened zero n (x ∷ xs) e h l = let z : n - 0 ≡ n = omega arith in rw z refl
opened {A} (suc i) zero (x ∷ xs) e h l = absurd (omega arith)
opened {A} (suc i) (suc n) (x ∷ xs) e h l =
    let z : suc n - suc i ≡ n - i = omega arith in
    rw z (ap (λ (l : List A). x ∷ l) (opened i n xs e (omega arith) (omega arith)))

pub copied_up : (i n : ℕ) (xs ys : List Entry) (e : Entry) → i ≤ n → n < length xs
    → ys ≡ copy_within xs i n (i + 1)
    → set ys i e ≡ take (n + 1) (insert_at i e xs) ++ drop (n + 1) xs
copied_up i n xs ys e h l q =
    let z : i + 1 ≡ suc i = omega arith in
    let y : n + 1 ≡ suc n = omega arith in
    let x : suc i + (n - i) ≡ suc n = omega arith in
    rw (q, z, y, x, append_assoc) (opened i n xs e h l)

-- ---- a put, by the place of its entry
module _ (m : Mapping) where
  -- m with n entries, xs in all
  abbrev pub stored : ℕ → List Entry → PutAnswer
  stored n xs =
      record {
        answer = Ok tt;
        map =
            record {
              count = n;
              entries = xs;
              name_start = m.name_start;
              name_len = m.name_len;
              is_default = m.is_default;
              hats_mapped = m.hats_mapped;
            };
      }

  module _ (e : Entry) (k : ℕ) where
    pub put_onto : k < length (held m) → length (held m) ≤ codes_max → put_entry e (held m) ≡ set (held m) k e
        → stored (length (held m)) (set m.entries k e) ≡ put_of m e
    unfolding put_of
    put_onto h b p = rw (p, length-set, le-leb _ _ b, set_prefix m.count m.entries k e h)

    module _ (h : k ≤ length (held m)) (p : put_entry e (held m) ≡ insert_at k e (held m)) where
      pub put_before : length (held m) < codes_max
          → stored (length (held m) + 1)
          (take (length (held m) + 1) (insert_at k e m.entries) ++ drop (length (held m) + 1) m.entries)
          ≡ put_of m e
      unfolding put_of
      put_before b =
          let long = le-leb (length (held m) + 1) codes_max (omega arith) in
          rw (p, length_inserted k (held m) e h, long, insert_prefix k m.count m.entries e h)

      pub put_full : length (held m) ≡ codes_max → record { answer = Err (record {}); map = m } ≡ put_of m e
      unfolding put_of
      put_full b =
          let long = lt-leb (length (held m) + 1) codes_max (omega arith) in
          rw (p, length_inserted k (held m) e h, long)

-- ---- the reverse look-up: the lesser of two codes, the first one between equals
abbrev low : Code → Code → Code
low c d = pick (ltb d.0 c.0) d c

abbrev pub lesser_of : Code → Code → Code
lesser_of c d = min_by_ordering (nat_cmp c.0 d.0) c d

low_min : (c d : Code) → (low c d).0 ≡ min c.0 d.0
low_min c d = go (ltb d.0 c.0) refl
  where
    go : (t : Bool) → ltb d.0 c.0 ≡ t → (pick t d c).0 ≡ min c.0 d.0
    go true e = omega (arith, ltb-true d.0 c.0 e)
    go false e = omega (arith, ltb-false d.0 c.0 e)

of_min : (c d : Code) → (lesser_of c d).0 ≡ min c.0 d.0
of_min c d = grind arith

same_code : (c d : Code) → c.0 ≡ d.0 → c ≡ d
same_code c d e = ap (λ (n : ℕ). record { 0 = n }) e

lower : (c d : Code) → lesser c (Some d) ≡ Some (low c d)
lower c d = go (ltb d.0 c.0)
  where
    go : (t : Bool) → pick t (Some d) (Some c) ≡ Some (pick t d c)
    go true = refl
    go false = refl

lesser_twice : (b c : Code) (r : Option Code) → lesser (lesser_of b c) r ≡ lesser b (lesser c r)
lesser_twice b c None = sym (lower b c ∙ ap (λ (x : Code). Some x) (same_code _ _ (omega (arith, low_min b c, of_min b c))))
lesser_twice b c (Some x) =
    rw (lower c x, lower (lesser_of b c) x, lower b (low c x))
    (ap (λ (y : Code). Some y)
    (same_code _ _ (omega (arith, of_min b c, low_min c x, low_min (lesser_of b c) x, low_min b (low c x)))))

-- the codes of an element's entries
abbrev pub codes_of : AxisOrBtn → List Entry → List Code
codes_of el xs = map (λ (e : Entry). e.code) (filter (λ (e : Entry). same_element e.element el) xs)

-- the least of them, one after the other
least_from : (xs : List Entry) (el : AxisOrBtn) (b : Code) → Some (fold lesser_of b (codes_of el xs)) ≡ lesser b (map_rev_of xs el)
unfolding map_rev_of
least_from [] el b = refl
least_from (x ∷ xs) el b = go (same_element x.element el) (λ (c : Code). least_from xs el c)
  where
    go : (t : Bool) → ((c : Code) → Some (fold lesser_of c (codes_of el xs)) ≡ lesser c (map_rev_of xs el)) → Some (fold lesser_of b (map (λ (e : Entry). e.code) (cond t (x ∷ filter (λ (e : Entry). same_element e.element el) xs) (filter (λ (e : Entry). same_element e.element el) xs))))
        ≡ lesser b (pick t (lesser x.code (map_rev_of xs el)) (map_rev_of xs el))
    go true f = f (lesser_of b x.code) ∙ lesser_twice b x.code (map_rev_of xs el)
    go false f = f b

pub least_all : (xs : List Entry) (el : AxisOrBtn) → reduce lesser_of (codes_of el xs) ≡ map_rev_of xs el
unfolding map_rev_of
least_all [] el = refl
least_all (x ∷ xs) el = go (same_element x.element el) (least_all xs el)
  where
    go : (t : Bool) → reduce lesser_of (codes_of el xs) ≡ map_rev_of xs el → reduce lesser_of (map (λ (e : Entry). e.code) (cond t (x ∷ filter (λ (e : Entry). same_element e.element el) xs) (filter (λ (e : Entry). same_element e.element el) xs)))
        ≡ pick t (lesser x.code (map_rev_of xs el)) (map_rev_of xs el)
    go true e = least_from xs el x.code
    go false e = e

-- A search tree of numbers by their keys: where paths lead, and that no number has the key of a path that has ended.
-- Assumes nothing.
use mathlib.Core.Bool.{Bool, true, false}
use mathlib.Core.List.{List}
use mathlib.Core.Logic.{⊎_elim}
use mathlib.Core.Path.{◌≡◌, refl, sym, ap, ◌∙◌, subst}
use Prim.Native.Nat.{ℕ, zero, suc, ◌+◌, ◌-◌, ◌≤◌, ◌<◌}
use native.Mathlib.Nat.{eq-or-lt_of_le}
use native.Mathlib.Numerals.{add-one}
use native.Mathlib.Omega.{arith}
use lib.Dec.{eqb, ltb}
use lib.ListN.{length, get_or}
use borrow.Author.Count.{below_more}
use borrow.Author.Tests.{ltb-true, ltb-false, eqb-true, eqb-false, ne_eqb}
use Rattle.text.specs.Bytes.{pick}
use Rattle.store.specs.declared.tree.Node.{Node}
use Rattle.store.specs.Held.{Key}
use Rattle.store.specs.Tree.{digit, node_in, kid_in, last_in, place, Passed, At, Stands, Treed, Led, Ends}
use Rattle.store.specs.Tree.{Searched}

-- ---- paths

-- a path that has ended goes no further
pub place_none : (w : List Node) (u : Key) (t s : ℕ) → t ≤ s → place w u t ≡ 0 → place w u s ≡ 0
unfolding place
place_none w u t zero l e = let z : t ≡ 0 = omega (arith, l) in subst (λ (x : ℕ). place w u x ≡ 0) z e
place_none w u t (suc s) l e = ⊎_elim
    (λ q. subst (λ (x : ℕ). place w u x ≡ 0) q e)
    (λ m. ap (λ (x : ℕ). pick (eqb x 0) 0 (kid_in w (x - 1) (digit u s))) (place_none w u t s (omega (arith, m)) e))
    (eq-or-lt_of_le l)

pub place_some : (w : List Node) (u : Key) (t s : ℕ) → s ≤ t → 0 < place w u t → 0 < place w u s
place_some w u t s l p = go (eqb (place w u s) 0) refl
  where
    go : (b : Bool) → eqb (place w u s) 0 ≡ b → 0 < place w u s
    go true e = absurd (omega (arith, p, place_none w u s t l (eqb-true (place w u s) 0 e)))
    go false e = let n : place w u s ≡ 0 → ⊥ = eqb-false (place w u s) 0 e in omega (arith, n)

pub place_step : (w : List Node) (u : Key) (t at : ℕ) → place w u t ≡ at + 1
    → place w u (t + 1) ≡ kid_in w at (digit u t)
unfolding place
place_step w u t at e =
    let back : at + 1 - 1 ≡ at = omega arith in
    ap (place w u) (add-one t)
    ∙ ap (λ (x : ℕ). pick (eqb x 0) 0 (kid_in w (x - 1) (digit u t))) e
    ∙ ap (λ (b : Bool). pick b 0 (kid_in w (at + 1 - 1) (digit u t))) (ne_eqb (at + 1) 0 (λ z. omega (arith, z)))
    ∙ ap (λ (x : ℕ). kid_in w x (digit u t)) back

-- the first node with a key on a path is one
pub meets_one : (K : ℕ → Key) (w : List Node) (u : Key) (t at s m : ℕ) → place w u t ≡ at + 1 → K at ≡ u
    → Passed K w u t → At K w u s m → m ≡ at
meets_one K w u t at s m e k p a = go (ltb s t) refl (ltb t s) refl
  where
    here : (x y : ℕ) → place w u x ≡ y + 1 → K y ≡ u → K (place w u x - 1) ≡ u
    here x y q r = let back : place w u x - 1 ≡ y = omega (arith, q) in ap K back ∙ r

    go : (b : Bool) → ltb s t ≡ b → (c : Bool) → ltb t s ≡ c → m ≡ at
    go true b c d = absurd (p s (ltb-true s t b) (here s m a.leads a.key))
    go false b true d = absurd (a.passed t (ltb-true t s d) (here t at e k))
    go false b false d =
        let same : s ≡ t = omega (arith, ltb-false s t b, ltb-false t s d) in
        omega (arith, a.leads, e, ap (place w u) same)

-- the paths of a tree, where the nodes of the first n have the same kids
module _ (w w' : List Node) (n : ℕ) (some : 0 < n) (below : (p d : ℕ) → p < n → kid_in w p d ≤ n)
    (same : (p d : ℕ) → p < n → kid_in w' p d ≡ kid_in w p d) where
  pub place_most : (u : Key) (t : ℕ) → place w u t ≤ n
  unfolding place
  place_most u zero = omega (arith, some)
  place_most u (suc t) = go (place_most u t) (eqb (place w u t) 0) refl
    where
      go : place w u t ≤ n → (b : Bool) → eqb (place w u t) 0 ≡ b
          → pick b 0 (kid_in w (place w u t - 1) (digit u t)) ≤ n
      go l true e = omega arith
      go l false e =
          let z : place w u t ≡ 0 → ⊥ = eqb-false (place w u t) 0 e in
          below (place w u t - 1) (digit u t) (omega (arith, l, z))

  pub place_same : (u : Key) (t : ℕ) → place w' u t ≡ place w u t
  unfolding place
  place_same u zero = refl
  place_same u (suc t) =
      ap (λ (x : ℕ). pick (eqb x 0) 0 (kid_in w' (x - 1) (digit u t))) (place_same u t)
      ∙ go (eqb (place w u t) 0) refl
    where
      go : (b : Bool) → eqb (place w u t) 0 ≡ b
          → pick b 0 (kid_in w' (place w u t - 1) (digit u t)) ≡ pick b 0 (kid_in w (place w u t - 1) (digit u t))
      go true e = refl
      go false e =
          let z : place w u t ≡ 0 → ⊥ = eqb-false (place w u t) 0 e in
          same (place w u t - 1) (digit u t) (omega (arith, place_most u t, z))

-- ---- trees

pub treed_none : (K : ℕ → Key) (w : List Node) → Treed K w 0
treed_none K w = record {
  stands = λ k l. absurd (omega (arith, l));
  digits = λ p l. absurd (omega (arith, l));
  below = λ p d l. absurd (omega (arith, l));
  up = λ p d l. absurd (omega (arith, l));
}

-- other keys from n on
pub treed_keys : (K K' : ℕ → Key) (w : List Node) (n : ℕ) → ((k : ℕ) → k < n → K k ≡ K' k) → Treed K w n → Treed K' w n
treed_keys K K' w n f s = record {
  stands = λ k l. subst (Stands K' w n) (f k l) (turn (K k) (s.stands k l));
  digits = s.digits;
  below = s.below;
  up = s.up;
}
  where
    turn : (u : Key) → Stands K w n u → Stands K' w n u
    turn u x = record {
      t = x.t;
      m = x.m;
      at = record {
        leads = x.at.leads;
        key = sym (f x.m x.within) ∙ x.at.key;
        passed = λ q l e. x.at.passed q l
            (f (place w u q - 1)
            (omega (arith, x.within, place_most w w n (omega (arith, x.within)) s.below (λ p d v. refl) u q)) ∙ e);
      };
      within = x.within;
      some = x.some;
      most = x.most;
      hit = sym (f (last_in w x.m - 1) (omega (arith, x.some, x.most))) ∙ x.hit;
      clear = λ j l m e. x.clear j l m (f j m ∙ e);
    }

pub searched_keys : (K K' : ℕ → Key) (w : List Node) (n m : ℕ) → ((k : ℕ) → k < n → K k ≡ K' k)
    → Searched K w n m → Searched K' w n m
searched_keys K K' w n m f x = λ p. let s = x p in (s.0, (s.1.0, treed_keys K K' w n f s.1.1))

-- the nodes of the first n are the same
pub treed_same : (K : ℕ → Key) (w w' : List Node) (n : ℕ) → ((p : ℕ) → p < n → node_in w' p ≡ node_in w p)
    → Treed K w n → Treed K w' n
treed_same K w w' n f s = record {
  stands = λ k l. turn (K k) (s.stands k l);
  digits = λ p l. ap (λ (x : Node). length x.kids) (f p l) ∙ s.digits p l;
  below = λ p d l. omega (arith, kids p d l, s.below p d l);
  up = λ p d l q. omega (arith, kids p d l, s.up p d l (omega (arith, kids p d l, q)));
}
  where
    kids : (p d : ℕ) → p < n → kid_in w' p d ≡ kid_in w p d
    kids p d l = ap (λ (x : Node). get_or x.kids d 0) (f p l)

    turn : (u : Key) → Stands K w n u → Stands K w' n u
    turn u x =
        let e : last_in w' x.m ≡ last_in w x.m = ap (λ (v : Node). v.last) (f x.m x.within) in
        let paths : (t : ℕ) → place w' u t ≡ place w u t
        = place_same w w' n (omega (arith, x.within)) s.below kids u in
        record {
          t = x.t;
          m = x.m;
          at = record {
            leads = paths x.t ∙ x.at.leads;
            key = x.at.key;
            passed = λ q l v. x.at.passed q l (ap (λ (y : ℕ). K (y - 1)) (sym (paths q)) ∙ v);
          };
          within = x.within;
          some = omega (arith, e, x.some);
          most = omega (arith, e, x.most);
          hit = ap (λ (y : ℕ). K (y - 1)) e ∙ x.hit;
          clear = λ j l. x.clear j (omega (arith, e, l));
        }

-- what a path that ended shows: no number has the key
module _ {K : ℕ → Key} {w : List Node} {n at d : ℕ} (s : Treed K w n) where
  pub ends_none : (u : Key) → Ends K w u n at d → (k : ℕ) → k < n → K k ≡ u → ⊥
  ends_none u x k l e = go (subst (Stands K w n) e (s.stands k l))
    where
      next : place w u (x.t + 1) ≡ 0
      next = place_step w u x.t at x.led.leads ∙ ap (kid_in w at) (sym x.is) ∙ x.none

      here : (y z : ℕ) → place w u y ≡ z + 1 → K z ≡ u → K (place w u y - 1) ≡ u
      here y z q r = let back : place w u y - 1 ≡ z = omega (arith, q) in ap K back ∙ r

      go : Stands K w n u → ⊥
      go y = on (ltb y.t x.t) refl (ltb x.t y.t) refl
        where
          on : (b : Bool) → ltb y.t x.t ≡ b → (c : Bool) → ltb x.t y.t ≡ c → ⊥
          on true b c v = x.led.passed y.t (ltb-true y.t x.t b) (here y.t y.m y.at.leads y.at.key)
          on false b true v =
              let z : place w u y.t ≡ 0
              = place_none w u (x.t + 1) y.t (omega (arith, ltb-true x.t y.t v)) next in
              absurd (omega (arith, z, y.at.leads))
          on false b false v =
              let same : y.t ≡ x.t = omega (arith, ltb-false y.t x.t b, ltb-false x.t y.t v) in
              let m : y.m ≡ at = omega (arith, y.at.leads, x.led.leads, ap (place w u) same) in
              x.other (ap K (sym m) ∙ y.at.key)

-- ---- `descend`

pub led_first : (K : ℕ → Key) (w : List Node) (u : Key) (n : ℕ) → 0 < n → Led K w u n 0 0
unfolding place
led_first K w u n l = record { leads = refl; within = l; depth = omega arith; passed = λ s m. absurd (omega (arith, m)) }

pub led_turn : {K : ℕ → Key} {w : List Node} {u : Key} {n t at : ℕ} → Treed K w n → Led K w u n t at
    → (K at ≡ u → ⊥) → (kid : ℕ) → kid ≡ kid_in w at (digit u t) → (kid ≡ 0 → ⊥) → Led K w u n (t + 1) (kid - 1)
led_turn {K} {w} {u} {n} {t} {at} s x o kid e z =
    let up = s.up at (digit u t) x.within (omega (arith, e, z)) in
    let within = s.below at (digit u t) x.within in
    record {
      leads = place_step w u t at x.leads ∙ omega (arith, e, z);
      within = omega (arith, e, z, within);
      depth = omega (arith, x.depth, e, up);
      passed = below_more (λ (q : ℕ). K (place w u q - 1) ≡ u → ⊥) t x.passed
          (λ v. let back : place w u t - 1 ≡ at = omega (arith, x.leads) in o (ap K (sym back) ∙ v));
    }

-- Number n, whose node stands alone, comes into a search tree of the first n: what stood on its path stands there
-- still, since a kid is written only where there was none.
-- Assumes nothing.
use mathlib.Core.Bool.{Bool, true, false}
use mathlib.Core.List.{List, [], ◌∷◌}
use mathlib.Core.Path.{◌≡◌, refl, sym, ap, ◌∙◌, subst}
use Prim.Native.Nat.{ℕ, zero, suc, ◌+◌, ◌-◌, ◌≤◌, ◌<◌}
use native.Mathlib.Omega.{arith}
use lib.Dec.{eqb}
use lib.ListN.{length, get_or, set, length-set}
use lib.Seq.{get_or-set_same, get_or-set_other}
use borrow.Author.Count.{below_more}
use borrow.Author.Tests.{eqb-true, eqb-false, ne_eqb}
use Rattle.text.specs.Bytes.{pick}
use Rattle.store.specs.declared.tree.Node.{Node}
use Rattle.store.specs.Held.{Key}
use Rattle.store.specs.Keys.{Sought}
use Rattle.store.specs.Tree.{digit, node_in, kid_in, last_in, place, At, Stands, Treed, Ends, Meets}
use Rattle.store.proofs.TreeLaws.{place_some, place_step, place_same, meets_one, treed_same, ends_none}

-- a node is written
module _ (w : List Node) (p : ℕ) (x : Node) where
  pub node_same : p < length w → node_in (set w p x) p ≡ x
  node_same l = get_or-set_same w p x _ l

  pub node_other : (q : ℕ) → (q ≡ p → ⊥) → node_in (set w p x) q ≡ node_in w q
  node_other q n = get_or-set_other w p q x _ n

same_or_not : {A : Type 0} (p q : ℕ) → (p ≡ q → A) → ((p ≡ q → ⊥) → A) → A
same_or_not {A} p q f g = go (eqb p q) refl
  where
    go : (b : Bool) → eqb p q ≡ b → A
    go true e = f (eqb-true p q e)
    go false e = g (eqb-false p q e)

-- a node that stands alone, of the last number so far
abbrev pub alone : ℕ → Node
alone n = record { kids = 0 ∷ 0 ∷ 0 ∷ 0 ∷ 0 ∷ 0 ∷ 0 ∷ 0 ∷ []; last = n + 1 }

alone_none : (d : ℕ) → ◌≡◌ {A = ℕ} (get_or (0 ∷ 0 ∷ 0 ∷ 0 ∷ 0 ∷ 0 ∷ 0 ∷ 0 ∷ []) d 0) 0
alone_none zero = refl
alone_none (suc zero) = refl
alone_none (suc (suc zero)) = refl
alone_none (suc (suc (suc zero))) = refl
alone_none (suc (suc (suc (suc zero)))) = refl
alone_none (suc (suc (suc (suc (suc zero))))) = refl
alone_none (suc (suc (suc (suc (suc (suc zero)))))) = refl
alone_none (suc (suc (suc (suc (suc (suc (suc zero))))))) = refl
alone_none (suc (suc (suc (suc (suc (suc (suc (suc d)))))))) = refl

-- the first n numbers are in the tree, and the node of number n stands alone
pub record Lone (K : ℕ → Key) (w : List Node) (n : ℕ) : Type 0 where
  pub treed : Treed K w n
  pub digits : length (node_in w n).kids ≡ 8
  pub childless : (d : ℕ) → kid_in w n d ≡ 0
  pub last : last_in w n ≡ n + 1
  pub long : n < length w

module _ (w : List Node) (n : ℕ) (long : n < length w) where
  alone_node : node_in (set w n (alone n)) n ≡ alone n
  alone_node = node_same w n (alone n) long

  pub alone_treed : {K : ℕ → Key} → Treed K w n → Treed K (set w n (alone n)) n
  alone_treed {K} s = treed_same K w (set w n (alone n)) n (λ p l. node_other w n (alone n) p (λ e. omega (arith, e, l))) s

  alone_digits : length (node_in (set w n (alone n)) n).kids ≡ 8
  alone_digits = ap (λ (v : Node). length v.kids) alone_node

  alone_kids : (d : ℕ) → kid_in (set w n (alone n)) n d ≡ 0
  alone_kids d = ap (λ (v : Node). get_or v.kids d 0) alone_node ∙ alone_none d

  alone_last : last_in (set w n (alone n)) n ≡ n + 1
  alone_last = ap (λ (v : Node). v.last) alone_node

  pub alone_lone : {K : ℕ → Key} → Treed K w n → Lone K (set w n (alone n)) n
  alone_lone s = record {
    treed = alone_treed s;
    digits = alone_digits;
    childless = alone_kids;
    last = alone_last;
    long = omega (arith, long, length-set w n (alone n));
  }

  -- number 0 is the whole tree
  pub alone_first : (K : ℕ → Key) → n ≡ 0 → Treed K (set w n (alone n)) (n + 1)
  unfolding place
  alone_first K z =
      let back : last_in (set w n (alone n)) n - 1 ≡ n = omega (arith, alone_last) in
      record {
        stands = below_more (λ (k : ℕ). Stands K (set w n (alone n)) (n + 1) (K k)) n (λ k l. absurd (omega (arith, l, z)))
            (record {
              t = 0;
              m = n;
              at = record { leads = omega (arith, z); key = refl; passed = λ q l. absurd (omega (arith, l)) };
              within = omega arith;
              some = omega (arith, alone_last);
              most = omega (arith, alone_last);
              hit = ap K back;
              clear = λ j b m. absurd (omega (arith, b, m, alone_last));
            });
        digits = below_more (λ (p : ℕ). length (node_in (set w n (alone n)) p).kids ≡ 8) n
            (λ p l. absurd (omega (arith, l, z))) alone_digits;
        below = λ p d l. below_more (λ (p : ℕ). kid_in (set w n (alone n)) p d ≤ n + 1) n
            (λ p l. absurd (omega (arith, l, z))) (omega (arith, alone_kids d)) p l;
        up = λ p d l. below_more
            (λ (p : ℕ). 0 < kid_in (set w n (alone n)) p d → p + 1 < kid_in (set w n (alone n)) p d) n
            (λ p l q. absurd (omega (arith, l, z))) (λ q. absurd (omega (arith, q, alone_kids d))) p l;
      }

module _ {K : ℕ → Key} {w : List Node} {n : ℕ} (some : 0 < n) (lone : Lone K w n) where
  abbrev s : Treed K w n
  s = lone.treed

  -- a key that number n has not stands where it stood, and its node names the same number
  later : (w' : List Node) (v : Key) (y : Stands K w n v) → (K n ≡ v → ⊥) → At K w' v y.t y.m
      → last_in w' y.m ≡ last_in w y.m → Stands K w' (n + 1) v
  later w' v y o a l = record {
    t = y.t;
    m = y.m;
    at = a;
    within = omega (arith, y.within);
    some = omega (arith, l, y.some);
    most = omega (arith, l, y.most);
    hit = ap (λ (q : ℕ). K (q - 1)) l ∙ y.hit;
    clear = λ j b m.
        below_more (λ (j : ℕ). last_in w y.m ≤ j → K j ≡ v → ⊥) n (λ j m b. y.clear j b m)
        (λ b q. o q) j m (omega (arith, b, l));
  }

  -- the key is there: its node names n
  module _ {at : ℕ} (x : Meets K w (K n) n at) {w' : List Node}
      (is : w' ≡ set w at (record { kids = (node_in w at).kids; last = n + 1 })) where
    abbrev u : Key
    u = K n

    at_node : node_in w' at ≡ record { kids = (node_in w at).kids; last = n + 1 }
    at_node = ap (λ (v : List Node). node_in v at) is ∙ node_same w at _ (omega (arith, x.led.within, lone.long))

    other_node : (q : ℕ) → (q ≡ at → ⊥) → node_in w' q ≡ node_in w q
    other_node q e = ap (λ (v : List Node). node_in v q) is ∙ node_other w at _ q e

    kids_same : (p : ℕ) → (node_in w' p).kids ≡ (node_in w p).kids
    kids_same p = same_or_not p at
        (λ e. ap (λ (q : ℕ). (node_in w' q).kids) e ∙ ap (λ (v : Node). v.kids) at_node
        ∙ ap (λ (q : ℕ). (node_in w q).kids) (sym e))
        (λ e. ap (λ (v : Node). v.kids) (other_node p e))

    kid_same : (p d : ℕ) → kid_in w' p d ≡ kid_in w p d
    kid_same p d = ap (λ (v : List ℕ). get_or v d 0) (kids_same p)

    paths : (v : Key) (t : ℕ) → place w' v t ≡ place w v t
    paths = place_same w w' n some s.below (λ p d l. kid_same p d)

    its : Stands K w n u
    its = subst (Stands K w n) x.key (s.stands at x.led.within)

    its_node : its.m ≡ at
    its_node = meets_one K w u x.t at its.t its.m x.led.leads x.key x.led.passed its.at

    pub found_sought : Sought K n (last_in w at) × (last_in w at ≤ n)
    found_sought =
        let e : last_in w its.m ≡ last_in w at = ap (last_in w) its_node in (
          record {
            clear = λ r j l m v. its.clear j (omega (arith, e, l)) m v;
            hit = λ p l. ap (λ (y : ℕ). K (y - 1)) (sym e) ∙ its.hit;
          },
          omega (arith, e, its.most),
        )

    onto : {v : Key} {t m : ℕ} → At K w v t m → At K w' v t m
    onto {v} {t} a = record {
      leads = paths v t ∙ a.leads;
      key = a.key;
      passed = λ q l e. a.passed q l (ap (λ (y : ℕ). K (y - 1)) (sym (paths v q)) ∙ e);
    }

    named : (v : Key) (t m : ℕ) → At K w' v t m → m ≡ at → v ≡ u → Stands K w' (n + 1) v
    named v t m a e q =
        let l : last_in w' m ≡ n + 1 = ap (λ (p : ℕ). last_in w' p) e ∙ ap (λ (y : Node). y.last) at_node in
        let back : last_in w' m - 1 ≡ n = omega (arith, l) in
        record {
          t = t;
          m = m;
          at = a;
          within = omega (arith, e, x.led.within);
          some = omega (arith, l);
          most = omega (arith, l);
          hit = ap K back ∙ sym q;
          clear = λ j b m. absurd (omega (arith, b, m, l));
        }

    stands_on : (v : Key) → Stands K w n v → Stands K w' (n + 1) v
    stands_on v y = same_or_not y.m at
        (λ e. named v y.t y.m (onto y.at) e (sym y.at.key ∙ ap K e ∙ x.key))
        (λ e. later w' v y
        (λ q. e (meets_one K w u x.t at y.t y.m x.led.leads x.key x.led.passed
        (subst (λ (k : Key). At K w k y.t y.m) (sym q) y.at)))
        (onto y.at) (ap (λ (q : Node). q.last) (other_node y.m e)))

    pub found_treed : Treed K w' (n + 1)
    found_treed = record {
      stands = below_more (λ (k : ℕ). Stands K w' (n + 1) (K k)) n (λ k l. stands_on (K k) (s.stands k l))
          (named (K n) its.t its.m (onto its.at) its_node refl);
      digits = below_more (λ (p : ℕ). length (node_in w' p).kids ≡ 8) n
          (λ p l. ap length (kids_same p) ∙ s.digits p l) (ap length (kids_same n) ∙ lone.digits);
      below = λ p d l. below_more (λ (p : ℕ). kid_in w' p d ≤ n + 1) n
          (λ p l. omega (arith, kid_same p d, s.below p d l)) (omega (arith, kid_same n d, lone.childless d)) p l;
      up = λ p d l. below_more (λ (p : ℕ). 0 < kid_in w' p d → p + 1 < kid_in w' p d) n
          (λ p l q. omega (arith, kid_same p d, s.up p d l (omega (arith, kid_same p d, q))))
          (λ q. absurd (omega (arith, q, kid_same n d, lone.childless d))) p l;
    }

  -- the path ended: it goes on to n
  module _ {at d : ℕ} (x : Ends K w (K n) n at d) {w' : List Node}
      (is : w' ≡ set w at (record { kids = set (node_in w at).kids d (n + 1); last = (node_in w at).last })) where
    at_node' : node_in w' at ≡ record { kids = set (node_in w at).kids d (n + 1); last = (node_in w at).last }
    at_node' = ap (λ (v : List Node). node_in v at) is ∙ node_same w at _ (omega (arith, x.led.within, lone.long))

    other_node' : (q : ℕ) → (q ≡ at → ⊥) → node_in w' q ≡ node_in w q
    other_node' q e = ap (λ (v : List Node). node_in v q) is ∙ node_other w at _ q e

    lasts : (p : ℕ) → last_in w' p ≡ last_in w p
    lasts p = same_or_not p at
        (λ e. ap (last_in w') e ∙ ap (λ (v : Node). v.last) at_node' ∙ ap (last_in w) (sym e))
        (λ e. ap (λ (v : Node). v.last) (other_node' p e))

    new_kid : kid_in w' at d ≡ n + 1
    new_kid = ap (λ (v : Node). get_or v.kids d 0) at_node'
        ∙ get_or-set_same (node_in w at).kids d (n + 1) 0 (omega (arith, x.few, s.digits at x.led.within))

    other_kid : (p c : ℕ) → (p ≡ at → c ≡ d → ⊥) → kid_in w' p c ≡ kid_in w p c
    other_kid p c f = same_or_not p at
        (λ e. ap (λ (q : ℕ). kid_in w' q c) e ∙ ap (λ (v : Node). get_or v.kids c 0) at_node'
        ∙ get_or-set_other (node_in w at).kids d c (n + 1) 0 (f e) ∙ ap (λ (q : ℕ). kid_in w q c) (sym e))
        (λ e. ap (λ (v : Node). get_or v.kids c 0) (other_node' p e))

    some_kid : (p c : ℕ) → 0 < kid_in w p c → kid_in w' p c ≡ kid_in w p c
    some_kid p c l = other_kid p c (λ e q. omega (arith, l, ap (λ (v : ℕ). kid_in w v c) e, ap (kid_in w at) q, x.none))

    -- where a path went, it goes still
    goes_on : (v : Key) (t : ℕ) → 0 < place w v t → place w' v t ≡ place w v t
    unfolding place
    goes_on v zero l = refl
    goes_on v (suc t) l =
        let before : 0 < place w v t = place_some w v (suc t) t (omega arith) l in
        let p : place w' v t ≡ place w v t = goes_on v t before in
        let n : eqb (place w v t) 0 ≡ false = ne_eqb (place w v t) 0 (λ e. omega (arith, e, before)) in
        let k : 0 < kid_in w (place w v t - 1) (digit v t)
        = subst (λ (b : Bool). 0 < pick b 0 (kid_in w (place w v t - 1) (digit v t))) n l in
        ap (λ (q : ℕ). pick (eqb q 0) 0 (kid_in w' (q - 1) (digit v t))) p
        ∙ ap (λ (q : ℕ). pick (eqb (place w v t) 0) 0 q) (some_kid (place w v t - 1) (digit v t) k)

    onto' : {v : Key} {t m : ℕ} → At K w v t m → At K w' v t m
    onto' {v} {t} a =
        let p : 0 < place w v t = omega (arith, a.leads) in
        record {
          leads = goes_on v t p ∙ a.leads;
          key = a.key;
          passed = λ q l e. a.passed q l
              (ap (λ (y : ℕ). K (y - 1)) (sym (goes_on v q (place_some w v t q (omega (arith, l)) p))) ∙ e);
        }

    stands_on' : (v : Key) → (K n ≡ v → ⊥) → Stands K w n v → Stands K w' (n + 1) v
    stands_on' v o y = later w' v y o (onto' y.at) (lasts y.m)

    none : (k : ℕ) → k < n → K k ≡ K n → ⊥
    none = ends_none s (K n) x

    new_stands : Stands K w' (n + 1) (K n)
    new_stands =
        let there : 0 < place w (K n) x.t = omega (arith, x.led.leads) in
        let leads : place w' (K n) x.t ≡ at + 1 = goes_on (K n) x.t there ∙ x.led.leads in
        let l : last_in w' n ≡ n + 1 = lasts n ∙ lone.last in
        let back : last_in w' n - 1 ≡ n = omega (arith, l) in
        record {
          t = x.t + 1;
          m = n;
          at = record {
            leads = place_step w' (K n) x.t at leads ∙ ap (kid_in w' at) (sym x.is) ∙ new_kid;
            key = refl;
            passed = below_more (λ (q : ℕ). K (place w' (K n) q - 1) ≡ K n → ⊥) x.t
                (λ q m e. x.led.passed q m
                (ap (λ (y : ℕ). K (y - 1)) (sym (goes_on (K n) q (place_some w (K n) x.t q (omega (arith, m)) there)))
                ∙ e))
                (λ e. let b : place w' (K n) x.t - 1 ≡ at = omega (arith, leads) in x.other (ap K (sym b) ∙ e));
          };
          within = omega arith;
          some = omega (arith, l);
          most = omega (arith, l);
          hit = ap K back;
          clear = λ j b m. absurd (omega (arith, b, m, l));
        }

    pub ends_sought : Sought K n 0 × (0 ≤ n)
    ends_sought = (
      record { clear = λ r j l m v. none j m v; hit = λ p. absurd (omega (arith, p)) },
      omega arith,
    )

    kids_long : (p : ℕ) → length (node_in w' p).kids ≡ length (node_in w p).kids
    kids_long p = same_or_not p at
        (λ e. ap (λ (q : ℕ). length (node_in w' q).kids) e ∙ ap (λ (v : Node). length v.kids) at_node'
        ∙ length-set (node_in w at).kids d (n + 1) ∙ ap (λ (q : ℕ). length (node_in w q).kids) (sym e))
        (λ e. ap (λ (v : Node). length v.kids) (other_node' p e))

    -- a kid is the new one, or as before
    kid_or : {A : Type 0} (p c : ℕ) → (p ≡ at → kid_in w' p c ≡ n + 1 → A) → (kid_in w' p c ≡ kid_in w p c → A) → A
    kid_or {A} p c f g = same_or_not p at
        (λ e. same_or_not c d
        (λ q. f e (ap (λ (v : ℕ). kid_in w' v c) e ∙ ap (kid_in w' at) q ∙ new_kid))
        (λ q. g (other_kid p c (λ y z. q z))))
        (λ e. g (other_kid p c (λ y z. e y)))

    pub ends_treed : Treed K w' (n + 1)
    ends_treed = record {
      stands = below_more (λ (k : ℕ). Stands K w' (n + 1) (K k)) n
          (λ k l. stands_on' (K k) (λ e. none k l (sym e)) (s.stands k l)) new_stands;
      digits = below_more (λ (p : ℕ). length (node_in w' p).kids ≡ 8) n
          (λ p l. kids_long p ∙ s.digits p l) (kids_long n ∙ lone.digits);
      below = λ p c l. kid_or p c (λ e q. omega (arith, q)) (λ q. omega (
        arith,
        q,
        below_more (λ (p : ℕ). kid_in w p c ≤ n + 1) n (λ p l. omega (arith, s.below p c l))
            (omega (arith, lone.childless c)) p l,
      ));
      up = λ p c l. kid_or p c (λ e q v. omega (arith, q, e, x.led.within)) (λ q v.
          omega (
            arith,
            q,
            below_more (λ (p : ℕ). 0 < kid_in w p c → p + 1 < kid_in w p c) n
                (λ p l. s.up p c l) (λ z. absurd (omega (arith, z, lone.childless c))) p l (omega (arith, q, v)),
          ));
    }

-- Chains of numbers, one for each bucket: each is linked to the last one of its bucket before it, and a chain holds
-- every number of its key. Nothing here knows where a key is read from.
-- Assumes nothing.
use mathlib.Core.Bool.{Bool, true, false}
use mathlib.Core.List.{List}
use mathlib.Core.Logic.{⊎_elim}
use mathlib.Core.Path.{◌≡◌, refl, sym, ap, ◌∙◌, subst}
use Prim.Native.Nat.{ℕ, ◌+◌, ◌-◌, ◌≤◌, ◌<◌}
use native.Mathlib.Nat.{eq-or-lt_of_le}
use native.Mathlib.Omega.{arith}
use lib.Dec.{eqb, ltb}
use lib.ListN.{length, get_or, set, replicate, get_or-replicate, length-replicate, length-set}
use lib.Seq.{get_or-set_same, get_or-set_other}
use borrow.Author.Count.{below_more}
use borrow.Author.Tests.{ltb-true, ltb-false, eqb-true, eqb-false}
use Rattle.store.specs.declared.chains.Link.{Link}
use Rattle.store.specs.Held.{Key, same_key}
use Rattle.store.specs.Keys.{bucket, tag_of, no_link, link_in, next_in, Links, AllApart, Twice, NotIn, Kin, Last, Linked, Headed}
use Rattle.store.specs.Keys.{Chained, Seeks, Sought, Says, Tells, told_of}
use Rattle.store.specs.declared.chains.Verdict.{Verdict}
use Rattle.store.specs.declared.chains.Verdict.TheVariants as Vd
use Rattle.text.specs.Bytes.{pick}
use Rattle.store.proofs.HeldLaws.{same_refl}

pub unlike : (a b : Key) → same_key a b ≡ false → a ≡ b → ⊥
unlike a b n e =
    let t : true ≡ false = sym (subst (λ (x : Key). same_key a x ≡ true) e (same_refl a)) ∙ n in
    let z : ◌≡◌ {A = ℕ} 0 1 = cc in
    omega arith

-- what is left to seek at c
pub record Seeking (N : ℕ) (K : ℕ → Key) (k m c : ℕ) : Type 0 where
  pub passed : NotIn K k c m
  pub kin : Kin N K k c
  pub within : c ≤ k

pub seek_turn : (N : ℕ) (K : ℕ → Key) (links : List Link) (k m c d : ℕ) → Linked N K links k → Seeking N K k m c → 0 < c
    → same_key (K (c - 1)) (K k) ≡ false → d ≡ next_in links (c - 1) → Seeking N K k m d × (d < c)
seek_turn N K links k m c d linked s pos ne hd = (
  record {
    passed = λ j l h e. go j l h e (ltb j (c - 1)) refl;
    kin = λ p. last.kin p ∙ s.kin pos;
    within = omega (arith, last.within, s.within);
  },
  omega (arith, last.within),
)
  where
    last : Last N K (bucket N (K (c - 1))) (c - 1) d
    last = subst (Last N K (bucket N (K (c - 1))) (c - 1)) (sym hd) (linked (c - 1) (omega (arith, s.within))).0

    go : (j : ℕ) → d ≤ j → j < m → K j ≡ K k → (t : Bool) → ltb j (c - 1) ≡ t → ⊥
    go j l h e true t = last.near j l (ltb-true j (c - 1) t) (ap (bucket N) e ∙ sym (s.kin pos))
    go j l h e false t =
        ⊎_elim (λ q. unlike (K (c - 1)) (K k) ne (ap K q ∙ e)) (λ lt. s.passed j (omega arith) h e)
        (eq-or-lt_of_le (ltb-false j (c - 1) t))

-- the first step of number k, which is linked, in the chain that starts before m: where m is 0, nothing comes behind it
module _ (N : ℕ) (K : ℕ → Key) (links : List Link) (k m : ℕ) (linked : Linked N K links (k + 1)) (kin : Kin N K k m)
    (w : m ≤ k) where
  pub step_on : (d : ℕ) → same_key (K (m - 1)) (K k) ≡ false → d ≡ next_in links (m - 1)
      → (NotIn K k d m × (d ≤ m)) × Kin N K k d
  step_on d ne e = go (eqb m 0) refl
    where
      go : (t : Bool) → eqb m 0 ≡ t → (NotIn K k d m × (d ≤ m)) × Kin N K k d
      go true t =
          let z : m ≡ 0 = eqb-true m 0 t in
          let first : m - 1 ≡ 0 = omega (arith, z) in
          let least : d ≤ 0
          = subst (λ (x : ℕ). x ≤ 0) (sym (e ∙ ap (λ (i : ℕ). next_in links i) first)) (linked 0 (omega arith)).0.within in
          ((λ j l h q. omega (arith, z, h), omega (arith, z, least)), λ p. absurd (omega (arith, p, least)))
      go false t =
          let n : m ≡ 0 → ⊥ = eqb-false m 0 t in
          let on = seek_turn N K links k m m d (λ a l. linked a (omega (arith, l)))
          (record { passed = λ j l h q. omega arith; kin = kin; within = w }) (omega (arith, n)) ne e in
          ((on.0.passed, omega (arith, on.1)), on.0.kin)

-- what is sought from there on
pub seeks_from : (K : ℕ → Key) (k m d r : ℕ) → NotIn K k d m → Seeks K k d r → Seeks K k m r
seeks_from K k m d r n q = record { clear = λ l j a b e. go l j a b e (ltb j d) refl; hit = q.hit }
  where
    go : r ≤ k → (j : ℕ) → r ≤ j → j < m → K j ≡ K k → (t : Bool) → ltb j d ≡ t → ⊥
    go l j a b e true t = q.clear l j a (ltb-true j d t) e
    go l j a b e false t = n j (ltb-false j d t) b e

pub chained_none : (K : ℕ → Key) (N : ℕ) (l : Link) → N ≤ 65535 → Chained K (replicate N 0) (replicate N l) 0
chained_none K N v m = record {
  linked = λ a l. absurd (omega arith);
  ends = λ b l. subst (Last (length (replicate {A = ℕ} N 0)) K b 0)
      (sym (get_or-replicate {A = ℕ} N b 0 0 (omega (arith, l, length-replicate {A = ℕ} N 0))))
      (record { near = λ j m n e. omega arith; kin = λ p. absurd (omega arith); within = omega arith });
  most = omega (arith, length-replicate {A = ℕ} N 0);
  alike = length-replicate N v ∙ sym (length-replicate {A = ℕ} N 0);
}

-- what the chain says, all numbers below k say
pub chain_sought : (N : ℕ) (K : ℕ → Key) (k c : ℕ) → Last N K (bucket N (K k)) k c → (r : ℕ) → Seeks K k c r
    → Sought K k r
chain_sought N K k c last r q = record { clear = λ l j a b e. go l j a b e (ltb j c) refl; hit = q.hit }
  where
    go : r ≤ k → (j : ℕ) → r ≤ j → j < k → K j ≡ K k → (t : Bool) → ltb j c ≡ t → ⊥
    go l j a b e true t = q.clear l j a (ltb-true j c t) e
    go l j a b e false t = last.near j (ltb-false j c t) b (ap (bucket N) e)

pub chain_from : (N : ℕ) (K : ℕ → Key) (links : List Link) (n k c : ℕ) → Linked N K links n → k < n → c ≡ next_in links k
    → Last N K (bucket N (K k)) k c
chain_from N K links n k c linked l e = subst (Last N K (bucket N (K k)) k) (sym e) (linked k l).0

-- number k, of bucket h, is linked to c, the head of its chain
module _ {N : ℕ} {K : ℕ → Key} {heads : List ℕ} {links : List Link} {k h c : ℕ} (s : Chained K heads links k)
    (hn : length heads ≡ N) (at : (h ≡ bucket N (K k)) × (h < N)) (hc : c ≡ get_or heads h 0) (kl : k < N) where
  -- the links so far, by that number of buckets
  pub links_so_far : Linked N K links k
  links_so_far = subst (λ (n : ℕ). Linked n K links k) hn s.linked

  pub here : Last N K (bucket N (K k)) k c
  here =
      subst (λ (b : ℕ). Last N K b k c) at.0 (subst (Last N K h k) (sym hc)
      (subst (λ (n : ℕ). Headed n K heads k) hn s.ends h at.1))

  pub sought : {r : ℕ} → Seeks K k c r → Sought K k r
  sought q = chain_sought N K k c here _ q

  -- the links with that of number k
  module _ (v : Link) (hv : (v.next ≡ c) × (v.tag ≡ tag_of (K k))) where
    pub links_turn : Linked N K (set links k v) (k + 1)
    links_turn =
        below_more (λ (a : ℕ). Links N K a (link_in (set links k v) a)) k
        (λ a l. subst (Links N K a) (sym (get_or-set_other links k a v no_link (λ e. omega arith))) (links_so_far a l))
        (subst (Links N K k) (sym (get_or-set_same links k v no_link (omega (arith, s.alike, hn))))
        (subst (Last N K (bucket N (K k)) k) (sym hv.0) here, hv.1))

  module _ (v : ℕ) (hv : v ≡ k + 1) where
    heads_turn : Headed N K (set heads h v) (k + 1)
    heads_turn b l = go (eqb b h) refl
      where
        was : Last N K b k (get_or heads b 0)
        was = subst (λ (n : ℕ). Headed n K heads k) hn s.ends b l

        go : (t : Bool) → eqb b h ≡ t → Last N K b (k + 1) (get_or (set heads h v) b 0)
        go true t =
            let e : b ≡ h = eqb-true b h t in
            let head : get_or (set heads h v) b 0 ≡ k + 1
            = ap (λ (x : ℕ). get_or (set heads h v) x 0) e ∙ get_or-set_same heads h v 0 (omega (arith, hn, at.1))
            ∙ hv in
            let one : k ≡ k + 1 - 1 = omega arith in
            subst (Last N K b (k + 1)) (sym head) (record {
              near = λ j m n q. omega arith;
              kin = λ p. ap (λ (x : ℕ). bucket N (K x)) (sym one) ∙ sym at.0 ∙ sym e;
              within = omega arith;
            })
        go false t =
            let n : b ≡ h → ⊥ = eqb-false b h t in
            subst (Last N K b (k + 1)) (sym (get_or-set_other heads h b v 0 n)) (record {
              near = λ j m l'.
                  below_more (λ (x : ℕ). get_or heads b 0 ≤ x → bucket N (K x) ≡ b → ⊥) k
                  (λ x lx mx. was.near x mx lx) (λ mx q. n (sym q ∙ sym at.0)) j l' m;
              kin = was.kin;
              within = omega (arith, was.within);
            })

    heads_kept : length (set heads h v) ≡ N
    heads_kept = length-set heads h v ∙ hn

    pub chained_turn : (x : Link) → (x.next ≡ c) × (x.tag ≡ tag_of (K k))
        → Chained K (set heads h v) (set links k x) (k + 1)
    chained_turn x hx = record {
      linked = subst (λ (n : ℕ). Linked n K (set links k x) (k + 1)) (sym heads_kept) (links_turn x hx);
      ends = subst (λ (n : ℕ). Headed n K (set heads h v) (k + 1)) (sym heads_kept) heads_turn;
      most = omega (arith, length-set heads h v, s.most);
      alike = length-set links k x ∙ s.alike ∙ sym (length-set heads h v);
    }

-- the first k are apart, and so is the next one
pub apart_turn : (K : ℕ → Key) (k r : ℕ) → AllApart K k → Sought K k r → r ≤ 0 → AllApart K (k + 1)
apart_turn K k r s q z a b l m =
    below_more (λ (x : ℕ). a < x → K a ≡ K x → ⊥) k (λ x lx ax. s a x ax lx)
    (λ ax e. q.clear (omega arith) a (omega arith) ax e) b m l

pub found_twice : (K : ℕ → Key) (n k r : ℕ) → k < n → Sought K k r → r ≤ k → 0 < r → Twice K n
found_twice K n k r h q l p =
    record { a = r - 1; b = k; less = omega arith; below = h; same = q.hit p l }

-- ---- what is told of the first n

pub says-turn : (K : ℕ → Key) (n r : ℕ) (v : Verdict) → Says K n v → Sought K n r → Says K (n + 1) (told_of v n r)
says-turn K n r Vd.Unsure s q = tt
says-turn K n r Vd.Twice s q =
    record { a = s.a; b = s.b; less = s.less; below = omega (arith, s.below); same = s.same }
says-turn K n r Vd.Apart s q = go (ltb n r) refl (eqb r 0) refl
  where
    go : (b : Bool) → ltb n r ≡ b → (c : Bool) → eqb r 0 ≡ c
        → Says K (n + 1) (pick b Vd.Unsure (pick c Vd.Apart Vd.Twice))
    go true p c z = tt
    go false p true z = let e : r ≡ 0 = eqb-true r 0 z in apart_turn K n r s q (omega arith)
    go false p false z =
        let e : r ≡ 0 → ⊥ = eqb-false r 0 z in
        found_twice K (n + 1) n r (omega arith) q (ltb-false n r p) (omega arith)

-- nothing is told by a key that is not found
pub told_none : (v : Verdict) (n r : ℕ) → r < 1 → v ≡ told_of v n r
told_none Vd.Unsure n r l = refl
told_none Vd.Twice n r l = refl
told_none Vd.Apart n r l = go (ltb n r) refl (eqb r 0) refl
  where
    go : (b : Bool) → ltb n r ≡ b → (c : Bool) → eqb r 0 ≡ c → Vd.Apart ≡ pick b Vd.Unsure (pick c Vd.Apart Vd.Twice)
    go true p c z = absurd (omega (arith, l, ltb-true n r p))
    go false p true z = refl
    go false p false z = let e : r ≡ 0 → ⊥ = eqb-false r 0 z in absurd (e (omega (arith, l)))

-- other keys from n on
pub says_agree : (K K' : ℕ → Key) (n : ℕ) (v : Verdict) → ((k : ℕ) → k < n → K k ≡ K' k) → Says K n v → Says K' n v
says_agree K K' n Vd.Unsure f s = tt
says_agree K K' n Vd.Twice f s = record {
  a = s.a;
  b = s.b;
  less = s.less;
  below = s.below;
  same = sym (f s.a (omega (arith, s.less, s.below))) ∙ s.same ∙ f s.b s.below;
}
says_agree K K' n Vd.Apart f s = λ a b l m e. s a b l m (f a (omega arith) ∙ e ∙ sym (f b m))

pub tells_apart : (K : ℕ → Key) (n : ℕ) → AllApart K n → Tells K n true
tells_apart K n s = (λ e. s, λ (e : ◌≡◌ {A = Bool} true false). let z : ◌≡◌ {A = ℕ} 0 1 = cc in absurd (omega arith))

pub tells_twice : (K : ℕ → Key) (n : ℕ) → Twice K n → Tells K n false
tells_twice K n s = (λ (e : ◌≡◌ {A = Bool} false true). let z : ◌≡◌ {A = ℕ} 0 1 = cc in absurd (omega arith), λ e. s)

-- One share's record at an index's front: read where it was written, and written where it is read.
-- Assumes nothing.
use mathlib.Core.Bool.{Bool, true, false, ◌&&◌, ◌||◌}
use mathlib.Core.List.{List, [], ◌∷◌, ◌++◌}
use mathlib.Core.Path.{◌≡◌, refl, sym, ap, ap₂, ◌∙◌, subst}
use Prim.Native.Nat.{ℕ, zero, suc, ◌+◌, ◌*◌, ◌≤◌, ◌<◌}
use native.Mathlib.Omega.{arith}
use lib.Dec.{eqb, leb}
use lib.ListN.{length, get_or, drop}
use lib.Seq.{drop-cons, drop_at}
use borrow.Author.Tests.{eq-eqb, ne_eqb, le-leb, leb-true, leb-false, eqb-true, eqb-false, lt-ltb, le-ltb, ltb-true, ltb-false}
use Rattle.text.specs.Bytes.{pick}
use Rattle.text.specs.Uuid.{big_endian}
use Rattle.store.specs.Decode.{word, word4, is_share_of, is_long_share_of, front_share, and_share, shares_at}
use Rattle.store.specs.Fronts.{starts_share}
use Rattle.store.specs.Held.{short_max, is_long}
use Rattle.store.specs.Layout.{Bytes, share_bytes}
use Rattle.store.specs.Shares.{share_size}
use Rattle.store.proofs.BodyLaws.{word_below, word4_below, four, be2_of, be4_of, be4_is}
use Rattle.store.proofs.BoolLaws.{and_left, and_right, and_both, and_false_left, and_false_right, and_assoc, or_left, or_right}

-- ---- no record, or one of kind 4 or of kind 6

data Form (b : ℕ) : Type 0 where
  none : b ≡ 0 → Form b
  short : (b ≡ 0 → ⊥) → b ≤ short_max → Form b
  long : short_max < b → Form b

form : (b : ℕ) → Form b
form b = go (eqb b 0) refl (is_long b) refl
  where
    go : (c : Bool) → eqb b 0 ≡ c → (d : Bool) → is_long b ≡ d → Form b
    go true e d f = none (eqb-true b 0 e)
    go false e true f = long (ltb-true short_max b f)
    go false e false f = short (eqb-false b 0 e) (ltb-false short_max b f)

module _ {A : Type 0} (x y z : A) (b : ℕ) where
  by_none : b ≡ 0 → pick (eqb b 0) x (pick (is_long b) y z) ≡ x
  by_none e = ap (λ (c : Bool). pick c x (pick (is_long b) y z)) (eq-eqb b 0 e)

  by_some : (b ≡ 0 → ⊥) → (d : Bool) → is_long b ≡ d → pick (eqb b 0) x (pick (is_long b) y z) ≡ pick d y z
  by_some n d e = ap₂ (λ (c d : Bool). pick c x (pick d y z)) (ne_eqb b 0 n) e

  by_short : (b ≡ 0 → ⊥) → b ≤ short_max → pick (eqb b 0) x (pick (is_long b) y z) ≡ z
  by_short n l = by_some n false (le-ltb short_max b l)

  by_long : short_max < b → pick (eqb b 0) x (pick (is_long b) y z) ≡ y
  by_long l = by_some (λ e. omega (arith, l, e)) true (lt-ltb short_max b l)

module _ (o b : ℕ) where
  pub share_none : b ≡ 0 → share_bytes o b ≡ []
  share_none = by_none [] (6 ∷ o ∷ big_endian 4 b) (4 ∷ o ∷ big_endian 2 b) b

  pub share_short : (b ≡ 0 → ⊥) → b ≤ short_max → share_bytes o b ≡ 4 ∷ o ∷ big_endian 2 b
  share_short = by_short [] (6 ∷ o ∷ big_endian 4 b) (4 ∷ o ∷ big_endian 2 b) b

  pub share_long : short_max < b → share_bytes o b ≡ 6 ∷ o ∷ big_endian 4 b
  share_long = by_long [] (6 ∷ o ∷ big_endian 4 b) (4 ∷ o ∷ big_endian 2 b) b

pub size_none : (b : ℕ) → b ≡ 0 → share_size b ≡ 0
size_none = by_none 0 6 4

pub size_short : (b : ℕ) → (b ≡ 0 → ⊥) → b ≤ short_max → share_size b ≡ 4
size_short = by_short 0 6 4

pub size_long : (b : ℕ) → short_max < b → share_size b ≡ 6
size_long = by_long 0 6 4

pub size_most : (b : ℕ) → share_size b ≤ 6
size_most b = go (eqb b 0) (is_long b)
  where
    go : (c d : Bool) → pick c 0 (pick d 6 4) ≤ 6
    go true d = omega arith
    go false true = omega arith
    go false false = omega arith

pub length_share : (o b : ℕ) → length (share_bytes o b) ≡ share_size b
unfolding big_endian
length_share o b = go (eqb b 0) (is_long b)
  where
    go : (c d : Bool) → length (pick c [] (pick d (6 ∷ o ∷ big_endian 4 b) (4 ∷ o ∷ big_endian 2 b)))
        ≡ pick c 0 (pick d 6 4)
    go true d = refl
    go false true = refl
    go false false = refl

-- ---- what stands at the front

pub record IsShare (o : ℕ) (i : List ℕ) : Type 0 where
  pub whole : 4 ≤ length i
  pub kind : get_or i 0 0 ≡ 4
  pub owner : get_or i 1 0 ≡ o
  pub some : 1 ≤ word i 2

pub record IsLong (o : ℕ) (i : List ℕ) : Type 0 where
  pub whole : 6 ≤ length i
  pub kind : get_or i 0 0 ≡ 6
  pub owner : get_or i 1 0 ≡ o
  pub needed : short_max < word4 i 2

module _ (o : ℕ) (i : List ℕ) where
  is_share_of_lem : is_share_of o i ≡ true → IsShare o i
  unfolding is_share_of
  is_share_of_lem e =
      let b : eqb (get_or i 0 0) 4 && (eqb (get_or i 1 0) o && leb 1 (word i 2)) ≡ true
      = and_right (leb 4 (length i)) _ e in
      let c : eqb (get_or i 1 0) o && leb 1 (word i 2) ≡ true = and_right (eqb (get_or i 0 0) 4) _ b in
      record {
        whole = leb-true 4 (length i) (and_left _ _ e);
        kind = eqb-true _ 4 (and_left _ _ b);
        owner = eqb-true _ o (and_left _ _ c);
        some = leb-true 1 _ (and_right (eqb (get_or i 1 0) o) _ c);
      }

  is_long_lem : is_long_share_of o i ≡ true → IsLong o i
  unfolding is_long_share_of
  is_long_lem e =
      let b : eqb (get_or i 0 0) 6 && (eqb (get_or i 1 0) o && is_long (word4 i 2)) ≡ true
      = and_right (leb 6 (length i)) _ e in
      let c : eqb (get_or i 1 0) o && is_long (word4 i 2) ≡ true = and_right (eqb (get_or i 0 0) 6) _ b in
      record {
        whole = leb-true 6 (length i) (and_left _ _ e);
        kind = eqb-true _ 6 (and_left _ _ b);
        owner = eqb-true _ o (and_left _ _ c);
        needed = ltb-true short_max _ (and_right (eqb (get_or i 1 0) o) _ c);
      }

  is_share : IsShare o i → is_share_of o i ≡ true
  unfolding is_share_of
  is_share s =
      and_both _ _ (le-leb 4 (length i) s.whole)
      (and_both _ _ (eq-eqb _ 4 s.kind) (and_both _ _ (eq-eqb _ o s.owner) (le-leb 1 _ s.some)))

  is_long_share : IsLong o i → is_long_share_of o i ≡ true
  unfolding is_long_share_of
  is_long_share s =
      and_both _ _ (le-leb 6 (length i) s.whole)
      (and_both _ _ (eq-eqb _ 6 s.kind) (and_both _ _ (eq-eqb _ o s.owner) (lt-ltb short_max _ s.needed)))

  not_short : (get_or i 0 0 ≡ 4 → ⊥) → is_share_of o i ≡ false
  unfolding is_share_of
  not_short n = and_false_right (leb 4 (length i)) _ (and_false_left _ _ (ne_eqb _ 4 n))

  not_long : (get_or i 0 0 ≡ 6 → ⊥) → is_long_share_of o i ≡ false
  unfolding is_long_share_of
  not_long n = and_false_right (leb 6 (length i)) _ (and_false_left _ _ (ne_eqb _ 6 n))

  -- the share at the front by its kind
  front_by : (c d : Bool) → is_share_of o i ≡ c → is_long_share_of o i ≡ d
      → front_share o i ≡ pick c (word i 2) (pick d (word4 i 2) 0)
  unfolding front_share
  front_by c d e f = ap₂ (λ (x y : Bool). pick x (word i 2) (pick y (word4 i 2) 0)) e f

  pub front_none : (get_or i 0 0 ≡ 4 → ⊥) → (get_or i 0 0 ≡ 6 → ⊥) → front_share o i ≡ 0
  front_none m n = front_by false false (not_short m) (not_long n)

  stop_short : starts_share i ≡ false → is_share_of o i ≡ false
  unfolding is_share_of
  stop_short e =
      sym (and_assoc (leb 4 (length i)) (eqb (get_or i 0 0) 4) (eqb (get_or i 1 0) o && leb 1 (word i 2)))
      ∙ and_false_left (leb 4 (length i) && eqb (get_or i 0 0) 4) (eqb (get_or i 1 0) o && leb 1 (word i 2))
      (or_left _ (leb 6 (length i) && eqb (get_or i 0 0) 6) e)

  stop_long : starts_share i ≡ false → is_long_share_of o i ≡ false
  unfolding is_long_share_of
  stop_long e =
      sym (and_assoc (leb 6 (length i)) (eqb (get_or i 0 0) 6) (eqb (get_or i 1 0) o && is_long (word4 i 2)))
      ∙ and_false_left (leb 6 (length i) && eqb (get_or i 0 0) 6) (eqb (get_or i 1 0) o && is_long (word4 i 2))
      (or_right (leb 4 (length i) && eqb (get_or i 0 0) 4) _ e)

  pub front_stop : starts_share i ≡ false → front_share o i ≡ 0
  front_stop e = front_by false false (stop_short e) (stop_long e)

  other_short : (get_or i 1 0 ≡ o → ⊥) → is_share_of o i ≡ false
  unfolding is_share_of
  other_short n =
      and_false_right (leb 4 (length i)) _ (and_false_right (eqb (get_or i 0 0) 4) _ (and_false_left _ _ (ne_eqb _ o n)))

  other_long : (get_or i 1 0 ≡ o → ⊥) → is_long_share_of o i ≡ false
  unfolding is_long_share_of
  other_long n =
      and_false_right (leb 6 (length i)) _ (and_false_right (eqb (get_or i 0 0) 6) _ (and_false_left _ _ (ne_eqb _ o n)))

  pub front_other : (get_or i 1 0 ≡ o → ⊥) → front_share o i ≡ 0
  front_other n = front_by false false (other_short n) (other_long n)

  -- a whole record of that owner
  own_short : 4 ≤ length i → get_or i 0 0 ≡ 4 → get_or i 1 0 ≡ o → is_share_of o i ≡ leb 1 (word i 2)
  unfolding is_share_of
  own_short l k e =
      ap₂ (λ (x y : Bool). x && y) (le-leb 4 (length i) l)
      (ap₂ (λ (x y : Bool). x && (y && leb 1 (word i 2))) (eq-eqb _ 4 k) (eq-eqb _ o e))

  own_long : 6 ≤ length i → get_or i 0 0 ≡ 6 → get_or i 1 0 ≡ o → is_long_share_of o i ≡ is_long (word4 i 2)
  unfolding is_long_share_of
  own_long l k e =
      ap₂ (λ (x y : Bool). x && y) (le-leb 6 (length i) l)
      (ap₂ (λ (x y : Bool). x && (y && is_long (word4 i 2))) (eq-eqb _ 6 k) (eq-eqb _ o e))

-- the record that a whole one is
data Starts (i : List ℕ) : Type 0 where
  kind4 : 4 ≤ length i → get_or i 0 0 ≡ 4 → Starts i
  kind6 : 6 ≤ length i → get_or i 0 0 ≡ 6 → Starts i

starts : (i : List ℕ) → starts_share i ≡ true → Starts i
starts i e = go (leb 4 (length i) && eqb (get_or i 0 0) 4) refl e
  where
    go : (b : Bool) → leb 4 (length i) && eqb (get_or i 0 0) 4 ≡ b → b || leb 6 (length i) && eqb (get_or i 0 0) 6 ≡ true
        → Starts i
    go true p q = kind4 (leb-true 4 (length i) (and_left _ _ p)) (eqb-true _ 4 (and_right (leb 4 (length i)) _ p))
    go false p q = kind6 (leb-true 6 (length i) (and_left _ _ q)) (eqb-true _ 6 (and_right (leb 6 (length i)) _ q))

module _ (o : ℕ) (i : List ℕ) (s : starts_share i ≡ true) (e : get_or i 1 0 ≡ o) where
  pub front_four : get_or i 0 0 ≡ 4 → word i 2 ≡ front_share o i
  front_four k = go (starts i s)
    where
      some : (b : Bool) → leb 1 (word i 2) ≡ b → word i 2 ≡ pick b (word i 2) 0
      some true q = refl
      some false q = omega (arith, leb-false 1 (word i 2) q)

      go : Starts i → word i 2 ≡ front_share o i
      go (kind4 l p) =
          some (leb 1 (word i 2)) refl
          ∙ sym (front_by o i (leb 1 (word i 2)) false (own_short o i l k e) (not_long o i (λ z. omega (arith, z, k))))
      go (kind6 l p) = absurd (omega (arith, k, p))

  pub front_six : (get_or i 0 0 ≡ 4 → ⊥) → pick (is_long (word4 i 2)) (word4 i 2) 0 ≡ front_share o i
  front_six n = go (starts i s)
    where
      go : Starts i → pick (is_long (word4 i 2)) (word4 i 2) 0 ≡ front_share o i
      go (kind4 l p) = absurd (n p)
      go (kind6 l p) = sym (front_by o i false (is_long (word4 i 2)) (not_short o i n) (own_long o i l p e))

-- ---- a record that is read was written so

two_read : (a b : ℕ) (r : List ℕ) → a < 256 → b < 256 → big_endian 2 (256 * a + b) ++ r ≡ a ∷ b ∷ r
unfolding big_endian
two_read a b r la lb = ap₂ (λ (x y : ℕ). x ∷ y ∷ r) (omega arith) (omega arith)

module _ (o : ℕ) (i : List ℕ) (y : Bytes i) where
  bytes4 : big_endian 4 (word4 i 2) ≡ get_or i 2 0 ∷ get_or i 3 0 ∷ get_or i 4 0 ∷ get_or i 5 0 ∷ []
  bytes4 =
      sym (be4_is (word4 i 2)) ∙ be4_of i y 2
      ∙ ap₂ (λ (p q : List ℕ). p ++ q) (be2_of i y 2) (be2_of i y 4)

  -- the kind and the owner stand at the front
  read_front : (k : ℕ) → get_or i 0 0 ≡ k → get_or i 1 0 ≡ o → 2 ≤ length i → i ≡ k ∷ o ∷ drop 2 i
  read_front k a b l =
      drop-cons i 0 0 (omega (arith, l))
      ∙ ap₂ (λ (x : ℕ) (q : List ℕ). x ∷ q) a
      (drop-cons i 1 0 (omega (arith, l)) ∙ ap (λ (x : ℕ). x ∷ drop 2 i) b)

  read_short : IsShare o i → i ≡ share_bytes o (word i 2) ++ drop 4 i
  read_short s =
      read_front 4 s.kind s.owner (omega (arith, s.whole))
      ∙ ap (λ (q : List ℕ). 4 ∷ o ∷ q)
      (drop-cons i 2 0 (omega (arith, s.whole))
      ∙ ap (λ (q : List ℕ). get_or i 2 0 ∷ q) (drop-cons i 3 0 (omega (arith, s.whole)))
      ∙ sym (two_read (get_or i 2 0) (get_or i 3 0) (drop 4 i) (y 2) (y 3)))
      ∙ ap (λ (q : List ℕ). q ++ drop 4 i)
      (sym (share_short o (word i 2) (λ z. omega (arith, s.some, z)) (omega (arith, word_below i y 2))))

  read_long : IsLong o i → i ≡ share_bytes o (word4 i 2) ++ drop 6 i
  read_long s =
      read_front 6 s.kind s.owner (omega (arith, s.whole))
      ∙ ap (λ (q : List ℕ). 6 ∷ o ∷ q)
      (drop-cons i 2 0 (omega (arith, s.whole))
      ∙ ap (λ (q : List ℕ). get_or i 2 0 ∷ q) (drop-cons i 3 0 (omega (arith, s.whole))
      ∙ ap (λ (q : List ℕ). get_or i 3 0 ∷ q) (drop-cons i 4 0 (omega (arith, s.whole))
      ∙ ap (λ (q : List ℕ). get_or i 4 0 ∷ q) (drop-cons i 5 0 (omega (arith, s.whole)))))
      ∙ ap (λ (q : List ℕ). q ++ drop 6 i) (sym bytes4))
      ∙ ap (λ (q : List ℕ). q ++ drop 6 i) (sym (share_long o (word4 i 2) s.needed))

-- what the share at the front tells of the index
pub record Stands (o : ℕ) (i : List ℕ) (b : ℕ) : Type 0 where
  pub is : i ≡ share_bytes o b ++ drop (share_size b) i
  pub most : b ≤ 4294967295
  pub within : share_size b ≤ length i

pub front_read : (o : ℕ) (i : List ℕ) → Bytes i → Stands o i (front_share o i)
front_read o i y =
    go (is_share_of o i) refl (is_long_share_of o i) refl
  where
    at : (b n : ℕ) → front_share o i ≡ b → share_size b ≡ n → i ≡ share_bytes o b ++ drop n i → b ≤ 4294967295
        → n ≤ length i → Stands o i (front_share o i)
    at b n e s p l m = subst (Stands o i) (sym e) (record {
      is = p ∙ ap (λ (k : ℕ). share_bytes o b ++ drop k i) (sym s);
      most = l;
      within = omega (arith, s, m);
    })

    go : (c : Bool) → is_share_of o i ≡ c → (d : Bool) → is_long_share_of o i ≡ d → Stands o i (front_share o i)
    go true e d f =
        let s : IsShare o i = is_share_of_lem o i e in
        let l : word i 2 ≤ 65535 = omega (arith, word_below i y 2) in
        at (word i 2) 4 (front_by o i true d e f) (size_short (word i 2) (λ z. omega (arith, s.some, z)) l)
        (read_short o i y s) (omega (arith, l)) s.whole
    go false e true f =
        let s : IsLong o i = is_long_lem o i f in
        at (word4 i 2) 6 (front_by o i false true e f) (size_long (word4 i 2) s.needed) (read_long o i y s)
        (omega (arith, word4_below i y 2)) s.whole
    go false e false f =
        at 0 0 (front_by o i false false e f) (size_none 0 refl) (ap (λ (q : List ℕ). q ++ i) (sym (share_none o 0 refl)))
        (omega arith) (omega arith)

-- ---- a record that was written is read

word-written : (x : ℕ) (r : List ℕ) → x ≤ short_max → word (big_endian 2 x ++ r) 0 ≡ x
unfolding big_endian
word-written x r l = omega arith

word4-written : (x : ℕ) (r : List ℕ) → x ≤ 4294967295 → word4 (big_endian 4 x ++ r) 0 ≡ x
word4-written x r l = ap (λ (q : List ℕ). word4 (q ++ r) 0) (sym (be4_is x)) ∙ four x ∙ omega (arith, l)

module _ (o b : ℕ) (r : List ℕ) where
  short_written : (b ≡ 0 → ⊥) → b ≤ short_max → IsShare o (4 ∷ o ∷ (big_endian 2 b ++ r))
  short_written n l = record {
    whole = unfold big_endian in omega arith;
    kind = refl;
    owner = refl;
    some = omega (arith, word-written b r l, n);
  }

  long_written : short_max < b → b ≤ 4294967295 → IsLong o (6 ∷ o ∷ (big_endian 4 b ++ r))
  long_written m l = record {
    whole = unfold big_endian in omega arith;
    kind = refl;
    owner = refl;
    needed = omega (arith, word4-written b r l, m);
  }

  pub front_written : (b ≡ 0 → ⊥) → b ≤ 4294967295 → front_share o (share_bytes o b ++ r) ≡ b
  front_written n l = go (form b)
    where
      read_at : (p : List ℕ) → share_bytes o b ≡ p → front_share o (p ++ r) ≡ b → front_share o (share_bytes o b ++ r) ≡ b
      read_at p e f = ap (λ (q : List ℕ). front_share o (q ++ r)) e ∙ f

      go : Form b → front_share o (share_bytes o b ++ r) ≡ b
      go (none e) = absurd (n e)
      go (short z m) =
          let p : List ℕ = 4 ∷ o ∷ big_endian 2 b in
          read_at p (share_short o b z m)
          (front_by o (p ++ r) true (is_long_share_of o (p ++ r)) (is_share o (p ++ r) (short_written z m)) refl
          ∙ word-written b r m)
      go (long m) =
          let p : List ℕ = 6 ∷ o ∷ big_endian 4 b in
          read_at p (share_long o b m)
          (front_by o (p ++ r) false true (not_short o (p ++ r) (λ (z : 6 ≡ 4). omega (arith, z))) (is_long_share o (p ++ r) (long_written m l))
          ∙ word4-written b r l)

  pub share_drop : drop (share_size b) (share_bytes o b ++ r) ≡ r
  share_drop = drop_at (share_bytes o b) r (share_size b) (length_share o b)

-- ---- the records of all

-- one more owner, whether its share stands there or not
pub shares_more : (k o : ℕ) (i : List ℕ)
    → shares_at (suc k) o i ≡ and_share (front_share o i) (shares_at k (suc o) (drop (share_size (front_share o i)) i))
unfolding shares_at
shares_more k o i = refl

pub shares_done : (o : ℕ) (i : List ℕ) → shares_at zero o i ≡ record { shares = []; rest = i }
unfolding shares_at
shares_done o i = refl

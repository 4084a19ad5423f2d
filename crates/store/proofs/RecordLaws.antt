-- One record: read where it was written, and written where it was read. With BodyLaws and HeadLaws, all that knows its
-- bytes.
-- Assumes nothing.
use mathlib.Core.Bool.{Bool, true, false, not, ◌&&◌, ◌||◌}
use mathlib.Core.List.{List, [], ◌∷◌, ◌++◌, append_assoc}
use mathlib.Core.Option.{Option, none, some}
use mathlib.Core.Path.{◌≡◌, refl, sym, ap, ap₂, ◌∙◌, subst}
use Prim.Native.Nat.{ℕ, zero, suc, ◌+◌, ◌≤◌, ◌<◌}
use native.Mathlib.Omega.{arith}
use lib.Dec.{eqb, leb}
use lib.ListN.{length, get_or, take, drop, replicate, length-append, length-drop}
use lib.Seq.{drop_at, drop-drop, drop-cons, length-take-le}
use borrow.Author.Tests.{eq-eqb, ne_eqb, lt-leb, le-leb, leb-true, eqb-true, eqb-false}
use Rattle.text.specs.Bytes.{pick}
use Rattle.text.specs.Uuid.{big_endian}
use Rattle.store.specs.declared.records.Body.{Body}
use Rattle.store.specs.declared.records.Head.{Head}
use Rattle.store.specs.declared.records.Kind.{Kind}
use Rattle.store.specs.Decode.{body_at, kind, kind_at, body_of, is_whole, head_with, no_head, head_by, head_at, head_fits}
use Rattle.store.specs.Held.{Key, Held, is_long, size_by, record_size, line_max, text_max}
use Rattle.store.specs.Layout.{Bytes, Proper, Shape, kind_by, kind_bytes, offset_width, record_bytes, record_of}
use Rattle.store.specs.Inner.{be8, body_size, body_bytes_of, head_of, Sized, size_of}
use Rattle.store.proofs.BodyLaws.{body_bytes, body_small, long_told, body_read, length_body, bytes_behind, offset_is, be8_is}
use Rattle.store.proofs.BoolLaws.{and_left, and_right, and_both, and_false_left, and_false_right, not_or}

-- what stands at the front. From here on to the end of `record_put` is what depends on the record's form.
abbrev pub kind_size : ℕ → Bool → ℕ
kind_size o long = length (kind_by o long)

pub kind_size_lem : (o : ℕ) (long : Bool) → kind_size o long + body_size long ≡ size_by o long
kind_size_lem o = go (eqb o 0)
  where
    go : (b long : Bool)
        → length (pick long (pick b (2 ∷ []) (5 ∷ o ∷ [])) (pick b (1 ∷ []) (3 ∷ o ∷ []))) + body_size long
        ≡ pick long (pick b 23 24) (pick b 21 22)
    go true true = refl
    go true false = refl
    go false true = refl
    go false false = refl

pub size_least : (o : ℕ) (long : Bool) → (21 ≤ size_by o long) × (size_by o long ≤ 24)
size_least o = go (eqb o 0)
  where
    go : (b long : Bool)
        → (21 ≤ pick long (pick b 23 24) (pick b 21 22)) × (pick long (pick b 23 24) (pick b 21 22) ≤ 24)
    go true true = (omega arith, omega arith)
    go true false = (omega arith, omega arith)
    go false true = (omega arith, omega arith)
    go false false = (omega arith, omega arith)

pub kind_owned : (o : ℕ) (long : Bool) → (o ≡ 0 → ⊥) → kind_by o long ≡ pick long 5 3 ∷ o ∷ []
kind_owned o true n = ap (λ (b : Bool). pick b (2 ∷ []) (5 ∷ o ∷ [])) (ne_eqb o 0 n)
kind_owned o false n = ap (λ (b : Bool). pick b (1 ∷ []) (3 ∷ o ∷ [])) (ne_eqb o 0 n)

pub kind_hall : (o : ℕ) (long : Bool) → o ≡ 0 → kind_by o long ≡ pick long 2 1 ∷ []
kind_hall o true n = ap (λ (b : Bool). pick b (2 ∷ []) (5 ∷ o ∷ [])) (eq-eqb o 0 n)
kind_hall o false n = ap (λ (b : Bool). pick b (1 ∷ []) (3 ∷ o ∷ [])) (eq-eqb o 0 n)

-- Layout's record is the kind and the body
abbrev body_for : Key → ℕ → ℕ → List ℕ
body_for k off len = body_bytes_of (is_long off) k.uuid off len

pub record_is : (k : Key) (off len : ℕ) → record_bytes k off len ≡ kind_bytes k.owner off ++ body_for k off len
unfolding record_bytes body_bytes_of
record_is k off len =
    ap (λ (q : List ℕ). kind_bytes k.owner off ++ q)
    (append_assoc (big_endian 8 k.uuid.high) (big_endian 8 k.uuid.low) (offset ++ big_endian 2 len)
    ∙ ap₂ (λ (a b : List ℕ). a ++ (b ++ (offset ++ big_endian 2 len))) (sym (be8_is k.uuid.high))
    (sym (be8_is k.uuid.low))
    ∙ ap (λ (q : List ℕ). be8 k.uuid.high ++ (be8 k.uuid.low ++ (q ++ big_endian 2 len))) (sym (offset_is (is_long off) off))
    ∙ unfold big_endian in refl)
  where
    offset : List ℕ
    offset = big_endian (offset_width (is_long off)) off

-- the kind that an index's front tells
pub data Kinds (i : List ℕ) (k : Kind) : Type 0 where
  hall : get_or i 0 0 ≡ pick k.long 2 1 → k.owner ≡ 0 → Kinds i k
  owned : get_or i 0 0 ≡ pick k.long 5 3 → k.owner ≡ get_or i 1 0 → (k.owner ≡ 0 → ⊥) → Kinds i k

pub some_is : (a b : Kind) → ◌≡◌ {A = Option Kind} (some a) (some b) → a ≡ b
some_is a b e = cc

none-some : {A : Type 0} (b : Kind) → ◌≡◌ {A = Option Kind} none (some b) → A
none-some b e = let z : ◌≡◌ {A = ℕ} 0 1 = cc in absurd (omega arith)

-- one test of `kind_at`
data Told (b : Bool) (a : Kind) (o : Option Kind) (k : Kind) : Type 0 where
  here : b ≡ true → a ≡ k → Told b a o k
  there : o ≡ some k → Told b a o k

told : (b : Bool) (a : Kind) (o : Option Kind) (k : Kind) → pick b (some a) o ≡ some k → Told b a o k
told true a o k e = here refl (some_is a k e)
told false a o k e = there e

module _ (i : List ℕ) (k : Kind) where
  abbrev x : ℕ
  x = get_or i 0 0

  abbrev y : ℕ
  y = get_or i 1 0

  abbrev fifth : Option Kind
  fifth = pick (eqb x 5 && leb 1 y) (some (kind y true)) none

  abbrev third : Option Kind
  third = pick (eqb x 3 && leb 1 y) (some (kind y false)) fifth

  abbrev second : Option Kind
  second = pick (eqb x 2) (some (kind 0 true)) third

  organiser : (long : Bool) → eqb x (pick long 5 3) && leb 1 y ≡ true → Kinds i (kind y long)
  organiser long p =
      let l : 1 ≤ y = leb-true 1 y (and_right (eqb x (pick long 5 3)) (leb 1 y) p) in
      owned (eqb-true x (pick long 5 3) (and_left (eqb x (pick long 5 3)) (leb 1 y) p)) refl (λ z. omega (arith, z, l))

  kind5 : Told (eqb x 5 && leb 1 y) (kind y true) none k → Kinds i k
  kind5 (here p q) = subst (λ (n : Kind). Kinds i n) q (organiser true p)
  kind5 (there q) = none-some k q

  kind3 : Told (eqb x 3 && leb 1 y) (kind y false) fifth k → Kinds i k
  kind3 (here p q) = subst (λ (n : Kind). Kinds i n) q (organiser false p)
  kind3 (there q) = kind5 (told (eqb x 5 && leb 1 y) (kind y true) none k q)

  kind2 : Told (eqb x 2) (kind 0 true) third k → Kinds i k
  kind2 (here p q) = subst (λ (n : Kind). Kinds i n) q (hall (eqb-true x 2 p) refl)
  kind2 (there q) = kind3 (told (eqb x 3 && leb 1 y) (kind y false) fifth k q)

  kind1 : Told (eqb x 1) (kind 0 false) second k → Kinds i k
  kind1 (here p q) = subst (λ (n : Kind). Kinds i n) q (hall (eqb-true x 1 p) refl)
  kind1 (there q) = kind2 (told (eqb x 2) (kind 0 true) third k q)

  pub kinds : kind_at i ≡ some k → Kinds i k
  unfolding kind_at
  kinds e = kind1 (told (eqb x 1) (kind 0 false) second k e)

-- the kind that is told is the one that was written
pub front_kind : (o : ℕ) (long : Bool) (s : List ℕ) → kind_at (kind_by o long ++ s) ≡ some (kind o long)
unfolding kind_at
front_kind o long s = go (eqb o 0) refl long
  where
    go : (b : Bool) → eqb o 0 ≡ b → (long : Bool)
        → kind_at (pick long (pick b (2 ∷ []) (5 ∷ o ∷ [])) (pick b (1 ∷ []) (3 ∷ o ∷ [])) ++ s) ≡ some (kind o long)
    go true e true = ap (λ (n : ℕ). some (kind n true)) (sym (eqb-true o 0 e))
    go true e false = ap (λ (n : ℕ). some (kind n false)) (sym (eqb-true o 0 e))
    go false e true =
        let n : o ≡ 0 → ⊥ = eqb-false o 0 e in
        let l : 1 ≤ o = omega (arith, n) in
        ap (λ (b : Bool). pick b (some (kind o true)) none) (le-leb 1 o l)
    go false e false =
        let n : o ≡ 0 → ⊥ = eqb-false o 0 e in
        let l : 1 ≤ o = omega (arith, n) in
        ap (λ (b : Bool). pick b (some (kind o false)) none) (le-leb 1 o l)

module _ (i : List ℕ) where
  pub head_none : kind_at i ≡ none → no_head ≡ head_at i
  unfolding head_at
  head_none e = ap (head_by i) (sym e)

  pub head_cut : (k : Kind) → kind_at i ≡ some k → is_whole i k ≡ false → no_head ≡ head_at i
  unfolding head_at
  head_cut k e l =
      sym (ap (head_by i) e ∙ ap (λ (b : Bool). pick b (head_with k (body_of i k)) no_head) l)

  pub head_whole : (k : Kind) → kind_at i ≡ some k → is_whole i k ≡ true → head_at i ≡ head_with k (body_of i k)
  unfolding head_at
  head_whole k e l =
      ap (head_by i) e ∙ ap (λ (b : Bool). pick b (head_with k (body_of i k)) no_head) l

  pub whole_long : (k : Kind) → is_whole i k ≡ true → size_by k.owner k.long ≤ length i
  whole_long k e = leb-true _ _ (and_left (leb (size_by k.owner k.long) (length i)) _ e)

  pub whole_needed : (k : Kind) → is_whole i k ≡ true → not k.long || is_long (body_of i k).off ≡ true
  whole_needed k e = and_right (leb (size_by k.owner k.long) (length i)) _ e

  -- a record that stands there is whole
  record Stands : Type 0 where
    kind : Kind
    told : kind_at i ≡ some kind
    whole : is_whole i kind ≡ true
    is : head_at i ≡ head_with kind (body_of i kind)

  -- nothing stands there, or a record
  data Standing : Type 0 where
    empty : head_at i ≡ no_head → Standing
    one : Stands → Standing

  standing : Standing
  standing = go (kind_at i) refl
    where
      fits : (k : Kind) (b : Bool) → is_whole i k ≡ b → kind_at i ≡ some k → Standing
      fits k true p e = one (record { kind = k; told = e; whole = p; is = head_whole k e p })
      fits k false p e = empty (sym (head_cut k e p))

      go : (w : Option Kind) → kind_at i ≡ w → Standing
      go none e = empty (sym (head_none e))
      go (some k) e = fits k (is_whole i k) refl e

  stands : ((head_at i).size ≡ 0 → ⊥) → Stands
  stands n = go standing
    where
      go : Standing → Stands
      go (one s) = s
      go (empty e) = absurd (n (ap (λ (h : Head). h.size) e))

  pub head_least : ((head_at i).size ≡ 0 → ⊥) → 21 ≤ (head_at i).size
  head_least n =
      let s : Stands = stands n in
      omega (arith, ap (λ (h : Head). h.size) s.is, (size_least s.kind.owner s.kind.long).0)

  pub head_within : (head_at i).size ≤ length i
  head_within = go standing
    where
      go : Standing → (head_at i).size ≤ length i
      go (one s) = omega (arith, whole_long s.kind s.whole, ap (λ (h : Head). h.size) s.is)
      go (empty e) = omega (arith, ap (λ (h : Head). h.size) e)

  -- an owner that is told is a byte, and its kind stands at the front
  owner_below : Bytes i → (k : Kind) → Kinds i k → k.owner < 256
  owner_below b k (hall x e) = omega (arith, e)
  owner_below b k (owned x e n) = omega (arith, e, b 1)

  kind_front : (k : Kind) → Kinds i k → 2 ≤ length i
      → i ≡ kind_by k.owner k.long ++ drop (kind_size k.owner k.long) i
  kind_front k (hall x e) l =
      drop-cons i 0 0 (omega (arith, l)) ∙ ap (λ (y : ℕ). y ∷ drop 1 i) x
      ∙ ap (λ (q : List ℕ). q ++ drop (length q) i) (sym (kind_hall k.owner k.long e))
  kind_front k (owned x e n) l =
      drop-cons i 0 0 (omega (arith, l))
      ∙ ap₂ (λ (y : ℕ) (q : List ℕ). y ∷ q) x
      (drop-cons i 1 0 (omega (arith, l)) ∙ ap (λ (y : ℕ). y ∷ drop 2 i) (sym e))
      ∙ ap (λ (q : List ℕ). q ++ drop (length q) i) (sym (kind_owned k.owner k.long n))

  module _ (b : Bytes i) (n : (head_at i).size ≡ 0 → ⊥) where
    pub head_proper : Proper (head_at i).key
    head_proper =
        let s : Stands = stands n in
        let k : Kind = s.kind in
        subst (λ (h : Head). Proper h.key) (sym s.is)
        (record {
          owner = owner_below b k (kinds i k s.told);
          uuid = body_small (drop (kind_size k.owner k.long) i) (bytes_behind i (kind_size k.owner k.long) b) k.long;
        })

    -- the record of its line
    pub read_back : (l : List ℕ) → length l ≡ (head_at i).len
        → i ≡ record_of (head_at i).off (record { key = (head_at i).key; line = l }) ++ drop (head_at i).size i
    read_back l e =
        let s : Stands = stands n in
        let k : Kind = s.kind in
        let o : ℕ = k.owner in
        let long : Bool = k.long in
        let d : List ℕ = drop (kind_size o long) i in
        let bytes : Bytes d = bytes_behind i (kind_size o long) b in
        let e' : (body_at long d).len ≡ length l = sym (e ∙ ap (λ (h : Head). h.len) s.is) in
        let two : 2 ≤ length i = omega (arith, whole_long k s.whole, (size_least o long).0) in
        let enough : body_size long ≤ length d
        = omega (arith, whole_long k s.whole, kind_size_lem o long, length-drop (kind_size o long) i) in
        let rest : drop (body_size long) d ≡ drop (size_by o long) i
        = drop-drop (body_size long) (kind_size o long) i ∙ ap (λ (x : ℕ). drop x i) (kind_size_lem o long) in
        let body : List ℕ = body_bytes_of long (body_at long d).uuid (body_at long d).off (length l) in
        let own : d ≡ body ++ drop (size_by o long) i
        = body_bytes d bytes long enough
        ∙ ap₂ (λ (m : ℕ) (q : List ℕ). body_bytes_of long (body_at long d).uuid (body_at long d).off m ++ q) e' rest in
        let told : is_long (body_at long d).off ≡ long = long_told d bytes long (whole_needed k s.whole) in
        kind_front k (kinds i k s.told) two
        ∙ ap (λ (q : List ℕ). kind_by o long ++ q) own
        ∙ sym (append_assoc (kind_by o long) body (drop (size_by o long) i))
        ∙ ap (λ (w : Bool). (kind_by o w ++ body_bytes_of w (body_at long d).uuid (body_at long d).off (length l))
        ++ drop (size_by o long) i) (sym told)
        ∙ ap (λ (h : Head). (kind_bytes h.key.owner h.off ++ body_for h.key h.off (length l)) ++ drop h.size i) (sym s.is)
        ∙ ap (λ (q : List ℕ). q ++ drop (head_at i).size i) (sym (record_is (head_at i).key (head_at i).off (length l)))

pub length-record : (k : Key) (off len : ℕ) → length (record_bytes k off len) ≡ record_size k.owner off
length-record k off len =
    ap length (record_is k off len) ∙ length-append (kind_bytes k.owner off) (body_for k off len)
    ∙ ap (λ (x : ℕ). kind_size k.owner (is_long off) + x) (length_body (is_long off) k.uuid off len)
    ∙ kind_size_lem k.owner (is_long off)

-- a record that was written reads as it was
module _ (off : ℕ) (h : Held) (s : Shape h) (below : off ≤ text_max) (r : List ℕ) where
  pub head_record : head_at (record_of off h ++ r) ≡ head_of off h
  head_record =
      let long : Bool = is_long off in
      let k : Kind = kind h.key.owner long in
      let body : List ℕ = body_for h.key off (length h.line) in
      let i : List ℕ = kind_by h.key.owner long ++ (body ++ r) in
      let enough : size_by h.key.owner long ≤ length i
      = omega (
        arith,
        length-append (kind_by h.key.owner long) (body ++ r),
        length-append body r,
        length_body long h.key.uuid off (length h.line),
        kind_size_lem h.key.owner long,
      ) in
      let read : body_of i k ≡ record { uuid = h.key.uuid; off = off; len = length h.line }
      = ap (body_at long) (drop_at (kind_by h.key.owner long) (body ++ r) _ refl)
      ∙ body_read long h.key.uuid off (length h.line) r s.key.uuid refl (omega (arith, below)) (omega (arith, s.most)) in
      let needed : not long || is_long (body_of i k).off ≡ true
      = ap (λ (b : Body). not long || is_long b.off) read ∙ not_or long in
      ap (λ (q : List ℕ). head_at (q ++ r)) (record_is h.key off (length h.line))
      ∙ ap head_at (append_assoc (kind_by h.key.owner long) body r)
      ∙ head_whole i k (front_kind h.key.owner long (body ++ r)) (and_both _ _ (le-leb _ _ enough) needed)
      ∙ ap (head_with k) read
      ∙ ap (λ (n : ℕ). record { size = n; key = h.key; off = off; len = length h.line })
      (sym (length-record h.key off (length h.line)))

  pub drop-record : drop (size_of off h) (record_of off h ++ r) ≡ r
  drop-record = drop_at (record_of off h) r _ refl

pub size_some : (off : ℕ) (h : Held) → 1 ≤ size_of off h
size_some off h = omega (arith, length-record h.key off (length h.line), (size_least h.key.owner (is_long off)).0)

pub head_zeros : (a : ℕ) → head_at (replicate a 0) ≡ no_head
unfolding head_at kind_at
head_zeros zero = refl
head_zeros (suc a) = refl

-- a record is written: the body behind kind and owner, then these
pub record_fits : (d : List ℕ) (k : Key) (off len : ℕ) → length (record_bytes k off len) ≤ length d
    → kind_size k.owner (is_long off) + body_size (is_long off) ≤ length d
record_fits d k off len m = omega (arith, m, length-record k off len, kind_size_lem k.owner (is_long off))

module _ (d p : List ℕ) (k : Key) (off len : ℕ) (m : length (record_bytes k off len) ≤ length d) where
  abbrev long : Bool
  long = is_long off

  abbrev body : List ℕ
  body = body_for k off len

  -- what is written, where the bytes in front of the body are those of the kind
  put_so : (q : List ℕ)
      → q ≡ kind_by k.owner long ++ (body ++ drop (body_size long) (drop (kind_size k.owner long) d))
      → q ≡ record_bytes k off len ++ drop (length (record_bytes k off len)) d
  put_so q e =
      e ∙ sym (append_assoc (kind_by k.owner long) body (drop (body_size long) (drop (kind_size k.owner long) d)))
      ∙ ap₂ (λ (x y : List ℕ). x ++ y) (sym (record_is k off len))
      (drop-drop (body_size long) (kind_size k.owner long) d
      ∙ ap (λ (x : ℕ). drop x d) (kind_size_lem k.owner long ∙ sym (length-record k off len)))

  -- the kind is written over the bytes in front of the body
  pub record_put : p ≡ take (kind_size k.owner long) d ++ (body ++ drop (body_size long) (drop (kind_size k.owner long) d))
      → kind_by k.owner long ++ drop (kind_size k.owner long) p
      ≡ record_bytes k off len ++ drop (length (record_bytes k off len)) d
  record_put e =
      put_so _ (ap (λ (x : List ℕ). kind_by k.owner long ++ drop (kind_size k.owner long) x) e
      ∙ ap (λ (x : List ℕ). kind_by k.owner long ++ x)
      (drop_at (take (kind_size k.owner long) d) (body ++ drop (body_size long) (drop (kind_size k.owner long) d)) _
      (length-take-le (kind_size k.owner long) d (omega (arith, record_fits d k off len m)))))

-- `record_size`
pub size_sized : (k : Key) (off n : ℕ) → n ≡ record_size k.owner off → Sized k off n
size_sized k off n e len = e ∙ sym (length-record k off len)

-- the tests of `head_fits`
module _ (off : ℕ) (h : Head) (n : ℕ) where
  pub fits_offset : (h.off ≡ off → ⊥) → false ≡ head_fits off h n
  unfolding head_fits
  fits_offset e = sym (and_false_left _ _ (ne_eqb _ off e))

  pub fits_none : h.len < 1 → false ≡ head_fits off h n
  unfolding head_fits
  fits_none e = sym (and_false_right (eqb h.off off) _ (and_false_left _ _ (lt-leb 1 _ e)))

  pub fits_most : line_max < h.len → false ≡ head_fits off h n
  unfolding head_fits
  fits_most e = sym (and_false_right (eqb h.off off) _
      (and_false_right (leb 1 h.len) _ (and_false_left _ _ (lt-leb _ line_max e))))

  pub fits_room : h.off ≡ off → 1 ≤ h.len → h.len ≤ line_max → leb h.len n ≡ head_fits off h n
  unfolding head_fits
  fits_room a b d = rw (eq-eqb _ off a, le-leb 1 _ b, le-leb _ line_max d)

  -- what passing the tests says
  pub record Fits : Type 0 where
    pub offset : h.off ≡ off
    pub some : 1 ≤ h.len
    pub most : h.len ≤ line_max
    pub text : h.len ≤ n

  pub fits_of : head_fits off h n ≡ true → Fits
  unfolding head_fits
  fits_of e =
      let e2 : leb 1 h.len && (leb h.len line_max && leb h.len n) ≡ true = and_right (eqb h.off off) _ e in
      let e3 : leb h.len line_max && leb h.len n ≡ true = and_right (leb 1 h.len) _ e2 in
      record {
        offset = eqb-true _ off (and_left (eqb h.off off) _ e);
        some = leb-true 1 _ (and_left (leb 1 h.len) _ e2);
        most = leb-true _ line_max (and_left (leb h.len line_max) (leb h.len n) e3);
        text = leb-true _ n (and_right (leb h.len line_max) (leb h.len n) e3);
      }

  pub fits_all : Fits → head_fits off h n ≡ true
  unfolding head_fits
  fits_all f = and_both _ _ (eq-eqb _ off f.offset)
      (and_both _ _ (le-leb 1 _ f.some) (and_both _ _ (le-leb _ line_max f.most) (le-leb _ n f.text)))

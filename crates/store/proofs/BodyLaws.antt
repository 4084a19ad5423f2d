-- The body of a record: read where it was written, and written where it was read.
-- Assumes nothing.
use mathlib.Core.Bool.{Bool, true, false, not, ◌||◌}
use mathlib.Core.List.{List, [], ◌∷◌, ◌++◌}
use mathlib.Core.Path.{◌≡◌, refl, sym, ap, ap₂, ◌∙◌, subst}
use Prim.Native.Nat.{ℕ, zero, suc, ◌+◌, ◌*◌, ◌/◌, ◌%◌, ◌≤◌, ◌<◌}
use native.Mathlib.Omega.{arith}
use lib.ListN.{length, get_or, take, drop, take-append-drop}
use lib.Seq.{get_or-drop}
use borrow.Author.Tests.{le-ltb, ltb-false}
use Rattle.text.specs.Bytes.{written}
use Rattle.text.specs.Uuid.{Small, big_endian}
use Rattle.text.specs.declared.uuid.Uuid.{Uuid}
use Rattle.store.specs.declared.records.Body.{Body}
use Rattle.store.specs.Decode.{word, word4, word8, offset_at, body_at}
use Rattle.store.specs.Held.{short_max, is_long}
use Rattle.store.specs.Layout.{Bytes, offset_width}
use Rattle.store.specs.Inner.{be2, be4, be8, body_size, offset_bytes, body_bytes_of}
use Rattle.store.proofs.BufferLaws.{written_next}

-- numbers written and read
two : (x : ℕ) → 256 * (x / 256 % 256) + x % 256 ≡ x % 65536
two x = omega arith

pub four : (x : ℕ) → 65536 * (256 * (x / 65536 / 256 % 256) + x / 65536 % 256) + (256 * (x / 256 % 256) + x % 256)
    ≡ x % 4294967296
four x = ap₂ (λ (a b : ℕ). 65536 * a + b) (two (x / 65536)) (two x) ∙ omega arith

eight : (x : ℕ) → x < 18446744073709551616 → word8 (be8 x) 0 ≡ x
eight x l = ap₂ (λ (a b : ℕ). 4294967296 * a + b) (four (x / 4294967296)) (four x) ∙ omega arith

-- bytes read and written
be2_low : (a b : ℕ) → be2 (65536 * a + b) ≡ be2 b
be2_low a b = ap₂ (λ (x y : ℕ). x ∷ y ∷ []) (omega arith) (omega arith)

be4_low : (a b : ℕ) → be4 (4294967296 * a + b) ≡ be4 b
be4_low a b =
    let e : (4294967296 * a + b) / 65536 ≡ 65536 * a + b / 65536 = omega arith in
    let f : 4294967296 * a + b ≡ 65536 * (65536 * a) + b = omega arith in
    ap₂ (λ (x y : List ℕ). x ++ y) (ap be2 e ∙ be2_low a (b / 65536)) (ap be2 f ∙ be2_low (65536 * a) b)

module _ (s : List ℕ) (b : Bytes s) where
  pub word_below : (k : ℕ) → word s k < 65536
  word_below k = omega (arith, b k, b (k + 1))

  pub word4_below : (k : ℕ) → word4 s k < 4294967296
  word4_below k = omega (arith, word_below k, word_below (k + 2))

  pub word8_below : (k : ℕ) → word8 s k < 18446744073709551616
  word8_below k = omega (arith, word4_below k, word4_below (k + 4))

  pub be2_of : (k : ℕ) → be2 (word s k) ≡ get_or s k 0 ∷ get_or s (k + 1) 0 ∷ []
  be2_of k =
      let a : get_or s k 0 < 256 = b k in
      let d : get_or s (k + 1) 0 < 256 = b (k + 1) in
      ap₂ (λ (x y : ℕ). x ∷ y ∷ []) (omega arith) (omega arith)

  pub be4_of : (k : ℕ) → be4 (word4 s k) ≡ be2 (word s k) ++ be2 (word s (k + 2))
  be4_of k =
      let w : word s (k + 2) < 65536 = word_below (k + 2) in
      let e : (65536 * word s k + word s (k + 2)) / 65536 ≡ word s k = omega arith in
      ap₂ (λ (x y : List ℕ). x ++ y) (ap be2 e) (be2_low (word s k) (word s (k + 2)))

  be8_of : (k : ℕ) → be8 (word8 s k) ≡ be4 (word4 s k) ++ be4 (word4 s (k + 4))
  be8_of k =
      let w : word4 s (k + 4) < 4294967296 = word4_below (k + 4) in
      let e : (4294967296 * word4 s k + word4 s (k + 4)) / 4294967296 ≡ word4 s k = omega arith in
      ap₂ (λ (x y : List ℕ). x ++ y) (ap be4 e) (be4_low (word4 s k) (word4 s (k + 4)))

-- the first n entries of a list, one by one
abbrev entries : ℕ → (ℕ → ℕ) → List ℕ
entries zero f = []
entries (suc n) f = f zero ∷ entries n (λ k. f (suc k))

entries_of_lem : (n : ℕ) (s : List ℕ) → n ≤ length s → take n s ≡ entries n (λ k. get_or s k 0)
entries_of_lem zero s l = refl
entries_of_lem (suc n) [] l = absurd (omega arith)
entries_of_lem (suc n) (x ∷ s) l = ap (λ (q : List ℕ). x ∷ q) (entries_of_lem n s (omega arith))

-- a body read is the one written, and written is the one read
module _ (s : List ℕ) (b : Bytes s) where
  bytes4 : (k : ℕ) → be4 (word4 s k)
      ≡ (get_or s k 0 ∷ get_or s (k + 1) 0 ∷ []) ++ (get_or s (k + 2) 0 ∷ get_or s (k + 2 + 1) 0 ∷ [])
  bytes4 k = be4_of s b k ∙ ap₂ (λ (x y : List ℕ). x ++ y) (be2_of s b k) (be2_of s b (k + 2))

  bytes8 : (k : ℕ) → be8 (word8 s k)
      ≡ ((get_or s k 0 ∷ get_or s (k + 1) 0 ∷ []) ++ (get_or s (k + 2) 0 ∷ get_or s (k + 2 + 1) 0 ∷ [])) ++
      ((get_or s (k + 4) 0 ∷ get_or s (k + 4 + 1) 0 ∷ []) ++ (get_or s (k + 4 + 2) 0 ∷ get_or s (k + 4 + 2 + 1) 0 ∷ []))
  bytes8 k = be8_of s b k ∙ ap₂ (λ (x y : List ℕ). x ++ y) (bytes4 k) (bytes4 (k + 4))

  pub body_bytes : (long : Bool) → body_size long ≤ length s
      → s ≡ body_bytes_of long (body_at long s).uuid (body_at long s).off (body_at long s).len ++ drop (body_size long) s
  unfolding body_bytes_of body_at
  body_bytes false l =
      let body : entries 20 (λ k. get_or s k 0)
      ≡ be8 (word8 s 0) ++ (be8 (word8 s 8) ++ (be2 (word s 16) ++ be2 (word s 18)))
      = ap₂ (λ (x y : List ℕ). x ++ y) (sym (bytes8 0))
      (ap₂ (λ (x y : List ℕ). x ++ y) (sym (bytes8 8))
      (ap₂ (λ (x y : List ℕ). x ++ y) (sym (be2_of s b 16)) (sym (be2_of s b 18)))) in
      sym (take-append-drop 20 s) ∙ ap (λ (q : List ℕ). q ++ drop 20 s) (entries_of_lem 20 s l ∙ body)
  body_bytes true l =
      let body : entries 22 (λ k. get_or s k 0)
      ≡ be8 (word8 s 0) ++ (be8 (word8 s 8) ++ (be4 (word4 s 16) ++ be2 (word s 20)))
      = ap₂ (λ (x y : List ℕ). x ++ y) (sym (bytes8 0))
      (ap₂ (λ (x y : List ℕ). x ++ y) (sym (bytes8 8))
      (ap₂ (λ (x y : List ℕ). x ++ y) (sym (bytes4 16)) (sym (be2_of s b 20)))) in
      sym (take-append-drop 22 s) ∙ ap (λ (q : List ℕ). q ++ drop 22 s) (entries_of_lem 22 s l ∙ body)

  pub body_small : (long : Bool) → Small (body_at long s).uuid
  unfolding body_at
  body_small long = record { high = word8_below s b 0; low = word8_below s b 8 }

  -- an offset needs four bytes where it has them, if it must
  pub long_told : (long : Bool) → not long || is_long (body_at long s).off ≡ true → is_long (body_at long s).off ≡ long
  unfolding body_at
  long_told true e = e
  long_told false e = let l : word s 16 < 65536 = word_below s b 16 in le-ltb short_max (word s 16) (omega arith)

pub offset_of_body : (long : Bool) (s : List ℕ) → (body_at long s).off ≡ offset_at long s
unfolding body_at
offset_of_body long s = refl

body_eq : (a a' b b' o o' n n' : ℕ) → a ≡ a' → b ≡ b' → o ≡ o' → n ≡ n'
    → ◌≡◌ {A = Body} (record { uuid = record { high = a; low = b }; off = o; len = n })
    (record { uuid = record { high = a'; low = b' }; off = o'; len = n' })
body_eq a a' b b' o o' n n' ea eb eo en = rw (ea, eb, eo, en)

pub body_read : (long : Bool) (u : Uuid) (off len : ℕ) (r : List ℕ) → Small u → is_long off ≡ long → off < 4294967296
    → len ≤ 65535 → body_at long (body_bytes_of long u off len ++ r) ≡ record { uuid = u; off = off; len = len }
unfolding body_bytes_of body_at
body_read false u off len r w e lo ll =
    let l : off ≤ short_max = ltb-false short_max off e in
    body_eq _ _ _ _ _ _ _ _ (eight u.high w.high) (eight u.low w.low) (two off ∙ omega arith)
    (two len ∙ omega arith)
body_read true u off len r w e lo ll =
    body_eq _ _ _ _ _ _ _ _ (eight u.high w.high) (eight u.low w.low) (four off ∙ omega arith)
    (two len ∙ omega arith)

pub body_is : (long : Bool) (s : List ℕ) (a b o n : ℕ) → a ≡ word8 s 0 → b ≡ word8 s 8 → o ≡ offset_at long s
    → n ≡ word s (16 + offset_width long)
    → record { uuid = record { high = a; low = b }; off = o; len = n } ≡ body_at long s
unfolding body_at
body_is long s a b o n ea eb eo en = body_eq _ _ _ _ _ _ _ _ ea eb eo en

pub length_offset : (long : Bool) (off : ℕ) → length (offset_bytes long off) ≡ offset_width long
length_offset true off = refl
length_offset false off = refl

pub length_body : (long : Bool) (u : Uuid) (off len : ℕ) → length (body_bytes_of long u off len) ≡ body_size long
unfolding body_bytes_of
length_body true u off len = refl
length_body false u off len = refl

-- an offset written, of which only the last bytes count
pub offset_put : (off : ℕ) → be4 (off % 4294967296) ≡ be4 off
offset_put off =
    ap₂ (λ (x y : List ℕ). x ++ y)
    (ap₂ (λ (x y : ℕ). x ∷ y ∷ []) (omega arith) (omega arith))
    (ap₂ (λ (x y : ℕ). x ∷ y ∷ []) (omega arith) (omega arith))

pub body_put : (long : Bool) (d p q t v : List ℕ) (u : Uuid) (off len : ℕ) → body_size long ≤ length d
    → p ≡ written d 0 (be8 u.high) → q ≡ written p 8 (be8 u.low) → t ≡ written q 16 (offset_bytes long off)
    → (n : ℕ) → n ≡ 16 + offset_width long → v ≡ written t n (be2 len)
    → v ≡ body_bytes_of long u off len ++ drop (body_size long) d
body_put long d p q t v u off len l ep eq et n en ev =
    let a : q ≡ written d 0 (be8 u.high ++ be8 u.low) = eq ∙ ap (λ (x : List ℕ). written x 8 (be8 u.low)) ep
    ∙ written_next d 0 (be8 u.high) (be8 u.low) 8 refl (omega (arith, l)) in
    let b : t ≡ written d 0 ((be8 u.high ++ be8 u.low) ++ offset_bytes long off) = et
    ∙ ap (λ (x : List ℕ). written x 16 (offset_bytes long off)) a
    ∙ written_next d 0 (be8 u.high ++ be8 u.low) (offset_bytes long off) 16 refl (omega (arith, l)) in
    ev ∙ ap (λ (x : List ℕ). written x n (be2 len)) b ∙ last long l en
  where
    last : (long : Bool) → body_size long ≤ length d → n ≡ 16 + offset_width long
        → written (written d 0 ((be8 u.high ++ be8 u.low) ++ offset_bytes long off)) n (be2 len)
        ≡ body_bytes_of long u off len ++ drop (body_size long) d
    last true l e =
        written_next d 0 ((be8 u.high ++ be8 u.low) ++ be4 off) (be2 len) n e (omega (arith, l))
        ∙ unfold written body_bytes_of in refl
    last false l e =
        written_next d 0 ((be8 u.high ++ be8 u.low) ++ be2 off) (be2 len) n e (omega (arith, l))
        ∙ unfold written body_bytes_of in refl

pub bytes_behind : (s : List ℕ) (a : ℕ) → Bytes s → Bytes (drop a s)
bytes_behind s a b k = subst (λ (x : ℕ). x < 256) (sym (get_or-drop a s k 0)) (b (a + k))

-- a part of a list of bytes, from a place on
pub bytes_part : (s : List ℕ) (a : ℕ) (q : List ℕ) → q ≡ drop a s → Bytes s → Bytes q
bytes_part s a q e b = subst Bytes (sym e) (bytes_behind s a b)

-- the same numbers as Layout writes them
pub be4_is : (x : ℕ) → be4 x ≡ big_endian 4 x
unfolding big_endian
be4_is x =
    ap₂ (λ (a b : ℕ). a ∷ b ∷ x / 256 % 256 ∷ x % 256 ∷ []) (omega arith) (omega arith)

pub offset_is : (long : Bool) (x : ℕ) → offset_bytes long x ≡ big_endian (offset_width long) x
offset_is true x = be4_is x
offset_is false x = unfold big_endian in refl

pub be8_is : (x : ℕ) → be8 x ≡ big_endian 8 x
be8_is x = ap₂ (λ (a b : List ℕ). a ++ b) (be4_is (x / 4294967296)) (be4_is x) ∙ four_more x
  where
    four_more : (x : ℕ) → big_endian 4 (x / 4294967296) ++ big_endian 4 x ≡ big_endian 8 x
    four_more x = unfold big_endian in
        (ap (λ (y : ℕ). (y / 256 / 256 / 256 % 256) ∷ (y / 256 / 256 % 256) ∷ (y / 256 % 256) ∷
        (y % 256) ∷ big_endian 4 x) shifted)
      where
        shifted : x / 4294967296 ≡ x / 256 / 256 / 256 / 256
        shifted = omega arith

-- Laws of hexadecimal digits and of the UUID spellings.
-- Assumes nothing.
use Rattle.std.specs.Prelude.{Option, Some, None, option_and_then}
use mathlib.Core.Path.{◌≡◌, refl, ap, sym, ◌∙◌, subst}
use mathlib.Core.Bool.{Bool, true, false}
use mathlib.Core.List.{List, [], ◌∷◌, ◌++◌, append_assoc, append-nil}
use Prim.Native.Nat.{ℕ, zero, suc, ◌+◌, ◌*◌, ◌-◌, ◌/◌, ◌%◌, ◌^◌, ◌<◌, ◌≤◌}
use native.Mathlib.Nat.{pow-suc, pow-le-pow_right, lt_of_lt_of_le}
use native.Mathlib.Numerals.{add-one}
use native.Mathlib.Omega.{arith}
use borrow.Author.Tests.{lt-ltb, le-ltb, le-leb, lt-leb, leb-true}
use lib.Dec.{leb}
use lib.ListN.{length, get_or, drop, length-append}
use lib.Seq.{take_at, drop_at}
use mathlib.Core.Logic.{⊎_elim}
use Rattle.text.specs.Bytes.{pick}
use Rattle.text.specs.Uuid.{hex_digit, read_hex, simple, hyphenated, is_from, after_urn, uuid_of, Small}
use Rattle.text.specs.Uuid.{lower_digit, hex_text, uuid_text}
use Rattle.text.specs.Inner.{after, every, is_lower_hex}
use Rattle.text.specs.declared.uuid.Form.TheVariants as F
use Rattle.text.specs.declared.uuid.Uuid.{Uuid}
use Rattle.text.proofs.ListLaws.{at_next, lt_or_le, both_parts}
use Rattle.text.proofs.BytesLaws.{every-none, every_append, every_snoc}

-- a digit more than k digits
pub grown : (v d k : ℕ) → d < 16 → v < 16 ^ k → v * 16 + d < 16 ^ (k + 1)
grown v d k h l = rw (add-one, pow-suc) (omega arith)

-- fifteen digits leave room for one more
pub room : (v k : ℕ) → k ≤ 15 → v < 16 ^ k → v < 1152921504606846976
room v k h l = lt_of_lt_of_le l (pow-le-pow_right (omega arith) h)

pub hex_digit_lem : (a d v : ℕ) (ds : List ℕ) → hex_digit d ≡ Some v → read_hex a (d ∷ ds) ≡ read_hex (a * 16 + v) ds
unfolding read_hex
hex_digit_lem a d v ds e = rw e

pub hex_other : (a d : ℕ) (ds : List ℕ) → hex_digit d ≡ None → read_hex a (d ∷ ds) ≡ None
unfolding read_hex
hex_other a d ds e = rw e

-- by cases on the range of a byte
pub by_range : (P : ℕ → Type 0) (b v : ℕ) → hex_digit b ≡ Some v
    → ((48 ≤ b) → (b ≤ 57) → P (b - 48)) → ((65 ≤ b) → (b ≤ 70) → P (b - 65 + 10))
    → ((97 ≤ b) → (b ≤ 102) → P (b - 97 + 10)) → P v
unfolding hex_digit
by_range P b v e f g h = go (is_from 48 57 b) refl (is_from 65 70 b) refl (is_from 97 102 b) refl e
  where
    value : Bool → Bool → Bool → Option ℕ
    value x y z = pick x (Some (b - 48)) (pick y (Some (b - 65 + 10)) (pick z (Some (b - 97 + 10)) None))

    ends : (l k : ℕ) → is_from l k b ≡ true → (l ≤ b) × (b ≤ k)
    ends l k p = let w = both_parts (leb l b) (leb b k) p in (leb-true l b w.0, leb-true b k w.1)

    go : (x : Bool) → is_from 48 57 b ≡ x → (y : Bool) → is_from 65 70 b ≡ y → (z : Bool) → is_from 97 102 b ≡ z
        → value x y z ≡ Some v → P v
    go true p y q z r e = let n : b - 48 ≡ v = cc in let w = ends 48 57 p in subst P n (f w.0 w.1)
    go false p true q z r e = let n : b - 65 + 10 ≡ v = cc in let w = ends 65 70 q in subst P n (g w.0 w.1)
    go false p false q true r e = let n : b - 97 + 10 ≡ v = cc in let w = ends 97 102 r in subst P n (h w.0 w.1)
    go false p false q false r e = absurd (let z : ◌≡◌ {A = ℕ} 0 1 = cc in omega arith)

-- a digit is below sixteen
pub digit_small : (b v : ℕ) → hex_digit b ≡ Some v → v < 16
digit_small b v e =
    by_range (λ (n : ℕ). n < 16) b v e (λ l h. omega arith) (λ l h. omega arith) (λ l h. omega arith)

pub hex_end : (a : ℕ) → read_hex a [] ≡ Some a
unfolding read_hex
hex_end a = refl

-- what k + n digits made is below 16 ^ (k + n)
pub hex_bound : (s : List ℕ) (a v k : ℕ) → read_hex a s ≡ Some v → a < 16 ^ k → v < 16 ^ (k + length s)
unfolding read_hex
hex_bound [] a v k e h = let z : a ≡ v = cc in let q : k + 0 ≡ k = omega arith in rw (q, ← z) h
hex_bound (d ∷ ds) a v k e h = go (hex_digit d) refl e (λ x. hex_bound ds (a * 16 + x) v (k + 1))
  where
    go : (r : Option ℕ) → hex_digit d ≡ r → option_and_then (λ x. read_hex (a * 16 + x) ds) r ≡ Some v
        → ((x : ℕ) → read_hex (a * 16 + x) ds ≡ Some v → a * 16 + x < 16 ^ (k + 1) → v < 16 ^ (k + 1 + length ds))
        → v < 16 ^ (k + suc (length ds))
    go (Some x) p q f = let z : k + suc (length ds) ≡ k + 1 + length ds = omega arith in
        rw z (f x q (grown a x k (digit_small d x p) h))
    go None p q f = absurd (let z : ◌≡◌ {A = ℕ} 0 1 = cc in omega arith)

-- digits in two parts
pub hex_append : (xs ys : List ℕ) (a : ℕ) → read_hex a (xs ++ ys) ≡ after (read_hex a xs) ys
unfolding read_hex
hex_append [] ys a = refl
hex_append (d ∷ ds) ys a = go (hex_digit d) (λ x. hex_append ds ys (a * 16 + x))
  where
    go : (r : Option ℕ)
        → ((x : ℕ) → read_hex (a * 16 + x) (ds ++ ys) ≡ after (read_hex (a * 16 + x) ds) ys)
        → option_and_then (λ x. read_hex (a * 16 + x) (ds ++ ys)) r
        ≡ after (option_and_then (λ x. read_hex (a * 16 + x) ds) r) ys
    go (Some x) f = f x
    go None f = refl

-- one digit of a text: r is what a call made of the byte at i
pub hex_step : (s : List ℕ) (a i v : ℕ) (r : Option ℕ) → i < length s → r ≡ hex_digit (get_or s i 0) → r ≡ Some v
    → read_hex (a * 16 + v) (drop (i + 1) s) ≡ read_hex a (drop i s)
hex_step s a i v r h e l =
    let d : hex_digit (get_or s i 0) ≡ Some v = sym e ∙ l in
    rw (at_next s i h) (sym (hex_digit_lem a (get_or s i 0) v (drop (i + 1) s) d))

pub hex_stop : (s : List ℕ) (a i : ℕ) (r : Option ℕ) → i < length s → r ≡ hex_digit (get_or s i 0) → r ≡ None
    → read_hex a (drop i s) ≡ None
hex_stop s a i r h e l = rw (at_next s i h) (hex_other a (get_or s i 0) (drop (i + 1) s) (sym e ∙ l))

pub after-append : (h : Option ℕ) (ys zs : List ℕ) → after h (ys ++ zs) ≡ after (after h ys) zs
after-append (Some v) ys zs = hex_append ys zs v
after-append None ys zs = refl

-- three parts, and two
pub hex_three : (xs ys zs : List ℕ) → read_hex 0 (xs ++ (ys ++ zs)) ≡ after (after (read_hex 0 xs) ys) zs
hex_three xs ys zs = hex_append xs (ys ++ zs) 0 ∙ after-append (read_hex 0 xs) ys zs

-- digits that are few enough leave room
pub room_for : (xs : List ℕ) (h : Option ℕ) (n : ℕ) → h ≡ read_hex 0 xs → length xs ≤ n → (v : ℕ) → h ≡ Some v → v < 16 ^ n
room_for xs h n e l v f =
    lt_of_lt_of_le (hex_bound xs 0 v 0 (sym e ∙ f) (omega arith)) (pow-le-pow_right (omega arith) (omega arith))

-- the spellings, by their lengths
pub uuid_32 : (s : List ℕ) → length s ≡ 32 → uuid_of s ≡ simple s
unfolding uuid_of
uuid_32 s e = rw e

pub uuid_45 : (s : List ℕ) → length s ≡ 45 → uuid_of s ≡ pick (after_urn s) (hyphenated F.Urn (drop 9 s)) None
unfolding uuid_of
uuid_45 s e = rw e

-- ---- the text of a UUID
pub hex_text-length : (k n : ℕ) → length (hex_text k n) ≡ k
unfolding hex_text
hex_text-length zero n = refl
hex_text-length (suc k) n = simp (length-append, hex_text-length k (n / 16)) (omega arith)

pub hex_text_more : (k n : ℕ) → 0 < k → hex_text k n ≡ hex_text (k - 1) (n / 16) ++ (lower_digit (n % 16) ∷ [])
unfolding hex_text
hex_text_more zero n h = absurd (omega arith)
hex_text_more (suc k) n h = let q : suc k - 1 ≡ k = omega arith in rw q

pub uuid_text-length : (u : Uuid) → length (uuid_text u) ≡ 32
uuid_text-length u = simp (length-append, hex_text-length 16 u.high, hex_text-length 16 u.low)

pub hex_text-none : (n : ℕ) → hex_text 0 n ≡ []
unfolding hex_text
hex_text-none n = refl

-- a digit that is written is read back
digit_back : (d : ℕ) → d < 16 → hex_digit (lower_digit d) ≡ Some d
unfolding hex_digit
digit_back d h = ⊎_elim small large (lt_or_le d 10)
  where
    small : d < 10 → hex_digit (lower_digit d) ≡ Some d
    small l =
        let p : leb 48 (48 + d) ≡ true = le-leb 48 (48 + d) (omega arith) in
        let q : leb (48 + d) 57 ≡ true = le-leb (48 + d) 57 (omega arith) in
        simp (lt-ltb d 10 l, p, q) (ap (λ (n : ℕ). Some n) (omega arith))

    large : 10 ≤ d → hex_digit (lower_digit d) ≡ Some d
    large l =
        let n = 97 + (d - 10) in
        let p : leb 48 n ≡ true = le-leb 48 n (omega arith) in
        let q : leb n 57 ≡ false = lt-leb n 57 (omega arith) in
        let r : leb 65 n ≡ true = le-leb 65 n (omega arith) in
        let s : leb n 70 ≡ false = lt-leb n 70 (omega arith) in
        let t : leb 97 n ≡ true = le-leb 97 n (omega arith) in
        let u : leb n 102 ≡ true = le-leb n 102 (omega arith) in
        simp (le-ltb d 10 l, p, q, r, s, t, u) (ap (λ (n : ℕ). Some n) (omega arith))

hex_back : (k n : ℕ) (ds : List ℕ) → n < 16 ^ k → read_hex 0 (hex_text k n ++ ds) ≡ read_hex n ds
unfolding hex_text
hex_back zero n ds h = ap (λ (a : ℕ). read_hex a ds) (omega arith)
hex_back (suc k) n ds h =
    let p : n / 16 < 16 ^ k = omega (arith, rw (pow-suc 16 k) at h) in
    rw (append_assoc, hex_back k (n / 16) (lower_digit (n % 16) ∷ ds) p)
    (hex_digit_lem (n / 16) (lower_digit (n % 16)) (n % 16) ds (digit_back (n % 16) (omega arith))
    ∙ ap (λ (a : ℕ). read_hex a ds) (omega arith))

half_back : (n : ℕ) → n < 2 ^ 64 → read_hex 0 (hex_text 16 n) ≡ Some n
half_back n h = rw (← append-nil (hex_text 16 n)) (hex_back 16 n [] h ∙ hex_end n)

-- a UUID that is written is read back
pub uuid_back : (u : Uuid) → Small u → uuid_of (uuid_text u) ≡ Some (record { id = u; form = F.Simple })
uuid_back u small =
    let p = hex_text-length 16 u.high in
    let q = hex_text-length 16 u.low in
    uuid_32 (uuid_text u) (simp (length-append, p, q))
    ∙ rw (
      take_at (hex_text 16 u.high) (hex_text 16 u.low) 16 p,
      drop_at (hex_text 16 u.high)
          (hex_text 16 u.low) 16 p,
      half_back u.high small.high,
      half_back u.low small.low,
    )

-- ---- what is written is lower-case digits alone

digit_lower : (d : ℕ) → d < 16 → is_lower_hex (lower_digit d) ≡ true
digit_lower d h = ⊎_elim small large (lt_or_le d 10)
  where
    small : d < 10 → is_lower_hex (lower_digit d) ≡ true
    small l =
        let p : leb 48 (48 + d) ≡ true = le-leb 48 (48 + d) (omega arith) in
        let q : leb (48 + d) 57 ≡ true = le-leb (48 + d) 57 (omega arith) in
        simp (lt-ltb d 10 l, p, q)

    large : 10 ≤ d → is_lower_hex (lower_digit d) ≡ true
    large l =
        let n = 97 + (d - 10) in
        let p : leb 48 n ≡ true = le-leb 48 n (omega arith) in
        let q : leb n 57 ≡ false = lt-leb n 57 (omega arith) in
        let t : leb 97 n ≡ true = le-leb 97 n (omega arith) in
        let u : leb n 102 ≡ true = le-leb n 102 (omega arith) in
        simp (le-ltb d 10 l, p, q, t, u)

hex_text_lower : (k n : ℕ) → every is_lower_hex (hex_text k n) ≡ true
unfolding hex_text
hex_text_lower zero n = every-none is_lower_hex
hex_text_lower (suc k) n =
    every_snoc is_lower_hex (hex_text k (n / 16)) (lower_digit (n % 16)) (hex_text_lower k (n / 16))
    (digit_lower (n % 16) (omega arith))

pub uuid_text_lower : (u : Uuid) → every is_lower_hex (uuid_text u) ≡ true
uuid_text_lower u =
    every_append is_lower_hex (hex_text 16 u.high) (hex_text 16 u.low) (hex_text_lower 16 u.high)
    (hex_text_lower 16 u.low)

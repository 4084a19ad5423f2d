-- Laws of `decimal` and of what reads it back.
-- Assumes nothing.
use lib.Pointwise.{pointwise}
use Rattle.std.proofs.Common.{Bor}
use Rattle.std.specs.Prelude.{Option, Some, None, IfNone, IfSome, MatchOption, unwrap_or}
use mathlib.Core.Path.{◌≡◌, refl, ap, sym, ◌∙◌}
use mathlib.Core.Logic.{⊎_elim}
use mathlib.Core.Bool.{Bool, true, false}
use mathlib.Core.List.{List, [], ◌∷◌, ◌++◌, append_assoc, append-nil}
use Prim.Native.Nat.{ℕ, zero, suc, ◌+◌, ◌*◌, ◌-◌, ◌/◌, ◌%◌, ◌^◌, ◌<◌, ◌≤◌}
use Rattle.std.proofs.Math.Nat.{pow-zero, pow-suc, one-le-pow}
use native.Mathlib.Omega.{arith}
use borrow.Author.Tests.{lt-ltb, le-ltb, le-leb, lt-leb, eqb-true}
use lib.Dec.{leb, eqb}
use lib.ListN.{length, length-append, get_or, take, drop}
use Rattle.text.specs.Bytes.{pick}
use Rattle.text.specs.Decimal.{digits, decimal, is_digit, read_digits, unsigned, index_number}
use Rattle.text.specs.Inner.{all_digits_of}
use Rattle.text.proofs.ListLaws.{lt_or_le, both_true, off, at_next}
use Rattle.text.proofs.BytesLaws.{every-none, every_snoc}

digits_small : (k n : ℕ) → n < 10 → digits k n ≡ (48 + n % 10) ∷ []
unfolding digits
digits_small zero n h = refl
digits_small (suc k) n h = simp (lt-ltb n 10 h)

digits_more : (k n : ℕ) → 10 ≤ n → digits (suc k) n ≡ digits k (n / 10) ++ ((48 + n % 10) ∷ [])
unfolding digits
digits_more k n h = simp (le-ltb n 10 h)

-- more places than n needs change nothing
digits_enough : (k j n : ℕ) → n ≤ k → n ≤ j → digits k n ≡ digits j n
digits_enough zero j n p q = digits_small zero n (omega arith) ∙ sym (digits_small j n (omega arith))
digits_enough (suc k) zero n p q = digits_small (suc k) n (omega arith) ∙ sym (digits_small zero n (omega arith))
digits_enough (suc k) (suc j) n p q =
    ⊎_elim (λ h. digits_small (suc k) n h ∙ sym (digits_small (suc j) n h))
    (λ h. rw (digits_more k n h, digits_more j n h, digits_enough k j (n / 10) (omega arith) (omega arith)))
    (lt_or_le n 10)

pub decimal_small : (n : ℕ) → n < 10 → decimal n ≡ (48 + n % 10) ∷ []
unfolding decimal
decimal_small n h = digits_small n n h

pub decimal_more : (n : ℕ) → 10 ≤ n → decimal n ≡ decimal (n / 10) ++ ((48 + n % 10) ∷ [])
unfolding decimal
decimal_more zero h = absurd (omega arith)
decimal_more (suc k) h =
    digits_more k (suc k) h ∙ rw (digits_enough k (suc k / 10) (suc k / 10) (omega arith) (omega arith))

pub decimal_more_length : (n : ℕ) → 10 ≤ n → length (decimal n) ≡ length (decimal (n / 10)) + 1
decimal_more_length n h = rw (decimal_more n h) (simp length-append)

-- from a power of ten to below the next, a number has one digit more than the exponent says
pub decimal_power : (k n : ℕ) → 10 ^ k ≤ n → n < 10 * 10 ^ k → length (decimal n) ≡ k + 1
decimal_power zero n p q =
    let e : 10 ^ 0 ≡ 1 = pow-zero 10 in
    let h : n < 10 = omega (arith, e) in
    ap length (decimal_small n h)
decimal_power (suc k) n p q =
    let e : 10 ^ suc k ≡ 10 ^ k * 10 = pow-suc 10 k in
    let o : 1 ≤ 10 ^ k = one-le-pow k 10 (omega arith) in
    let h : 10 ≤ n = omega arith in
    let low : 10 ^ k ≤ n / 10 = omega arith in
    let high : n / 10 < 10 * 10 ^ k = omega arith in
    decimal_more_length n h ∙ omega (arith, decimal_power k (n / 10) low high)

-- the number of digits that is reckoned from a logarithm to the base ten, if there is one
pub decimal_log : (n m : ℕ) (r : Option ℕ) → IfNone r (n ≡ 0) → IfSome r (λ k. 10 ^ k ≤ n)
    → IfSome r (λ k. n < 10 * 10 ^ k) → MatchOption r (m ≡ 1) (λ k. m ≡ k + 1) → m ≡ length (decimal n)
decimal_log n m None z low high e = e ∙ sym (ap length (decimal_small n (omega (arith, z))))
decimal_log n m (Some k) z low high e = e ∙ sym (decimal_power k n low high)

-- the last k digits of n, with leading zeros
unfoldable pub last_digits : ℕ → ℕ → List ℕ
last_digits zero n = []
last_digits (suc k) n = last_digits k (n / 10) ++ ((48 + n % 10) ∷ [])

pub last_digits_length : (k n : ℕ) → length (last_digits k n) ≡ k
unfolding last_digits
last_digits_length zero n = refl
last_digits_length (suc k) n = simp length-append (omega (arith, last_digits_length k (n / 10)))

pub last_digits_none : (n : ℕ) → last_digits 0 n ≡ []
unfolding last_digits
last_digits_none n = refl

pub last_digits_more : (k n : ℕ) → 0 < k → last_digits k n ≡ last_digits (k - 1) (n / 10) ++ ((48 + n % 10) ∷ [])
unfolding last_digits
last_digits_more zero n h = absurd (omega arith)
last_digits_more (suc k) n h = let e : suc k - 1 ≡ k = omega arith in rw e refl

last_digits_of : (k n : ℕ) → n ≤ k → last_digits (length (digits k n)) n ≡ digits k n
unfolding last_digits
last_digits_of zero n h = rw (digits_small zero n (omega arith)) refl
last_digits_of (suc k) n h =
    ⊎_elim (λ q. rw (digits_small (suc k) n q) refl)
    (λ (q : 10 ≤ n).
    let e : length (digits k (n / 10) ++ ((48 + n % 10) ∷ [])) ≡ suc (length (digits k (n / 10))) =
    simp length-append (omega arith) in
    rw (digits_more k n q, e)
    (ap (λ (x : List ℕ). x ++ ((48 + n % 10) ∷ [])) (last_digits_of k (n / 10) (omega arith))))
    (lt_or_le n 10)

-- all of its digits
pub last_digits_all : (n : ℕ) → last_digits (length (decimal n)) n ≡ decimal n
unfolding decimal
last_digits_all n = last_digits_of n n (omega arith)

pick_same : (t : Bool) (x y : Option ℕ) → x ≡ y → pick t x y ≡ y
pick_same true x y e = e
pick_same false x y e = refl

-- past 65535 nothing is read any more
pub read_over : (a : ℕ) (ds : List ℕ) → 65535 < a → read_digits a ds ≡ None
unfolding read_digits
read_over a [] h = simp (lt-leb a 65535 h)
read_over a (d ∷ ds) h = pick_same (is_digit d) _ _ (read_over (a * 10 + (d - 48)) ds (omega arith))

-- a digit is read
pub read_digit : (a d : ℕ) (ds : List ℕ) → 48 ≤ d → d ≤ 57 → read_digits a (d ∷ ds) ≡ read_digits (a * 10 + (d - 48)) ds
unfolding read_digits
read_digit a d ds h l = simp (le-leb 48 d h, le-leb d 57 l)

pub read_below : (a d : ℕ) (ds : List ℕ) → d < 48 → read_digits a (d ∷ ds) ≡ None
unfolding read_digits
read_below a d ds h = simp (lt-leb 48 d h)

read_small : (k n : ℕ) (ds : List ℕ) → n < 10 → read_digits 0 (digits k n ++ ds) ≡ read_digits n ds
read_small k n ds l =
    rw (digits_small k n l)
    (read_digit 0 (48 + n % 10) ds (omega arith) (omega arith) ∙ ap (λ (a : ℕ). read_digits a ds) (omega arith))

-- what was written of n is read as n, with whatever digits follow
read_digits_lem : (k n : ℕ) (ds : List ℕ) → n ≤ k → read_digits 0 (digits k n ++ ds) ≡ read_digits n ds
read_digits_lem zero n ds h = read_small zero n ds (omega arith)
read_digits_lem (suc k) n ds h =
    ⊎_elim (read_small (suc k) n ds)
    (λ q. rw (digits_more k n q, append_assoc, read_digits_lem k (n / 10) ((48 + n % 10) ∷ ds) (omega arith))
    (read_digit (n / 10) (48 + n % 10) ds (omega arith) (omega arith) ∙ ap (λ (a : ℕ). read_digits a ds) (omega arith)))
    (lt_or_le n 10)

-- whatever is read with no sign is read the same where a sign may stand
pub plain : (s : List ℕ) (n : ℕ) → unsigned s ≡ Some n → index_number s ≡ Some n
unfolding unsigned index_number
plain [] n e = e
plain (b ∷ bs) n e = go (eqb b 43) refl
  where
    go : (t : Bool) → eqb b 43 ≡ t → pick t (unsigned bs) (unsigned (b ∷ bs)) ≡ Some n
    go true h = let z : None ≡ Some n = sym (read_below 0 b bs (omega (arith, eqb-true b 43 h))) ∙ e in cc
    go false h = e

pub unsigned_all : (s : List ℕ) → 0 < length s → unsigned s ≡ read_digits 0 s
unfolding unsigned
unsigned_all [] h = absurd (omega arith)
unsigned_all (b ∷ bs) h = refl

pub decimal_positive : (n : ℕ) → 0 < length (decimal n)
decimal_positive n =
    ⊎_elim (λ h. rw (decimal_small n h) (omega arith)) (λ h. omega (arith, decimal_more_length n h)) (lt_or_le n 10)

-- an index that is written is read back
pub read_back : (n : ℕ) → n ≤ 65535 → index_number (decimal n) ≡ Some n
unfolding decimal read_digits
read_back n h =
    plain (decimal n) n
    (unsigned_all (decimal n) (decimal_positive n)
    ∙ rw (← append-nil (decimal n)) (read_digits_lem n n [] (omega arith) ∙ simp (le-leb n 65535 h)))

-- the end
pub read_end : (a : ℕ) → a ≤ 65535 → read_digits a [] ≡ Some a
unfolding read_digits
read_end a h = simp (le-leb a 65535 h)

-- a digit that takes the number over the largest
pub read_past : (s : List ℕ) (a i : ℕ) → read_digits a (drop i s) ≡ unsigned s → i < length s → 48 ≤ get_or s i 0
    → get_or s i 0 ≤ 57 → 65535 < a * 10 + (get_or s i 0 - 48) → None ≡ unsigned s
read_past s a i e h l u o =
    let d = get_or s i 0 in
    sym (read_over (a * 10 + (d - 48)) (drop (i + 1) s) o) ∙ sym (read_digit a d (drop (i + 1) s) l u)
    ∙ sym (ap (read_digits a) (at_next s i h)) ∙ e

-- what is read after one `+`, or of the whole
pub index_strip : (s : List ℕ) (whole : Bor (List ℕ)) (r : Option (Bor (List ℕ))) → whole.now ≡ s
    → MatchOption r (pointwise eqb (take 1 s) (43 ∷ []) ≡ false)
    (λ x. (pointwise eqb (take 1 s) (43 ∷ []) ≡ true) × (x.now ≡ drop 1 s) × (length x.now + 1 ≡ length s))
    → unsigned (unwrap_or r whole).now ≡ index_number s
unfolding unsigned index_number
index_strip [] whole None e m = rw e refl
index_strip (b ∷ bs) whole None e m = let z : eqb b 43 ≡ false = sym (both_true (eqb b 43)) ∙ m in rw (e, z) refl
index_strip [] whole (Some x) e m = absurd (off m.0)
index_strip (b ∷ bs) whole (Some x) e m =
    let z : eqb b 43 ≡ true = sym (both_true (eqb b 43)) ∙ m.0 in
    let f : x.now ≡ bs = m.1 in
    rw (f, z) refl

-- ---- what is written is digits alone, so no separator of a line stands in it
digit_is : (d : ℕ) → d < 10 → is_digit (48 + d) ≡ true
digit_is d h =
    let p : leb 48 (48 + d) ≡ true = le-leb 48 (48 + d) (omega arith) in
    let q : leb (48 + d) 57 ≡ true = le-leb (48 + d) 57 (omega arith) in
    simp (p, q)

all_one : (k n : ℕ) → n < 10 → all_digits_of (digits k n) ≡ true
all_one k n h =
    rw (digits_small k n h) (every_snoc is_digit [] (48 + n % 10) (every-none is_digit) (digit_is (n % 10) (omega arith)))

all_digits : (k n : ℕ) → n ≤ k → all_digits_of (digits k n) ≡ true
all_digits zero n h = all_one zero n (omega arith)
all_digits (suc k) n h =
    ⊎_elim (all_one (suc k) n)
    (λ q. rw (digits_more k n q) (every_snoc is_digit (digits k (n / 10)) (48 + n % 10)
    (all_digits k (n / 10) (omega arith)) (digit_is (n % 10) (omega arith))))
    (lt_or_le n 10)

pub decimal_all : (n : ℕ) → all_digits_of (decimal n) ≡ true
unfolding decimal
decimal_all n = all_digits n n (omega arith)

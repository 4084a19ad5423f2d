-- The table of key codes: its rule at each entry by one computed test, each button in it a single time and nothing else
-- but 0, and its agreement with the buttons' codes both ways. Assumes nothing.
use Prim.Native.Nat.{ℕ, zero, suc, ◌+◌, ◌≤◌, ◌<◌}
use mathlib.Core.Path.{◌≡◌, refl, ap, ◌∙◌}
use mathlib.Core.Bool.{Bool, true, false}
use mathlib.Core.Logic.{⊎_elim}
use mathlib.Core.List.{List, [], ◌∷◌}
use native.Mathlib.Omega.{arith}
use borrow.Author.Tests.{eqb-true, ne_eqb, leb-true, lt-leb, le-leb}
use lib.Dec.{leb, eqb}
use lib.ListN.{length, get_or}
use Rattle.text.specs.Bytes.{pick, both}
use Rattle.text.proofs.ListLaws.{lt_or_le, both_parts}
use Rattle.line.specs.Elements.{code_of, button_code, button_last}
use Rattle.map.specs.declared.keys.KeyTable.{KeyTable}
use Rattle.map.specs.Keys.{key_first, key_count, key_number, keys, key_table}

-- ---- a test computed over numbers that follow each other, and what it says of each of them
abbrev pub each_from : (ℕ → Bool) → ℕ → ℕ → Bool
each_from f zero k = true
each_from f (suc n) k = both (f k) (each_from f n (suc k))

pub each_at : (f : ℕ → Bool) (n k j : ℕ) → each_from f n k ≡ true → k ≤ j → j < k + n → f j ≡ true
each_at f zero k j t a b = absurd (omega arith)
each_at f (suc n) k j t a b =
    ⊎_elim (λ h. each_at f n (suc k) j (both_parts (f k) (each_from f n (suc k)) t).1 h (omega arith))
    (λ h. let q : j ≡ k = omega arith in rw q (both_parts (f k) (each_from f n (suc k)) t).0)
    (lt_or_le k j)

-- ---- the rule
-- the test: each number of a list is that of its code, the first one that of c
abbrev pub ruled : ℕ → List ℕ → Bool
ruled c [] = true
ruled c (x ∷ xs) = both (eqb x (key_number c)) (ruled (suc c) xs)

pub ruled_at : (c : ℕ) (xs : List ℕ) (i : ℕ) → ruled c xs ≡ true → i < length xs → get_or xs i 0 ≡ key_number (c + i)
ruled_at c [] i t h = absurd (omega arith)
ruled_at c (x ∷ xs) zero t h =
    let e : c ≡ c + 0 = omega arith in
    eqb-true x (key_number c) (both_parts (eqb x (key_number c)) (ruled (suc c) xs) t).0
    ∙ ap (λ (k : ℕ). key_number k) e
ruled_at c (x ∷ xs) (suc i) t h =
    let e : suc c + i ≡ c + suc i = omega arith in
    ruled_at (suc c) xs i (both_parts (eqb x (key_number c)) (ruled (suc c) xs) t).1 (omega arith)
    ∙ ap (λ (k : ℕ). key_number k) e

-- "The rule is proved by one argument covering all entries."
table_ruled : ruled key_first keys ≡ true
unfolding keys
table_ruled = refl

pub keys_long : length keys ≡ key_count
unfolding keys
keys_long = refl

pub key_rule : (i : ℕ) → i < key_count → get_or keys i 0 ≡ key_number (key_first + i)
key_rule i h = ruled_at key_first keys i table_ruled (rw keys_long h)

pub table_number : (t : KeyTable) (i : ℕ) → t ≡ key_table → i < key_count → get_or t.buttons i 0 ≡ key_number (key_first + i)
table_number t i e h = ap (λ (k : KeyTable). get_or k.buttons i 0) e ∙ key_rule i h

-- no code outside the table has a button
pub key_below : (c : ℕ) → c < key_first → key_number c ≡ 0
key_below c h =
    let p : leb 0x10130 c ≡ false = lt-leb 0x10130 c (omega arith) in
    let q : leb 0x10220 c ≡ false = lt-leb 0x10220 c (omega arith) in
    simp (p, q)

pub key_above : (c : ℕ) → key_first + key_count ≤ c → key_number c ≡ 0
key_above c h =
    let p : leb 0x10130 c ≡ true = le-leb 0x10130 c (omega arith) in
    let q : leb c 0x1013e ≡ false = lt-leb c 0x1013e (omega arith) in
    let r : leb 0x10220 c ≡ true = le-leb 0x10220 c (omega arith) in
    let s : leb c 0x10223 ≡ false = lt-leb c 0x10223 (omega arith) in
    simp (p, q, r, s)

-- ---- "Each button from 1 to 19 stands there a single time."
-- how often a number stands in a list
abbrev pub times_in : ℕ → List ℕ → ℕ
times_in x [] = 0
times_in x (y ∷ ys) = pick (eqb x y) (suc (times_in x ys)) (times_in x ys)

once_test : each_from (λ k. eqb (times_in k keys) 1) button_last 1 ≡ true
unfolding keys
once_test = refl

pub button_once : (k : ℕ) → 1 ≤ k → k ≤ button_last → times_in k keys ≡ 1
button_once k a b =
    eqb-true (times_in k keys) 1 (each_at (λ j. eqb (times_in j keys) 1) button_last 1 k once_test a (omega arith))

-- and nothing else but 0
small_test : each_from (λ c. leb (key_number c) button_last) key_count key_first ≡ true
small_test = refl

pub no_other : (i : ℕ) → i < key_count → get_or keys i 0 ≤ button_last
no_other i h =
    let k = key_first + i in
    let t = each_at (λ c. leb (key_number c) button_last) key_count key_first k small_test (omega arith) (omega arith) in
    rw (key_rule i h) (leb-true (key_number (key_first + i)) button_last t)

-- ---- the table and `button_code`, both ways
code_test : each_from (λ k. eqb (key_number (button_code k).0) k) button_last 1 ≡ true
code_test = refl

-- at the code of a button stands its number
pub code_button : (k : ℕ) → 1 ≤ k → k ≤ button_last → key_number (button_code k).0 ≡ k
code_button k a b =
    eqb-true (key_number (button_code k).0) k
    (each_at (λ j. eqb (key_number (button_code j).0) j) button_last 1 k code_test a (omega arith))

-- a code with a number is the code of that button
abbrev from_button : ℕ → Bool
from_button c = pick (eqb (key_number c) 0) true (eqb (button_code (key_number c)).0 c)

number_test : each_from from_button key_count key_first ≡ true
number_test = refl

number-code_in : (c : ℕ) → key_first ≤ c → c < key_first + key_count → (key_number c ≡ 0 → ⊥)
    → button_code (key_number c) ≡ code_of c
number-code_in c a b z =
    let t : from_button c ≡ true = each_at from_button key_count key_first c number_test a b in
    ap code_of (eqb-true (button_code (key_number c)).0 c (rw (ne_eqb (key_number c) 0 z) at t))

pub number-code : (c : ℕ) → (key_number c ≡ 0 → ⊥) → button_code (key_number c) ≡ code_of c
number-code c z =
    ⊎_elim (λ h. absurd (z (key_below c h)))
    (λ h. ⊎_elim (λ g. number-code_in c h g z) (λ g. absurd (z (key_above c g))) (lt_or_le c (key_first + key_count)))
    (lt_or_le c key_first)

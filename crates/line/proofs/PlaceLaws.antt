-- Laws of lists that are changed at one place, over any type of element. Assumes nothing.
use Prim.Native.Nat.{ℕ, zero, suc, ◌+◌, ◌<◌, ◌≤◌}
use mathlib.Core.Path.{◌≡◌, refl, ap}
use mathlib.Core.List.{List, [], ◌∷◌, ◌++◌, append_assoc}
use native.Mathlib.Omega.{arith}
use native.Mathlib.Numerals.{add-one}
use lib.ListN.{length, take, drop, get_or, set, length-append, length-drop, take-append-drop}
use lib.Seq.{drop-cons, take-suc, set_at, length-take-le, take-set-lt}
use lib.Seq.{drop-set-lt}

module _ {A : Type 0} where
  -- a prefix is the prefix of its own length
  pub take_own : (n : ℕ) (xs : List A) → take (length (take n xs)) xs ≡ take n xs
  take_own zero xs = refl
  take_own (suc n) [] = refl
  take_own (suc n) (x ∷ xs) = ap (λ (l : List A). x ∷ l) (take_own n xs)

  -- an element set in a prefix
  set_first : (n : ℕ) (xs : List A) (k : ℕ) (e : A) → k < n → set (take n xs) k e ++ drop n xs ≡ set xs k e
  set_first n xs k e h = rw (← take-set-lt n xs k e h, ← drop-set-lt n xs k e h) (take-append-drop n (set xs k e))

  pub set_prefix : (n : ℕ) (xs : List A) (k : ℕ) (e : A) → k < length (take n xs)
      → set (take n xs) k e ++ drop (length (take n xs)) xs ≡ set xs k e
  set_prefix n xs k e h = rw (take_own n xs) at (set_first (length (take n xs)) xs k e h)

  -- ---- an element inserted at i
  pub length_inserted : (i : ℕ) (xs : List A) (e : A) → i ≤ length xs → length (take i xs ++ e ∷ drop i xs)
      ≡ length xs + 1
  length_inserted i xs e h =
      let p = length-take-le i xs h in
      simp (length-append, length-drop) (omega arith)

  pub inserted_later : (i k : ℕ) (xs : List A) (e d : A) → i ≤ k → i ≤ length xs → get_or (take i xs ++ e ∷ drop i xs)
      (suc k) d ≡ get_or xs k d
  inserted_later zero k xs e d h l = refl
  inserted_later (suc i) zero xs e d h l = absurd (omega arith)
  inserted_later (suc i) (suc k) [] e d h l = absurd (omega arith)
  inserted_later (suc i) (suc k) (x ∷ xs) e d h l = inserted_later i k xs e d (omega arith) (omega arith)

  pub take_inserted : (i n : ℕ) (xs : List A) (e : A) → i ≤ n → take (suc n) (take i xs ++ e ∷ drop i xs)
      ≡ take i (take n xs) ++ e ∷ drop i (take n xs)
  take_inserted zero n xs e h = refl
  take_inserted (suc i) zero xs e h = absurd (omega arith)
  take_inserted (suc i) (suc n) [] e h = refl
  take_inserted (suc i) (suc n) (x ∷ xs) e h = ap (λ (l : List A). x ∷ l) (take_inserted i n xs e (omega arith))

  -- an element inserted in a prefix
  pub insert_prefix : (i n : ℕ) (xs : List A) (e : A) → i ≤ length (take n xs)
      → take (length (take n xs) + 1) (take i xs ++ e ∷ drop i xs) ≡ take i (take n xs) ++ e ∷ drop i (take n xs)
  insert_prefix i n xs e h = rw add-one (rw take_own at (take_inserted i (length (take n xs)) xs e h))

  -- ---- a list that is being copied over another: the first k of l, then those of xs
  module _ (xs l : List A) (k : ℕ) (d : A) (in-xs : k < length xs) (in-l : k < length l) where
    pub copied_more : set (take k l ++ drop k xs) k (get_or l k d) ≡ take (k + 1) l ++ drop (k + 1) xs
    copied_more =
        rw (drop-cons xs k d in-xs, add-one, take-suc l k d in-l, append_assoc)
        (set_at (take k l) _ _ _ k (length-take-le k l (omega arith)))

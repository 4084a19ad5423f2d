-- Lists in two orders: what stands in them, and flags or-ed in two orders. Assumes nothing.
use Prim.Native.Nat.{ℕ, ◌+◌, ◌*◌, ◌/◌, ◌%◌, ◌<◌, ◌≤◌, max}
use mathlib.Core.Path.{◌≡◌, sym, ap, ap₂, ◌∙◌}
use mathlib.Core.List.{List, [], ◌∷◌, ◌++◌}
use native.Mathlib.Nat.{mod-lt, zero-lt-suc, max-le, le-max_left, le-max_right}
use native.Mathlib.Omega.{arith}
use lib.Arith.{bin_ind, digits_div, digits_mod}
use lib.Bits.{bit_or, or_step, or_comm}
use Rattle.line.specs.Regrouping.{Permuted, none, keep, swap, then, In, here, there}

-- ---- two orders
module _ {A : Type 0} where
  pub same_order_lem : (xs : List A) → Permuted xs xs
  same_order_lem [] = none
  same_order_lem (x ∷ xs) = keep (same_order_lem xs)

  pub permuted_back : {xs ys : List A} → Permuted xs ys → Permuted ys xs
  permuted_back none = none
  permuted_back (keep p) = keep (permuted_back p)
  permuted_back swap = swap
  permuted_back (then p q) = then (permuted_back q) (permuted_back p)

  pub in_permuted : {x : A} {xs ys : List A} → Permuted xs ys → In x xs → In x ys
  in_permuted none i = elim i [ ]
  in_permuted (keep p) here = here
  in_permuted (keep p) (there i) = there (in_permuted p i)
  in_permuted swap here = there here
  in_permuted swap (there here) = here
  in_permuted swap (there (there i)) = there (there i)
  in_permuted (then p q) i = in_permuted q (in_permuted p i)

  pub permuted_after : (xs : List A) {ys zs : List A} → Permuted ys zs → Permuted (xs ++ ys) (xs ++ zs)
  permuted_after [] p = p
  permuted_after (x ∷ xs) p = keep (permuted_after xs p)

  -- an element from behind a list to its front
  pub permuted_front : (xs : List A) (y : A) (zs : List A) → Permuted (xs ++ y ∷ zs) (y ∷ xs ++ zs)
  permuted_front [] y zs = same_order_lem (y ∷ zs)
  permuted_front (x ∷ xs) y zs = then (keep (permuted_front xs y zs)) swap

  -- two lists in front of a third change places
  pub permuted_swap : (xs ys zs : List A) → Permuted (xs ++ (ys ++ zs)) (ys ++ (xs ++ zs))
  permuted_swap [] ys zs = same_order_lem (ys ++ zs)
  permuted_swap (x ∷ xs) ys zs = then (keep (permuted_swap xs ys zs)) (permuted_back (permuted_front ys x (xs ++ zs)))

-- ---- flags that are or-ed in
odd_max : (a b : ℕ) → max (a % 2) (b % 2) < 2
odd_max a b =
    let x = mod-lt a (zero-lt-suc 1) in
    let y = mod-lt b (zero-lt-suc 1) in
    let m : max (a % 2) (b % 2) ≤ 1 = max-le (omega arith) (omega arith) in omega arith

or_half : (a b : ℕ) → bit_or a b / 2 ≡ bit_or (a / 2) (b / 2)
or_half a b = ap (λ (x : ℕ). x / 2) (or_step a b) ∙ digits_div (bit_or (a / 2) (b / 2)) (odd_max a b)

or_odd : (a b : ℕ) → bit_or a b % 2 ≡ max (a % 2) (b % 2)
or_odd a b = ap (λ (x : ℕ). x % 2) (or_step a b) ∙ digits_mod (bit_or (a / 2) (b / 2)) (odd_max a b)

max_up : (a b c : ℕ) → max (max a b) c ≤ max (max a c) b
max_up a b c =
    let i = le-max_left (max a c) b in
    let j = le-max_right (max a c) b in
    let k = le-max_left a c in
    let l = le-max_right a c in
    max-le (max-le (omega arith) (omega arith)) (omega arith)

max_swap : (a b c : ℕ) → max (max a b) c ≡ max (max a c) b
max_swap a b c = omega (arith, max_up a b c, max_up a c b)

pub or_swap : (a b c : ℕ) → bit_or (bit_or a b) c ≡ bit_or (bit_or a c) b
or_swap a =
    bin_ind (λ (n : ℕ). (b c : ℕ) → bit_or (bit_or n b) c ≡ bit_or (bit_or n c) b) (λ b c. or_comm b c)
    (λ n ih b c.
    or_step (bit_or n b) c ∙ ap₂ (λ (x y : ℕ). bit_or x (c / 2) * 2 + max y (c % 2)) (or_half n b) (or_odd n b)
    ∙ ap₂ (λ (x y : ℕ). x * 2 + y) (ih (b / 2) (c / 2)) (max_swap (n % 2) (b % 2) (c % 2))
    ∙ sym (or_step (bit_or n c) b
    ∙ ap₂ (λ (x y : ℕ). bit_or x (b / 2) * 2 + max y (b % 2)) (or_half n c) (or_odd n c)))
    a

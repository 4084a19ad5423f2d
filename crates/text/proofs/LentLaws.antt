-- What a caller's list holds after a part of it, from a place on, was lent to a call and given back.
-- Assumes nothing.
use mathlib.Core.Path.{◌≡◌, ap, ◌∙◌}
use mathlib.Core.List.{List, ◌++◌, append-nil}
use Prim.Native.Nat.{ℕ, ◌-◌}
use native.Mathlib.Nat.{le_of_eq}
use native.Mathlib.Omega.{arith}
use borrow.Rule.Slice.PartMut.{put_mid, mid_of}
use lib.ListN.{length, take, drop, length-drop, drop_of_length-le}
use lib.Seq.{take_all}

module _ (at : ℕ) (l : List ℕ) where
  -- the part that is lent
  pub tail_part : mid_of at (length l - at) l ≡ drop at l
  tail_part = take_all (length l - at) (drop at l) (rw (length-drop at l) (omega arith))

  pub tail_length : length (mid_of at (length l - at) l) ≡ length l - at
  tail_length = ap length tail_part ∙ length-drop at l

  -- what it leaves, given back as ys
  pub tail_back : (ys : List ℕ) → put_mid at (length l - at) l ys ≡ take at l ++ ys
  tail_back ys =
      ap (λ (q : List ℕ). take at l ++ q)
      (rw (drop_of_length-le (drop at l) (le_of_eq (length-drop at l))) (append-nil ys))

  -- a call that makes F of what it is lent
  pub tail_lent : (F : List ℕ → List ℕ) (ys : List ℕ) → ys ≡ F (mid_of at (length l - at) l)
      → put_mid at (length l - at) l ys ≡ take at l ++ F (drop at l)
  tail_lent F ys e = tail_back ys ∙ ap (λ (q : List ℕ). take at l ++ q) (e ∙ ap F tail_part)

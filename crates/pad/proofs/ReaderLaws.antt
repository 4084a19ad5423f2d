-- An outside reader that hears the changes from values to values holds the latter. Assumes nothing.
use Prim.Native.Nat.{ℕ, zero, suc, ◌+◌, ◌<◌, ◌≤◌}
use mathlib.Core.Path.{◌≡◌, refl, sym, ap, ◌∙◌}
use mathlib.Core.Bool.{Bool, true, false}
use mathlib.Core.List.{List, [], ◌∷◌, ◌++◌, append_assoc}
use native.Mathlib.Omega.{arith}
use borrow.Author.Tests.{eqb-true}
use lib.ListN.{length, set}
use lib.IntN.{ℤ, pos, negsuc}
use Rattle.pad.specs.Pads.{place_of, element_at, sameℤ, changes, hears, tabulate}
use Rattle.pad.proofs.PlaceLaws.{place_element}

-- ---- the reader
pub same_value : (x y : ℤ) → sameℤ x y ≡ true → x ≡ y
same_value (pos a) (pos b) e = ap pos (eqb-true a b e)
same_value (pos a) (negsuc b) e = let z : ◌≡◌ {A = ℕ} 0 1 = cc in absurd (omega arith)
same_value (negsuc a) (pos b) e = let z : ◌≡◌ {A = ℕ} 0 1 = cc in absurd (omega arith)
same_value (negsuc a) (negsuc b) e = ap negsuc (eqb-true a b e)

set_at : (ps : List ℤ) (x y : ℤ) (xs : List ℤ) → set (ps ++ x ∷ xs) (length ps) y ≡ ps ++ y ∷ xs
set_at [] x y xs = refl
set_at (p ∷ ps) x y xs = ap (λ (l : List ℤ). p ∷ l) (set_at ps x y xs)

grown : (ps : List ℤ) (y : ℤ) → length (ps ++ y ∷ []) ≡ suc (length ps)
grown [] y = refl
grown (p ∷ ps) y = ap suc (grown ps y)

hears-from : (ps xs ys : List ℤ) → length xs ≡ length ys → length ps + length xs ≤ 27
    → hears (ps ++ xs) (changes (length ps) xs ys) ≡ ps ++ ys
unfolding hears changes
hears-from ps [] [] h l = refl
hears-from ps [] (y ∷ ys) h l = absurd (omega arith)
hears-from ps (x ∷ xs) [] h l = absurd (omega arith)
hears-from ps (x ∷ xs) (y ∷ ys) h l =
    by (sameℤ x y) refl
    (rw (grown ps y, append_assoc, append_assoc) at
    (hears-from (ps ++ y ∷ []) xs ys (omega arith) (omega (arith, grown ps y))))
  where
    by : (t : Bool) → sameℤ x y ≡ t → hears (ps ++ y ∷ xs) (changes (suc (length ps)) xs ys) ≡ ps ++ y ∷ ys
        → hears (ps ++ x ∷ xs) (changes (length ps) (x ∷ xs) (y ∷ ys)) ≡ ps ++ y ∷ ys
    by true e ih = rw (e, same_value x y e) ih
    by false e ih =
        let k : length ps < 27 = omega arith in
        let at : set (ps ++ x ∷ xs) (place_of (element_at (length ps))) y ≡ ps ++ y ∷ xs =
        ap (λ (n : ℕ). set (ps ++ x ∷ xs) n y) (place_element (length ps) k) ∙ set_at ps x y xs in
        rw e (ap (λ (l : List ℤ). hears l (changes (suc (length ps)) xs ys)) at ∙ ih)

pub hears-changes : (xs ys : List ℤ) → length xs ≡ 27 → length ys ≡ 27 → hears xs (changes 0 xs ys) ≡ ys
hears-changes xs ys h l = hears-from [] xs ys (h ∙ sym l) (omega arith)

pub tabulated : (f : ℕ → ℤ) (n k : ℕ) → length (tabulate f n k) ≡ n
unfolding tabulate
tabulated f zero k = refl
tabulated f (suc n) k = ap suc (tabulated f n (suc k))

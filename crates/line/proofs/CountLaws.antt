-- Laws of counts and places of bytes, and of the sign of a key. Assumes nothing.
use Prim.Native.Nat.{ℕ, suc, ◌+◌, ◌≤◌, ◌<◌}
use mathlib.Core.Path.{◌≡◌, refl, ap, sym, ◌∙◌}
use mathlib.Core.List.{List, [], ◌∷◌, ◌++◌}
use mathlib.Core.Bool.{Bool, true, false}
use lib.ListN.{length, drop, get_or, length-drop}
use lib.Seq.{drop-cons, drop-length}
use native.Mathlib.Numerals.{add-one}
use lib.Dec.{eqb}
use borrow.Author.Tests.{eq-eqb, ne_eqb}
use native.Mathlib.Omega.{arith}
use Rattle.text.specs.Bytes.{first_of}
use Rattle.text.specs.Inner.{every}
use Rattle.text.proofs.BytesLaws.{first_le}
use Rattle.text.proofs.ListLaws.{off, both_parts}
use Rattle.line.specs.declared.parser.AxisRange.{AxisRange}
use Rattle.line.specs.declared.parser.AxisRange.TheVariants as Ar
use Rattle.line.specs.Fields.{find_from, count_of}
use Rattle.line.specs.Pairs.{half_of, skip_of}

pub find_le : (b : ℕ) (s : List ℕ) (p : ℕ) → p ≤ length s → find_from b s p ≤ length s
find_le b s p h = omega (arith, first_le b (drop p s), length-drop p s)

-- ---- the count, byte by byte
module _ (b : ℕ) (s : List ℕ) (p : ℕ) where
  pub count_at : p < length s → get_or s p 0 ≡ b → count_of b (drop p s) ≡ suc (count_of b (drop (p + 1) s))
  unfolding count_of
  count_at h e = simp (drop-cons s p 0 h, eq-eqb (get_or s p 0) b e, add-one p)

  pub count_on : p < length s → (get_or s p 0 ≡ b → ⊥) → count_of b (drop p s) ≡ count_of b (drop (p + 1) s)
  unfolding count_of
  count_on h e = simp (drop-cons s p 0 h, ne_eqb (get_or s p 0) b e, add-one p)

  pub count_end : length s ≤ p → p ≤ length s → count_of b (drop p s) ≡ 0
  unfolding count_of
  count_end h g = let e : p ≡ length s = omega arith in simp (e, drop-length s)

-- a byte that stands in a list stands at a place of it
pub first_below : (b : ℕ) (s : List ℕ) → 0 < count_of b s → first_of b s < length s
unfolding first_of count_of
first_below b [] h = omega arith
first_below b (x ∷ s) h = below (eqb x b) refl (first_below b s)
  where
    below : (t : Bool) → eqb x b ≡ t → (0 < count_of b s → first_of b s < length s) → first_of b (x ∷ s) < length (x ∷ s)
    below true e _ = rw e (omega arith)
    below false e ih = rw e (omega (arith, ih (rw e at h)))

-- ---- the sign of a key
skip_one : (h : AxisRange) → skip_of h ≤ 1
skip_one Ar.UpperHalf = omega arith
skip_one Ar.LowerHalf = omega arith
skip_one Ar.Full = omega arith

pub skip_le : (k : List ℕ) → skip_of (half_of k) ≤ length k
unfolding half_of
skip_le [] = omega arith
skip_le (x ∷ k) = omega (arith, skip_one (half_of (x ∷ k)))

-- ---- counts of texts put together, and of texts of which every byte passes a test
pub count_append : (b : ℕ) (s t : List ℕ) → count_of b (s ++ t) ≡ count_of b s + count_of b t
unfolding count_of
count_append b [] t = omega arith
count_append b (x ∷ s) t = by (eqb x b) refl (count_append b s t)
  where
    by : (u : Bool) → eqb x b ≡ u → count_of b (s ++ t) ≡ count_of b s + count_of b t
        → count_of b (x ∷ (s ++ t)) ≡ count_of b (x ∷ s) + count_of b t
    by true e ih = rw e (omega arith)
    by false e ih = rw e ih

pub count_none : (f : ℕ → Bool) (b : ℕ) → f b ≡ false → (s : List ℕ) → every f s ≡ true → count_of b s ≡ 0
unfolding count_of every
count_none f b none [] h = refl
count_none f b none (x ∷ s) h =
    let w = both_parts (f x) (every f s) h in
    let other : (x ≡ b → ⊥) = λ e. off (sym none ∙ ap f (sym e) ∙ w.0) in
    rw (ne_eqb x b other) (count_none f b none s w.1)

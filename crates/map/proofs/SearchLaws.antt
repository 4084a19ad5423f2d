-- Laws of `first_text`: texts that lack another.
-- Assumes nothing.
use Prim.Native.Nat.{ℕ, suc, ◌+◌, ◌<◌, ◌≤◌}
use mathlib.Core.Path.{◌≡◌, refl, sym, ap}
use mathlib.Core.Bool.{Bool, true, false}
use mathlib.Core.List.{List, [], ◌∷◌, ◌++◌}
use native.Mathlib.Omega.{arith}
use borrow.Author.Tests.{ne_eqb, eqb-false}
use lib.Dec.{eqb}
use lib.ListN.{length, take, drop, take-append-drop}
use Rattle.text.specs.Bytes.{pick, both, same}
use Rattle.text.proofs.ListLaws.{off}
use Rattle.text.proofs.BytesLaws.{same_equal}
use Rattle.line.specs.Fields.{count_of}
use Rattle.line.proofs.CountLaws.{count_append}
use Rattle.line.proofs.JoinLaws.{Free, free_cons}
use Rattle.text.specs.Search.{begins_text, first_text}

-- p is nowhere in s
abbrev pub Lacks : List ℕ → List ℕ → Type 0
Lacks p s = first_text p s ≡ length s

pub lacks_none : (p : List ℕ) → Lacks p []
unfolding first_text
lacks_none p = refl

lacks_cons : (p : List ℕ) (b : ℕ) (s : List ℕ) → begins_text p (b ∷ s) ≡ false → Lacks p s → Lacks p (b ∷ s)
unfolding first_text
lacks_cons p b s h l = rw h (ap suc l)

cons_lacks : (p : List ℕ) (b : ℕ) (s : List ℕ) → Lacks p (b ∷ s) → (begins_text p (b ∷ s) ≡ false) × Lacks p s
unfolding first_text
cons_lacks p b s l = by (begins_text p (b ∷ s)) refl l
  where
    by : (t : Bool) → begins_text p (b ∷ s) ≡ t → pick t 0 (suc (first_text p s)) ≡ suc (length s)
        → (begins_text p (b ∷ s) ≡ false) × Lacks p s
    by true e h = absurd (omega arith)
    by false e h = (e, omega arith)

-- ---- two texts with a byte between them that p lacks
module _ (c : ℕ) where
  begins_cut : (p f s : List ℕ) → Free c p → begins_text p f ≡ false → begins_text p (f ++ c ∷ s) ≡ false
  unfolding same
  begins_cut [] f s free h = absurd (off (sym h))
  begins_cut (x ∷ p) [] s free h =
      let w = free_cons c x p free in
      let n = eqb-false x c w.0 in
      rw (ne_eqb c x (λ e. n (sym e)))
  begins_cut (x ∷ p) (y ∷ f) s free h = by (eqb y x) refl h (begins_cut p f s (free_cons c x p free).1)
    where
      by : (t : Bool) → eqb y x ≡ t → both t (begins_text p f) ≡ false
          → (begins_text p f ≡ false → begins_text p (f ++ c ∷ s) ≡ false)
          → both (eqb y x) (begins_text p (f ++ c ∷ s)) ≡ false
      by true e q ih = rw e (ih q)
      by false e q ih = rw e

  pub lacks_join : (p : List ℕ) → Free c p → begins_text p [] ≡ false → (f s : List ℕ) → Lacks p f → Lacks p s
      → Lacks p (f ++ c ∷ s)
  lacks_join p free some [] s h l = lacks_cons p c s (begins_cut p [] s free some) l
  lacks_join p free some (b ∷ f) s h l =
      let w = cons_lacks p b f h in
      lacks_cons p b (f ++ c ∷ s) (begins_cut p (b ∷ f) s free w.0) (lacks_join p free some f s w.1 l)

-- ---- a text without a byte that p has
part_count : (b n : ℕ) (s : List ℕ) → count_of b (take n s) ≤ count_of b s
part_count b n s =
    let e = count_append b (take n s) (drop n s) in
    let w : count_of b s ≡ count_of b (take n s) + count_of b (drop n s) = rw (take-append-drop n s) at e in
    omega arith

begins_count : (b : ℕ) (p s : List ℕ) → begins_text p s ≡ true → count_of b p ≤ count_of b s
begins_count b p s h =
    let e = same_equal (take (length p) s) p h in
    omega (arith, ap (count_of b) e, part_count b (length p) s)

not_begun : (b : ℕ) (p s : List ℕ) → 0 < count_of b p → Free b s → begins_text p s ≡ false
not_begun b p s h f = by (begins_text p s) refl
  where
    by : (t : Bool) → begins_text p s ≡ t → t ≡ false
    by true e = absurd (omega (arith, begins_count b p s e))
    by false e = refl

pub lacks_byte : (b : ℕ) (p s : List ℕ) → 0 < count_of b p → Free b s → Lacks p s
lacks_byte b p [] h f = lacks_none p
lacks_byte b p (x ∷ s) h f =
    lacks_cons p x s (not_begun b p (x ∷ s) h f) (lacks_byte b p s h (free_cons b x s f).1)

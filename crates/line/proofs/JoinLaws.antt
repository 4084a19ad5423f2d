-- Texts cut at a byte that one part lacks, and lines that are written field by field. Assumes nothing.
use Prim.Native.Nat.{ℕ, suc, ◌+◌}
use mathlib.Core.Path.{◌≡◌, refl, ap, ◌∙◌}
use mathlib.Core.List.{List, [], ◌∷◌, ◌++◌}
use mathlib.Core.Bool.{Bool, true, false}
use native.Mathlib.Omega.{arith}
use borrow.Author.Tests.{eq-eqb}
use lib.Dec.{eqb}
use lib.ListN.{length, take, drop}
use lib.Seq.{take_at, drop-append-add}
use Rattle.text.specs.Bytes.{byte, first_of}
use Rattle.line.specs.Fields.{count_of, before, fields_of, later_fields}
use Rattle.line.specs.Tiles.{tiled}

-- ---- texts without some byte
abbrev pub Free : ℕ → List ℕ → Type 0
Free b s = count_of b s ≡ 0

module _ (b : ℕ) where
  pub free_cons : (x : ℕ) (s : List ℕ) → Free b (x ∷ s) → (eqb x b ≡ false) × Free b s
  unfolding count_of
  free_cons x s h = by (eqb x b) refl
    where
      by : (t : Bool) → eqb x b ≡ t → (eqb x b ≡ false) × Free b s
      by true e = absurd (omega (arith, rw e at h))
      by false e = (e, rw e at h)

  -- the first b after a text without it
  pub first-after : (a t : List ℕ) → Free b a → first_of b (a ++ b ∷ t) ≡ length a
  unfolding first_of
  first-after [] t h = rw (eq-eqb b b refl)
  first-after (x ∷ a) t h = let w = free_cons x a h in rw w.0 (ap suc (first-after a t w.1))

  pub count_one : (a t : List ℕ) → Free b a → Free b t → count_of b (a ++ b ∷ t) ≡ 1
  unfolding count_of
  count_one [] t h k = rw (eq-eqb b b refl) (ap suc k)
  count_one (x ∷ a) t h k = let w = free_cons x a h in rw w.0 (count_one a t w.1 k)

  -- what stands before and after it
  pub take-before : (a t : List ℕ) → Free b a → take (first_of b (a ++ b ∷ t)) (a ++ b ∷ t) ≡ a
  take-before a t h = rw (first-after a t h) (take_at a (b ∷ t) (length a) refl)

  pub drop-after : (a t : List ℕ) → Free b a → drop (first_of b (a ++ b ∷ t) + 1) (a ++ b ∷ t) ≡ t
  drop-after a t h = rw (first-after a t h) (drop-append-add a (b ∷ t) 1)

-- ---- fields, each with a comma after it
unfoldable pub AllFree : List (List ℕ) → Type 0
AllFree [] = Unit {0}
AllFree (f ∷ fs) = Free (byte ",") f × AllFree fs

field-joined : (f t : List ℕ) → Free (byte ",") f → fields_of (f ++ byte "," ∷ t) ≡ f ∷ fields_of t
unfolding fields_of
field-joined [] t h = refl
field-joined (x ∷ f) t h =
    let w = free_cons (byte ",") x f h in
    rw w.0 (ap (before x) (field-joined f t w.1))

pub fields_joined : (fs : List (List ℕ)) → AllFree fs → fields_of (tiled fs) ≡ fs
unfolding tiled AllFree fields_of
fields_joined [] h = refl
fields_joined (f ∷ fs) h =
    field-joined f (tiled fs) h.0 ∙ ap (λ (l : List (List ℕ)). f ∷ l) (fields_joined fs h.1)

-- ---- a line of a first field, a name and pairs
abbrev pub line_of : List ℕ → List ℕ → List (List ℕ) → List ℕ
line_of u n fs = u ++ byte "," ∷ tiled (n ∷ fs)

pub later_fields_lem : (u n : List ℕ) (fs : List (List ℕ)) → Free (byte ",") u → AllFree (n ∷ fs)
    → later_fields (line_of u n fs) ≡ n ∷ fs
later_fields_lem u n fs h free = rw (drop-after (byte ",") u (tiled (n ∷ fs)) h) (fields_joined (n ∷ fs) free)

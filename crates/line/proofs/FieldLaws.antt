-- The fields of a line from a place on, as the walker meets them. Assumes nothing.
use Prim.Native.Nat.{ℕ, suc, ◌+◌, ◌-◌, ◌<◌}
use mathlib.Core.Path.{◌≡◌, refl, ap}
use mathlib.Core.List.{List, [], ◌∷◌}
use mathlib.Core.Bool.{Bool, true, false}
use lib.ListN.{length, take, drop, length-drop}
use lib.Seq.{drop-drop, length-take-le}
use lib.Dec.{eqb}
use native.Mathlib.Omega.{arith}
use Rattle.text.specs.Bytes.{byte, first_of}
use Rattle.text.proofs.BytesLaws.{first_le}
use Rattle.line.specs.Fields.{find_from, field, before, fields_of}

-- a text that is not empty begins with a field, which ends at the first comma
pub fields_cons : (t : List ℕ) → 0 < length t → fields_of t ≡ take (first_of (byte ",") t) t ∷ fields_of
    (drop (first_of (byte ",") t + 1) t)
unfolding fields_of first_of
fields_cons [] h = absurd (omega arith)
fields_cons (b ∷ []) h = alone (eqb b (byte ",")) refl
  where
    alone : (t : Bool) → eqb b (byte ",") ≡ t → fields_of (b ∷ []) ≡ take (first_of (byte ",") (b ∷ []))
        (b ∷ []) ∷ fields_of (drop (first_of (byte ",") (b ∷ []) + 1) (b ∷ []))
    alone true e = rw e
    alone false e = rw e
fields_cons (b ∷ c ∷ s) h = more (eqb b (byte ",")) refl (fields_cons (c ∷ s) (omega arith))
  where
    more : (t : Bool) → eqb b (byte ",") ≡ t → fields_of (c ∷ s) ≡ take (first_of (byte ",") (c ∷ s)) (c ∷ s) ∷ fields_of
        (drop (first_of (byte ",") (c ∷ s) + 1) (c ∷ s))
        → fields_of (b ∷ c ∷ s) ≡ take (first_of (byte ",") (b ∷ c ∷ s)) (b ∷ c ∷ s) ∷ fields_of
        (drop (first_of (byte ",") (b ∷ c ∷ s) + 1) (b ∷ c ∷ s))
    more true e ih = rw e
    more false e ih =
        let k : suc (first_of (byte ",") (c ∷ s)) + 1 ≡ suc (first_of (byte ",") (c ∷ s) + 1) = omega arith in
        rw (e, k) (ap (before b) ih)

module _ (s : List ℕ) (p : ℕ) (h : p < length s) where
  -- how far the comma is
  pub ahead : find_from (byte ",") s p - p ≡ first_of (byte ",") (drop p s)
  ahead = omega arith

  pub field-length : length (field s p (find_from (byte ",") s p)) ≡ first_of (byte ",") (drop p s)
  field-length = rw ahead (length-take-le (first_of (byte ",") (drop p s)) (drop p s) (first_le (byte ",") (drop p s)))

  pub fields_at : fields_of (drop p s) ≡ field s p (find_from (byte ",") s p) ∷ fields_of
      (drop (find_from (byte ",") s p + 1) s)
  fields_at =
      let n : 0 < length (drop p s) = omega (arith, length-drop p s) in
      let k : p + (first_of (byte ",") (drop p s) + 1) ≡ find_from (byte ",") s p + 1 = omega arith in
      rw (fields_cons (drop p s) n, ahead, drop-drop (first_of (byte ",") (drop p s) + 1) p s, k)

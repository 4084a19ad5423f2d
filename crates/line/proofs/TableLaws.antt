-- A test that is computed over a whole table holds at each entry. Assumes nothing.
use Prim.Native.Nat.{ℕ, zero, suc, ◌+◌, ◌<◌}
use mathlib.Core.Path.{◌≡◌, refl}
use mathlib.Core.Bool.{Bool, true, false}
use mathlib.Core.List.{List, [], ◌∷◌}
use native.Mathlib.Nat.{add-zero}
use native.Mathlib.Omega.{arith}
use lib.Dec.{T}
use lib.ListN.{length, get_or}
use Rattle.text.specs.Bytes.{both}
use Rattle.line.specs.Tables.{every}

pub both-T : (a b : Bool) → T (both a b) → T a × T b
both-T true b t = (tt, t)
both-T false b t = absurd t

module _ {A : Type 0} (f : ℕ → A → Bool) (d : A) where
  every-from : (xs : List A) (i : ℕ) → T (every f i xs) → (k : ℕ) → k < length xs → T (f (i + k) (get_or xs k d))
  every-from [] i t k h = absurd (omega arith)
  every-from (x ∷ xs) i t zero h = rw add-zero (both-T (f i x) (every f (suc i) xs) t).0
  every-from (x ∷ xs) i t (suc k) h =
      let e : i + suc k ≡ suc i + k = omega arith in
      rw e (every-from xs (suc i) (both-T (f i x) (every f (suc i) xs) t).1 k (omega arith))

  pub every_at : (xs : List A) → T (every f 0 xs) → (k : ℕ) → k < length xs → T (f k (get_or xs k d))
  every_at xs t k h = let e : 0 + k ≡ k = omega arith in rw e at (every-from xs 0 t k h)

-- an entry that is there does not depend on the default
pub get_d_any : {A : Type 0} (xs : List A) (k : ℕ) (d e : A) → k < length xs → get_or xs k d ≡ get_or xs k e
get_d_any [] k d e h = absurd (omega arith)
get_d_any (x ∷ xs) zero d e h = refl
get_d_any (x ∷ xs) (suc k) d e h = get_d_any xs k d e (omega arith)

-- What a written row leaves of itself and of the others.
-- Assumes nothing.
use mathlib.Core.Bool.{Bool, true, false}
use mathlib.Core.List.{List}
use mathlib.Core.Path.{◌≡◌, refl, sym, ap, ◌∙◌}
use Prim.Native.Nat.{ℕ, ◌-◌, ◌≤◌, ◌<◌}
use native.Mathlib.Omega.{arith}
use lib.Dec.{eqb}
use lib.ListN.{length, set, length-set}
use lib.Seq.{get_or-set_same, get_or-set_other, set-set, set-get_or}
use borrow.Author.Tests.{eqb-true, eqb-false}
use Rattle.text.specs.Bytes.{pick}
use Rattle.store.specs.declared.rows.Row.{Row}
use Rattle.store.specs.Held.{Key}
use Rattle.store.specs.Rows.{unused, row_in, key_in, start_in, len_in, row_put, len_put, put_before, row_key, row_of}

module _ (w : List Row) (k : ℕ) (u : Key) (start len : ℕ) where
  pub put_long : length (row_put w k u start len) ≡ length w
  put_long = length-set w k _

  pub row_other : (j : ℕ) → (j ≡ k → ⊥) → row_in (row_put w k u start len) j ≡ row_in w j
  row_other j n = get_or-set_other w k j _ unused n

  pub row_same : k < length w
      → row_in (row_put w k u start len) k ≡ row_of u start len
  row_same m = get_or-set_same w k _ unused m

-- its length alone
module _ (w : List Row) (k len : ℕ) where
  pub len_long : length (len_put w k len) ≡ length w
  len_long = length-set w k _

  pub len_other : (j : ℕ) → (j ≡ k → ⊥) → row_in (len_put w k len) j ≡ row_in w j
  len_other j n = get_or-set_other w k j _ unused n

  pub len_same : k < length w
      → row_in (len_put w k len) k ≡ row_of (key_in w k) (start_in w k) len
  len_same m = get_or-set_same w k _ unused m

-- and put back
pub len_back : (w : List Row) (k : ℕ) → k < length w → len_put (len_put w k 0) k (len_in w k) ≡ w
len_back w k m =
    ap (λ (r : Row). set (len_put w k 0) k (row_of (row_key r) r.start (len_in w k)))
    (len_same w k 0 m)
    ∙ set-set w k _ _ ∙ set-get_or w k unused

-- of the number before r
pub put_before_long : (a : List Row) (r len : ℕ) → length (put_before a r len) ≡ length a
put_before_long a r len = go (eqb r 0)
  where
    go : (b : Bool) → length (pick b a (len_put a (r - 1) len)) ≡ length a
    go true = refl
    go false = len_long a (r - 1) len

pub put_before_key : (a : List Row) (r len : ℕ) → r ≤ length a → (k : ℕ) → key_in (put_before a r len) k ≡ key_in a k
put_before_key a r len l k = go (eqb r 0) refl
  where
    written : (b : Bool) → eqb k (r - 1) ≡ b → (r ≡ 0 → ⊥) → key_in (len_put a (r - 1) len) k ≡ key_in a k
    written true e n =
        let same : k ≡ r - 1 = eqb-true k (r - 1) e in
        ap (λ (j : ℕ). key_in (len_put a (r - 1) len) j) same
        ∙ ap row_key (len_same a (r - 1) len (omega (arith, l, n)))
        ∙ ap (λ (j : ℕ). key_in a j) (sym same)
    written false e n = ap row_key (len_other a (r - 1) len k (eqb-false k (r - 1) e))

    go : (b : Bool) → eqb r 0 ≡ b → key_in (pick b a (len_put a (r - 1) len)) k ≡ key_in a k
    go true e = refl
    go false e = written (eqb k (r - 1)) refl (eqb-false r 0 e)

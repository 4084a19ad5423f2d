-- Lines by number: what one line more leaves, and what striking a key out does to the lines that are held.
-- Assumes nothing.
use mathlib.Core.Bool.{Bool, true, false}
use mathlib.Core.List.{List, [], ◌∷◌, ◌++◌}
use mathlib.Core.Path.{◌≡◌, refl, sym, ap, ap₂, ◌∙◌, subst}
use Prim.Native.Nat.{ℕ, zero, suc, ◌-◌, ◌≤◌, ◌<◌}
use native.Mathlib.Omega.{arith}
use lib.Dec.{eqb}
use lib.ListN.{length, get_or, take, drop}
use borrow.Author.Tests.{ne_eqb}
use Rattle.text.specs.Bytes.{pick}
use Rattle.store.specs.declared.chains.Link.{Link}
use Rattle.store.specs.declared.rows.Row.{Row}
use Rattle.store.specs.Held.{Key, Held, same_key, strike}
use Rattle.store.specs.Keys.{bucket, tag_of, next_in, Last, Chained}
use Rattle.store.specs.Layout.{texts}
use Rattle.store.specs.Rows.{row_in, row_put, row_key}
use Rattle.store.specs.Table.{living, source_of, line_at}
use Rattle.store.proofs.RowLaws.{texts_sum}
use Rattle.store.proofs.WriteLaws.{row_same, row_other}

-- ---- keys

-- chains of the first n numbers know no other key
module _ (K K' : ℕ → Key) (n : ℕ) (f : (k : ℕ) → k < n → K k ≡ K' k) where
  last_agree : (N b k c : ℕ) → k ≤ n → Last N K b k c → Last N K' b k c
  last_agree N b k c l s = record {
    near = λ j p q e. s.near j p q (ap (bucket N) (f j (omega arith)) ∙ e);
    kin = λ p. ap (bucket N) (sym (f (c - 1) (omega (arith, s.within)))) ∙ s.kin p;
    within = s.within;
  }

  pub chained_agree : (heads : List ℕ) (links : List Link) → Chained K heads links n → Chained K' heads links n
  chained_agree heads links s = record {
    linked = λ a l. (
      subst (λ (b : ℕ). Last (length heads) K' b a (next_in links a)) (ap (bucket (length heads)) (f a l))
          (last_agree (length heads) (bucket (length heads) (K a)) a (next_in links a) (omega arith) (s.linked a l).0),
      (s.linked a l).1 ∙ ap tag_of (f a l),
    );
    ends = λ b l. last_agree (length heads) b n (get_or heads b 0) (omega arith) (s.ends b l);
    most = s.most;
    alike = s.alike;
  }

-- ---- the lines of numbers

pub living-same : (S S' : ℕ → List Held) (n : ℕ) → ((k : ℕ) → k < n → S k ≡ S' k) → living S n ≡ living S' n
unfolding living
living-same S S' zero f = refl
living-same S S' (suc n) f =
    ap₂ (λ (x y : List Held). x ++ y) (living-same S S' n (λ k l. f k (omega arith))) (f n (omega arith))

strike-append : (u : Key) (xs ys : List Held) → strike u (xs ++ ys) ≡ strike u xs ++ strike u ys
unfolding strike
strike-append u [] ys = refl
strike-append u (h ∷ xs) ys = go (same_key u h.key) (strike-append u xs ys)
  where
    go : (b : Bool) → strike u (xs ++ ys) ≡ strike u xs ++ strike u ys
        → pick b (strike u (xs ++ ys)) (h ∷ strike u (xs ++ ys))
        ≡ pick b (strike u xs) (h ∷ strike u xs) ++ strike u ys
    go true e = e
    go false e = ap (λ (q : List Held). h ∷ q) e

pub strike-living : (u : Key) (S : ℕ → List Held) (n : ℕ)
    → strike u (living S n) ≡ living (λ (k : ℕ). strike u (S k)) n
unfolding living
strike-living u S zero = unfold strike in refl
strike-living u S (suc n) = strike-append u (living S n) (S n)
    ∙ ap (λ (q : List Held). q ++ strike u (S n)) (strike-living u S n)

-- lines that are no longer are no longer in all
pub living_most : (S S' : ℕ → List Held) (n : ℕ)
    → ((k : ℕ) → k < n → length (texts (S' k)) ≤ length (texts (S k)))
    → length (texts (living S' n)) ≤ length (texts (living S n))
unfolding living
living_most S S' zero g = omega arith
living_most S S' (suc n) g =
    omega (
      arith,
      living_most S S' n (λ k l. g k (omega arith)),
      g n (omega arith),
      texts_sum (living S n) (S n),
      texts_sum (living S' n) (S' n),
    )

-- ---- what a number gives

-- by its row
abbrev given_by : List ℕ → Row → List Held
given_by src r = pick (eqb r.len 0) [] (record { key = row_key r; line = take r.len (drop r.start src) } ∷ [])

pub gives_same : (t s : List ℕ) (a b : List Row) (old k : ℕ) → row_in b k ≡ row_in a k
    → line_at t s b old k ≡ line_at t s a old k
unfolding line_at
gives_same t s a b old k e = ap (λ (r : Row). given_by (source_of t s old k) r) e

module _ (t s : List ℕ) (a : List Row) (old n : ℕ) (u : Key) (start len : ℕ) where
  pub gives_other : (k : ℕ) → (k ≡ n → ⊥) → line_at t s (row_put a n u start len) old k ≡ line_at t s a old k
  gives_other k e = gives_same t s a (row_put a n u start len) old k (row_other a n u start len k e)

  pub gives_new : n < length a → 1 ≤ len
      → line_at t s (row_put a n u start len) old n
      ≡ record { key = u; line = take len (drop start (source_of t s old n)) } ∷ []
  unfolding line_at
  gives_new m p =
      ap (λ (r : Row). given_by (source_of t s old n) r) (row_same a n u start len m)
      ∙ ap (λ (x : Bool). pick x [] (record { key = u; line = take len (drop start (source_of t s old n)) } ∷ []))
      (ne_eqb len 0 (λ z. omega arith))

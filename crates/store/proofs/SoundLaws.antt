-- The soundness check: the loop of `survey` goes as `walk` does, and the tests of `take_stock` as `decode`.
-- Assumes nothing.
use mathlib.Core.Bool.{Bool, true, false, ◌&&◌}
use mathlib.Core.List.{List, []}
use mathlib.Core.Option.{Option, none, some}
use mathlib.Core.Path.{◌≡◌, refl, sym, ap, ap₂, ◌∙◌}
use Prim.Native.Nat.{ℕ, zero, suc, ◌+◌, ◌-◌, ◌≤◌, ◌<◌}
use native.Mathlib.Omega.{arith}
use lib.Dec.{leb}
use lib.ListN.{length, drop, length-drop}
use lib.Seq.{drop-drop}
use borrow.Author.Tests.{lt-leb, le-leb}
use Rattle.text.specs.Bytes.{pick}
use Rattle.store.specs.declared.records.Head.{Head}
use Rattle.store.specs.Decode.{head_at, held_of, zeroes, head_fits, cons_to, walk, guarded, decode}
use Rattle.store.specs.Inner.{known}
use Rattle.store.specs.Held.{Held, distinct, index_max, text_max}
use Rattle.store.specs.Layout.{Bytes}
use Rattle.store.specs.Inner.{Once}
use Rattle.store.proofs.BoolLaws.{and_both, and_false_right}
use Rattle.store.proofs.DecodeLaws.{walk_end, walk_on, walk_rows}
use Rattle.store.proofs.RecordLaws.{head_within, Fits, fits_of}

-- the loop of `survey`: the answer r, from `at` and `off` on
pub record Walking (i t : List ℕ) (r : Bool) (at off : ℕ) : Type 0 where
  pub index : at ≤ length i
  pub text : off ≤ length t
  pub fuel : ℕ
  pub enough : length i < fuel + at
  pub is : r ≡ known (walk fuel off (drop at i) (drop off t))

pub walking : (i t : List ℕ) → Walking i t (known (walk (suc (length i)) 0 i t)) 0 0
walking i t = record { index = omega arith; text = omega arith; fuel = suc (length i); enough = omega arith; is = refl }

module _ (i t : List ℕ) (r : Bool) (at off : ℕ) (w : Walking i t r at off) (head : Head)
    (e : head ≡ head_at (drop at i)) where
  size_is : head.size ≡ (head_at (drop at i)).size
  size_is = ap (λ (x : Head). x.size) e

  pub walking_end : head.size ≡ 0 → r ≡ zeroes (drop at i) && zeroes (drop off t)
  walking_end z = w.is ∙ go w.fuel w.enough
    where
      test : (b : Bool) → known {A = List Held} (pick b (some []) none) ≡ b
      test true = refl
      test false = refl

      go : (f : ℕ) → length i < f + at
          → known (walk f off (drop at i) (drop off t)) ≡ zeroes (drop at i) && zeroes (drop off t)
      go zero h = absurd (omega (arith, w.index))
      go (suc f) h = ap known (walk_end f off (drop at i) (drop off t) (sym size_is ∙ z))
          ∙ test (zeroes (drop at i) && zeroes (drop off t))

  module _ (n : head.size ≡ 0 → ⊥) (b : Bool) (fit : b ≡ head_fits off head (length t - off)) where
    fit' : head_fits off (head_at (drop at i)) (length (drop off t)) ≡ b
    fit' = sym (fit ∙ ap₂ (λ (x : Head) (m : ℕ). head_fits off x m) e (sym (length-drop off t)))

    pub walking_bad : b ≡ false → false ≡ r
    walking_bad q = sym (w.is ∙ go w.fuel w.enough)
      where
        go : (f : ℕ) → length i < f + at → known (walk f off (drop at i) (drop off t)) ≡ false
        go zero h = absurd (omega (arith, w.index))
        go (suc f) h =
            ap known (walk_on f off (drop at i) (drop off t) (λ z. n (size_is ∙ z))
            ∙ ap (λ (c : Bool). cons_to c (held_of (drop at i) (drop off t))
            (walk f (off + (head_at (drop at i)).len) (drop (head_at (drop at i)).size (drop at i))
            (drop (head_at (drop at i)).len (drop off t)))) (fit' ∙ q))

    pub walking_turn : b ≡ true → Walking i t r (at + head.size) (off + head.len)
    walking_turn q = go w.fuel w.enough w.is
      where
        known_cons : (h : Held) (o : Option (List Held)) → known (cons_to true h o) ≡ known o
        known_cons h none = refl
        known_cons h (some hs) = refl

        go : (f : ℕ) → length i < f + at → r ≡ known (walk f off (drop at i) (drop off t))
            → Walking i t r (at + head.size) (off + head.len)
        go zero h y = absurd (omega (arith, w.index))
        go (suc f) h y =
            let k : Fits off head (length t - off) = fits_of off head (length t - off) (sym fit ∙ q) in
            record {
              index = omega (arith, size_is, head_within (drop at i), length-drop at i, w.index);
              text = omega (arith, k.text, w.text);
              fuel = f;
              enough = less;
              is = y ∙ ap known (walk_on f off (drop at i) (drop off t) (λ z. n (size_is ∙ z))
                  ∙ ap (λ (c : Bool). cons_to c (held_of (drop at i) (drop off t))
                  (walk f (off + (head_at (drop at i)).len) (drop (head_at (drop at i)).size (drop at i))
                  (drop (head_at (drop at i)).len (drop off t)))) (fit' ∙ q))
                  ∙ known_cons (held_of (drop at i) (drop off t))
                  (walk f (off + (head_at (drop at i)).len) (drop (head_at (drop at i)).size (drop at i))
                  (drop (head_at (drop at i)).len (drop off t)))
                  ∙ ap (λ (x : Head). known (walk f (off + x.len) (drop x.size (drop at i))
                  (drop x.len (drop off t)))) (sym e)
                  ∙ ap₂ (λ (x z : List ℕ). known (walk f (off + head.len) x z)) (drop-drop head.size at i)
                  (drop-drop head.len off t);
            }
          where
            more : 1 ≤ head.size
            more = go' head.size n
              where
                go' : (x : ℕ) → (x ≡ 0 → ⊥) → 1 ≤ x
                go' zero m = absurd (m refl)
                go' (suc x) m = omega arith

            less : length i < f + (at + head.size)
            less = omega (arith, more)

-- the tests of `take_stock`
module _ (i t : List ℕ) where
  oversized : leb (length i) index_max && leb (length t) text_max ≡ false → known (decode i t) ≡ false
  unfolding decode
  oversized e = rw e

  pub sound_text : text_max < length t → known (decode i t) ≡ false
  sound_text l = oversized (and_false_right (leb (length i) index_max) _ (lt-leb _ text_max l))

  module _ (li : length i ≤ index_max) (lt : length t ≤ text_max) where
    sized : decode i t ≡ guarded (walk (suc (length i)) 0 i t)
    unfolding decode
    sized = rw (and_both _ _ (le-leb _ index_max li) (le-leb _ text_max lt))

    pub sound_walk : known (walk (suc (length i)) 0 i t) ≡ false → known (decode i t) ≡ false
    sound_walk e = rw sized (go (walk (suc (length i)) 0 i t) e)
      where
        go : (o : Option (List Held)) → known o ≡ false → known (guarded o) ≡ false
        go none q = refl
        go (some hs) q = let z : ◌≡◌ {A = ℕ} 0 1 = cc in absurd (omega arith)

    pub sound_once : Bytes i → known (walk (suc (length i)) 0 i t) ≡ true → (r : Bool) → Once i r
        → r ≡ known (decode i t)
    sound_once b e r o = sym (rw sized (go (walk (suc (length i)) 0 i t) refl e))
      where
        test : (c : Bool) (hs : List Held) → known (pick c (some hs) none) ≡ c
        test true hs = refl
        test false hs = refl

        go : (x : Option (List Held)) → walk (suc (length i)) 0 i t ≡ x → known x ≡ true → known (guarded x) ≡ r
        go none p q = let z : ◌≡◌ {A = ℕ} 0 1 = cc in absurd (omega arith)
        go (some hs) p q = test (distinct hs) hs
            ∙ sym (o 0 hs (walk_rows (suc (length i)) 0 i t hs p b (omega arith)).lies)
